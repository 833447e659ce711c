use Rattle.oss_endings.proofs.looking.wait_is_met.Goals as goal

pub returns-then-waits-clause-met : goal.returns-then-waits-clause-met
returns-then-waits-clause-met c = λ met wait. c.all_done.ensures.done met
