use Rattle.std.proofs.Common.{refl, ◌∙◌}
use Rattle.oss_serial.proofs.StageLemmas.{begun}
use Rattle.oss_serial.proofs.run.begin.Goals as goal

pub returns-clause-stage : goal.returns-clause-stage
returns-clause-stage c =
    begun c.args.code.now c.args.fuel _ c.in_ok-current.ensures c.new.ensures (c.in_ok-from_slice.ensures.items ∙ c.as_slice.ensures ∙ c.first.ensures) c.new-2.ensures.items refl c.main_is_set.ensures
