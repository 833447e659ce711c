use Rattle.oss_core.proofs.UnfinishedLemmas.{one_more}
use Rattle.oss_core.proofs.answering.with_task.Goals as goal

pub returns-else-complete-clause-told : goal.returns-else-complete-clause-told
returns-else-complete-clause-told c = one_more c.args.tree.now.tasks c.args.task.0 c.args.unfinished (λ h. let t = c.complete.ensures.1 h in let f = c.if-complete.false in absurd cc) c.requires.told
