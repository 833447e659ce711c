use Rattle.oss_core.proofs.RetoldLemmas.{told_begin}
use Rattle.oss_core.proofs.retelling.tell_tasks.Goals as goal

pub loop-number-init : goal.loop-number-init
loop-number-init g c = told_begin c.args.tasks.now c.args.tree.now c.requires.some (g.D.Deps.seen c.args.deps.now) c.requires.opens c.requires.given
