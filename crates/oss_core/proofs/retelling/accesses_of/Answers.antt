use Rattle.std.proofs.lemmas.Option.{slice_get-get_or}
use Rattle.oss_core.proofs.RetoldLemmas.{accesses_are}
use Rattle.oss_core.proofs.retelling.accesses_of.Goals as goal

pub returns : goal.returns
returns c =
    accesses_are c.args.tasks.now c.args.task.0 _ c.accesses.result (slice_get-get_or c.args.tasks.now c.args.task.0 c.index-tasks-task.result c.requires) c.accesses.ensures.rights
    c.accesses.ensures.rising
