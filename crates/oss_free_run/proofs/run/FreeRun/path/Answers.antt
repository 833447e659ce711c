use Rattle.std.proofs.Common.{ap, ◌∙◌, List, map}
use Rattle.oss_free_run.specs.declared.task.FreeTask.{FreeTask}
use Rattle.oss_free_run.specs.FreeTasks.{newest}
use Rattle.oss_free_run.proofs.SeenLemmas.{if_ok}
use Rattle.oss_free_run.proofs.TurnLemmas.{path_is}
use Rattle.oss_free_run.proofs.run.FreeRun.path.Goals as goal

pub returns : goal.returns
returns c =
    if_ok c.newest_of.result
    (λ path e code fuel s. path_is code fuel c.args.self.now s path.items (e ∙ ap (λ (ks : List FreeTask). map newest ks) c.as_slice.ensures)) c.newest_of.ensures
