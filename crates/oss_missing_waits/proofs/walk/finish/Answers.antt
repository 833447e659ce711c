use Rattle.std.proofs.Common.{subst, sym}
use Rattle.oss_missing_waits.specs.Lines.{AreLines, AreTaskLines}
use Rattle.oss_missing_waits.specs.Waits.{at_stop}
use Rattle.oss_missing_waits.specs.declared.waits.TaskWaits.{TaskWaits}
use Rattle.oss_missing_waits.proofs.walk.finish.Goals as goal

pub returns : goal.returns
returns c = record {
  main = λ all w n s. subst (λ (l : TaskWaits). AreLines all (at_stop n).acting.task.told l.main) (sym c.into_waits.ensures) (c.close_all.ensures.main all w n s);
  tasks = λ all w n s. subst (λ (l : TaskWaits). AreTaskLines all (at_stop n).ended l.tasks) (sym c.into_waits.ensures) (c.close_all.ensures.tasks all w n s);
}
