use Rattle.std.proofs.Common.{refl, sym, subst, List}
use Rattle.oss_lacks.specs.declared.lacks.TaskLacks.{TaskLacks}
use Rattle.oss_lacks.specs.Lacks.{AreTaskLacks}
use Rattle.oss_lacks.specs.Walks.{at_stop}
use Rattle.oss_lacks.proofs.walk.finish.Goals as goal

pub returns-in_ok-tasks-in-Ok : goal.returns-in_ok-tasks-in-Ok
returns-in_ok-tasks-in-Ok c = record { fault_is = refl; tasks = λ n h. subst (λ (ks : List TaskLacks). AreTaskLacks (at_stop n).ended ks) (sym c.in_ok-tasks-in-Ok.ensures) (c.in-Ok.ensures n h) }
