-- No move takes away what is done, satisfied, ready, complete or waited for.
use Rattle.std.proofs.Common.{◌≡◌, ℕ, List, true}
use Rattle.oss_model.specs.Bodies.{Program, Start}
use Rattle.oss_model.specs.Machine.{Task, State, At}
use Rattle.oss_model.specs.Moves.{is_ended, Moved, steps, lets, joins}
use Rattle.oss_model.specs.Sequence.{Running}
use Rattle.oss_model.specs.Agreement.{Agrees}
use Rattle.oss_model.specs.Claims.{DoneStays, WriteStays, ReadStays, JoinStays, ReadyStays, CompleteStays, WaitStays, TaskGoesOn}
use Rattle.oss_model.proofs.GrowLemmas.{Grown, write_stays, read_stays, join_stays, access_done_stays, ready_stays, complete_stays, wait_stays}
use Rattle.oss_model.proofs.MoveLemmas.{step_grown, step_still, gave_grown, gave_still, let_may, join_may}

module _ {S : Type 0} (P : Program S) (main : Start S) (cells : List ℕ) (z : Running S) (s n : State S) (a : Agrees P main cells z s) where
  grown : Moved P s n → Grown P s n
  grown (steps {p = p} {t = t} can step) = step_grown P main s n p t _ a.made can.at_ can.goes step.tasks
  grown (lets {p = p} {c = c} {t = t} can go) = gave_grown P main s n p c t a.made a.started can.at_ (let_may P s p c t can) go.tasks
  grown (joins {p = p} {c = c} {op = op} {t = t} can go) = gave_grown P main s n p c t a.made a.started can.at_ (join_may P s p c op t can) go.tasks

  still : Moved P s n → (q : List ℕ) (u v : Task S) → At s q u → At n q v → is_ended P u.body ≡ true → is_ended P v.body ≡ true
  still (steps {p = p} {t = t} can step) q u v h k o = step_still P main s n p t _ a.made can.at_ can.goes step.tasks q u v h k o
  still (lets {p = p} {c = c} {t = t} can go) q u v h k o = gave_still P main s n p c t a.made a.started can.at_ (let_may P s p c t can) go.tasks q u v h k o
  still (joins {p = p} {c = c} {op = op} {t = t} can go) q u v h k o = gave_still P main s n p c t a.made a.started can.at_ (join_may P s p c op t can) go.tasks q u v h k o

pub done_law : (S : Type 0) → DoneStays S
done_law S c p P main cells z s n a m h = access_done_stays P main s n a.made a.started (grown P main cells z s n a m) c p h

pub write_law : (S : Type 0) → WriteStays S
write_law S c p P main cells z s n a m h = write_stays P main s n a.made a.started (grown P main cells z s n a m) c p h

pub read_law : (S : Type 0) → ReadStays S
read_law S c p P main cells z s n a m h = read_stays P main s n a.made a.started (grown P main cells z s n a m) c p h

pub join_law : (S : Type 0) → JoinStays S
join_law S c op p P main cells z s n a m h = join_stays P main s n a.made a.started (grown P main cells z s n a m) c op p h

pub ready_law : (S : Type 0) → ReadyStays S
ready_law S p x P main cells z s n a m h = ready_stays P main s n a.made a.started (grown P main cells z s n a m) p x h

pub complete_law : (S : Type 0) → CompleteStays S
complete_law S p P main cells z s n a m h = complete_stays P main s n a.made a.started (grown P main cells z s n a m) (still P main cells z s n a m) p h

pub wait_law : (S : Type 0) → WaitStays S
wait_law S P main cells z s n p t k act a m at_ l h = wait_stays P main s n a.made a.started (grown P main cells z s n a m) (still P main cells z s n a m) p t k act at_ l h

pub task_law : (S : Type 0) → TaskGoesOn S
task_law S P main cells z s n p t a m h = (grown P main cells z s n a m).keeps p t h
