-- Programs are lively, since their codes are.
use Rattle.std.proofs.Common.{ℕ, ap, subst}
use Rattle.oss_model.specs.Bodies.{Ask}
use Rattle.oss_model.specs.Bodies.Ask.{Await, Begin, Create, End, Fails, Fold, Print, Read, Release, Tick, Wait, WaitOn, Write}
use Rattle.oss_model.specs.Termination.{IsBusy, IsLively}
use Rattle.oss_meaning.specs.Expressions.{TaskBody, TreeScript}
use Rattle.oss_meaning.specs.Meaning.{asks_of}
use Rattle.oss_machine.specs.Machines.{asks}
use Rattle.oss_machine.proofs.LiveTheorem.{lively}
use Rattle.oss_lower_laws.specs.Programs.{ProgramsAreLively, moved_ask, moved_script}

-- an ask that is moved is as busy as before
busy_is : (places : TaskBody → ℕ) (a : Ask TreeScript) → IsBusy a → IsBusy (moved_ask places a)
busy_is places Begin h = tt
busy_is places Tick h = h
busy_is places (Read cell) h = tt
busy_is places (Write cell v) h = tt
busy_is places (Fold cell o v) h = tt
busy_is places (Create o) h = tt
busy_is places Await h = tt
busy_is places Wait h = tt
busy_is places (WaitOn named) h = tt
busy_is places (Release clauses) h = tt
busy_is places (Print text) h = tt
busy_is places End h = h
busy_is places (Fails kind) h = h

pub programs_are_lively : ProgramsAreLively
programs_are_lively all code of = record {
  bound = live.bound;
  rank = λ s answers. live.rank (moved_script (of.places) s) answers;
  below = λ s answers. live.below (moved_script (of.places) s) answers;
  falls = λ s answers answer busy.
      live.falls (moved_script (of.places) s) answers answer (subst IsBusy (ap (λ x. x.ask) (of.alike s answers)) (busy_is (of.places) (asks_of all s answers).ask busy));
}
  where
    live : IsLively (asks code)
    live = lively code
