-- What the core of a held state answers, told of the state.
use Rattle.std.proofs.Common.{◌≡◌, ℕ, sym, subst, List, Option, Some, None, Result, Ok, Err}
use Rattle.std.specs.Prelude.{IfOk, IfSome}
use Rattle.oss_body.specs.Mains.{code_main}
use Rattle.oss_code.specs.declared.code.CodeParts.{CodeParts}
use Rattle.oss_core.specs.Kept.{IsCore, IsRunning, Kept}
use Rattle.oss_machine.specs.Frames.{CodeScript}
use Rattle.oss_machine.specs.Machines.{asks}
use Rattle.oss_model.specs.Answers.{IsAnswer, IsStopped}
use Rattle.oss_model.specs.Bodies.{Start}
use Rattle.oss_model.specs.Machine.{State}
use Rattle.oss_model.specs.declared.answer.Answer.{Answer}
use Rattle.oss_held.specs.Needs.{IsNeeded}
use Rattle.oss_held.specs.States.{Contents, IsHeldState, IsOfRun, IsSame, kept_in}

-- a held state runs
pub runs : (h : Contents) → IsOfRun h → (code : CodeParts) × IsRunning code (kept_in h)
runs h r = (r.code, record { main = code_main r.code r.fuel; first = r.code.first; state = r.state; core = r.is.core })

-- what is the same is held of the same states
pub same_states : (h now : Contents) → IsSame h now → (code : CodeParts) (fuel : ℕ) (s : State CodeScript) → IsHeldState code fuel h s → IsHeldState code fuel now s
same_states h now e code fuel s is = record {
  core = subst (λ (k : Kept). IsCore code (code_main code fuel) code.first k s) (sym e.kept) is.core;
  needed = subst (IsNeeded s) (sym e.entries) is.needed;
}

pub same_run : (h now : Contents) → IsSame h now → IsOfRun h → IsOfRun now
same_run h now e r = record { code = r.code; fuel = r.fuel; state = r.state; is = same_states h now e r.code r.fuel r.state r.is }

-- the answer of a core is that of the state
pub answered : {E : Type 0} (r : Result (Option Answer) E) (k : Kept) (h : Contents) → kept_in h ≡ k
    → IfOk r (λ a. IfSome a (λ b. (code : CodeParts) (main : Start CodeScript) (first : List ℕ) (s : State CodeScript) → IsCore code main first k s → IsStopped (asks code) s × IsAnswer (asks code) s b))
    → IfOk r (λ a. IfSome a (λ b. (code : CodeParts) (fuel : ℕ) (s : State CodeScript) → IsHeldState code fuel h s → IsStopped (asks code) s × IsAnswer (asks code) s b))
answered (Ok (Some b)) k h e f = λ code fuel s is. f code (code_main code fuel) code.first s (subst (λ (x : Kept). IsCore code (code_main code fuel) code.first x s) e is.core)
answered (Ok None) k h e f = tt
answered (Err why) k h e f = tt

pub unanswered : {E : Type 0} (r : Result (Option Answer) E) (k : Kept) (h : Contents) → kept_in h ≡ k
    → IfOk r (λ a. a ≡ None → (code : CodeParts) (main : Start CodeScript) (first : List ℕ) (s : State CodeScript) → IsCore code main first k s → IsStopped (asks code) s → ⊥)
    → IfOk r (λ a. a ≡ None → (code : CodeParts) (fuel : ℕ) (s : State CodeScript) → IsHeldState code fuel h s → IsStopped (asks code) s → ⊥)
unanswered (Ok a) k h e f = λ none code fuel s is stopped. f none code (code_main code fuel) code.first s (subst (λ (x : Kept). IsCore code (code_main code fuel) code.first x s) e is.core) stopped
unanswered (Err why) k h e f = tt
