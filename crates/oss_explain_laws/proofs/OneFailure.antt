-- In the run of a code one thing failed, and a program is lowered to one code.
use Rattle.std.proofs.Common.{◌≡◌, ◌∙◌, ℕ, List, Option, sym, ap, subst}
use Rattle.oss_model.specs.Machine.{At, Task, find}
use Rattle.oss_model.proofs.TreeLemmas.{at_same}
use Rattle.oss_code.specs.declared.code.CodeParts.{CodeParts}
use Rattle.oss_machine.specs.declared.failure.Failure.{Failure}
use Rattle.oss_machine.specs.Frames.{CodeScript}
use Rattle.oss_machine.specs.Machines.{asks}
use Rattle.oss_body.specs.Acting.{acting}
use Rattle.oss_lower_laws.proofs.OneCode.{lowered_once}
use Rattle.oss_lower_laws.proofs.OneResult.{one_end}
use Rattle.oss_explain.specs.Endings.{IsFailureOf, failed_in}
use Rattle.oss_explain_laws.specs.Claims.{FailuresAreOne}

-- in the run of a code one thing failed
one_failure : (code : CodeParts) (fuel : ℕ) (f g : Option Failure) → IsFailureOf code fuel f → IsFailureOf code fuel g → f ≡ g
one_failure code fuel f g h k =
    let same = one_end (asks code) h.run h.end k.run k.end in
    let there : At k.stage.state k.stage.active h.end.task = sym (same.found k.stage.active) ∙ ap (λ (p : List ℕ). find h.stage.state.tasks p) (sym same.active) ∙ h.end.at_ in
    let task : h.end.task ≡ k.end.task = at_same k.stage.state k.stage.active h.end.task k.end.task there k.end.at_ in
    h.is ∙ ap (λ (t : Task CodeScript). failed_in code (acting (asks code) t.body.start t.body.found)) task ∙ sym k.is

pub failures_are_one : FailuresAreOne
failures_are_one all a b x y fuel f g h k =
    one_failure a fuel f g h (subst (λ (c : CodeParts). IsFailureOf c fuel g) (sym (lowered_once all a b x y)) k)
