-- The faults of clauses, by functions that tell the same rights.
use Rattle.std.proofs.Common.{◌≡◌, ℕ, refl, ap, ◌∙◌, Bool, false, if◌then◌else◌, List, Some, None}
use Rattle.oss_syntax.specs.declared.access.Access.{Access}
use Rattle.oss_syntax.specs.declared.fault.FaultKind.TheVariants as fault
use Rattle.oss_model.specs.Rights.{Right, any_cell, is_released, holds_uncovered, is_mixed, right_from}
use Rattle.oss_model.specs.Context.{Context, clause_fault, lacks_right, release_fault, right_of, wait_on_fault}
use Rattle.oss_judge.specs.Parts.{cover_fault, wait_fault}
use Rattle.oss_judge.proofs.TestLemmas.{any_cell-same}

pub cover_same : (own other given wanted : ℕ → Right) (clauses : List Access) → ((c : ℕ) → own c ≡ other c) → ((c : ℕ) → given c ≡ wanted c)
    → cover_fault own given clauses ≡ cover_fault other wanted clauses
cover_same own other given wanted clauses same like =
    ap (λ b. if b then Some fault.Released else if any_cell (λ c. holds_uncovered (own c) (given c)) clauses then Some fault.NotCovered else None)
    (any_cell-same (λ c. is_released (own c)) (λ c. is_released (other c)) clauses (λ c. ap is_released (same c)))
    ∙ ap (λ b. if any_cell (λ c. is_released (other c)) clauses then Some fault.Released else if b then Some fault.NotCovered else None)
    (any_cell-same (λ c. holds_uncovered (own c) (given c)) (λ c. holds_uncovered (other c) (wanted c)) clauses
    (λ c. ap (λ r. holds_uncovered r (given c)) (same c) ∙ ap (holds_uncovered (other c)) (like c)))

pub wait_same : (own other : ℕ → Right) (named : List Access) → ((c : ℕ) → own c ≡ other c) → wait_fault own named ≡ wait_fault other named
wait_same own other named same =
    ap (λ b. if b then Some fault.Released else if any_cell (λ c. lacks_right (own c)) named then Some fault.NotCovered else None)
    (any_cell-same (λ c. is_released (own c)) (λ c. is_released (other c)) named (λ c. ap is_released (same c)))
    ∙ ap (λ b. if any_cell (λ c. is_released (other c)) named then Some fault.Released else if b then Some fault.NotCovered else None)
    (any_cell-same (λ c. lacks_right (own c)) (λ c. lacks_right (other c)) named (λ c. ap lacks_right (same c)))

-- the fault of clauses
pub clause_is : (x : Context) (clauses : List Access) (final mixed : Bool) (given : ℕ → Right) → mixed ≡ any_cell (is_mixed final clauses) clauses
    → ((c : ℕ) → given c ≡ right_from final clauses c)
    → (if mixed then Some fault.MixedAccess else cover_fault (right_of x) given clauses) ≡ clause_fault x clauses final
clause_is x clauses final mixed given kept like =
    ap (λ b. if b then Some fault.MixedAccess else cover_fault (right_of x) given clauses) kept
    ∙ ap (λ f. if any_cell (is_mixed final clauses) clauses then Some fault.MixedAccess else f) (cover_same (right_of x) (right_of x) given (right_from final clauses) clauses (λ c. refl) like)

-- the fault of a release
pub release_is : (x : Context) (clauses : List Access) (own given : ℕ → Right) → ((c : ℕ) → own c ≡ right_of x c) → ((c : ℕ) → given c ≡ right_from false clauses c)
    → cover_fault own given clauses ≡ release_fault x clauses
release_is x clauses own given same like = cover_same own (right_of x) given (right_from false clauses) clauses same like

-- the fault of a wait for cells
pub wait_is : (x : Context) (named : List Access) (own : ℕ → Right) → ((c : ℕ) → own c ≡ right_of x c) → wait_fault own named ≡ wait_on_fault x named
wait_is x named own same = wait_same own (right_of x) named same
