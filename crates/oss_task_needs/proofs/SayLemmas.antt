-- What clauses say, run by run and clause by clause.
use Rattle.std.proofs.Common.{◌≡◌, ◌≤◌, ◌<◌, ◌⊎◌, inl, inr, sym, ap, ◌∙◌, ℕ, Bool, true, false, List, ◌∷◌, Option, Some}
use Rattle.std.specs.Prelude.{if◌then◌else◌}
use Rattle.oss_syntax.specs.declared.access.Access.{Access}
use Rattle.oss_ranges.specs.declared.piece.Piece.{Piece}
use Rattle.oss_ranges.specs.Cells.{Assigns, is_within, value_at}
use Rattle.oss_needs.specs.declared.clause.Clause.{Clause}
use Rattle.oss_needs.specs.declared.clause.Given.{Given}
use Rattle.oss_needs.specs.Givens.{clause_by, with_clause}
use Rattle.oss_needs.proofs.GivenLemmas.{given_more}
use Rattle.oss_task_needs.specs.Saying.{AreGiven, IsSaid, given_at, or_no_word}
use Rattle.oss_task_needs.proofs.WithinLemmas.{bools, is_none, last_alone, last_too, same_beside, within_of}

pub said_none : (k : Clause) (lo : ℕ) (ps : List (Piece Given)) → IsSaid k lo lo ps ps
said_none k lo ps c = ap (λ (b : Bool). if b then with_clause k (given_at ps c) else given_at ps c) (sym (is_none lo c))

-- One run of cells more.
pub said_run : (k : Clause) (lo from to : ℕ) (first old new : List (Piece Given)) (found : Option Given) (g : Given) → lo ≤ from → from ≤ to → ((c : ℕ) → from ≤ c → c < to → value_at old c ≡ found)
    → g ≡ with_clause k (or_no_word found) → Assigns from to (Some g) old new → IsSaid k lo from first old → IsSaid k lo to first new
said_run k lo from to first old new found g l m run is assigned before c = go (bools (is_within from to c))
  where
    inside : is_within from to c ≡ true → given_at new c ≡ (if is_within lo to c then with_clause k (given_at first c) else given_at first c)
    inside h =
        let w = within_of from to c h in
        let new_is : given_at new c ≡ g = ap or_no_word (assigned c) ∙ ap (λ (b : Bool). or_no_word (if b then Some g else value_at old c)) h in
        let old_is : given_at old c ≡ or_no_word found = ap or_no_word (run c w.0 w.1) in
        let first_is : given_at old c ≡ given_at first c = before c ∙ ap (λ (b : Bool). if b then with_clause k (given_at first c) else given_at first c) (last_alone lo from to c h) in
        new_is ∙ is ∙ ap (with_clause k) (sym old_is ∙ first_is) ∙ ap (λ (b : Bool). if b then with_clause k (given_at first c) else given_at first c) (sym (last_too lo from to c l h))

    beside : is_within from to c ≡ false → given_at new c ≡ (if is_within lo to c then with_clause k (given_at first c) else given_at first c)
    beside h =
        let new_is : given_at new c ≡ given_at old c = ap or_no_word (assigned c) ∙ ap (λ (b : Bool). or_no_word (if b then Some g else value_at old c)) h in
        new_is ∙ before c ∙ ap (λ (b : Bool). if b then with_clause k (given_at first c) else given_at first c) (sym (same_beside lo from to c l m h))

    go : (is_within from to c ≡ true) ⊎ (is_within from to c ≡ false) → given_at new c ≡ (if is_within lo to c then with_clause k (given_at first c) else given_at first c)
    go (inl h) = inside h
    go (inr h) = beside h

-- One clause more.
pub said_more : (final : Bool) (a : Access) (rest : List Access) (old new : List (Piece Given)) → AreGiven final rest old → IsSaid (clause_by final a) a.range.lo a.range.hi old new → AreGiven final (a ∷ rest) new
said_more final a rest old new before said c =
    said c ∙ ap (λ (g : Given). if is_within a.range.lo a.range.hi c then with_clause (clause_by final a) g else g) (before c) ∙ sym (given_more final a rest c)
