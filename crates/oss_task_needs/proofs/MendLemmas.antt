-- What is lacking and mended, run by run.
use Rattle.std.proofs.Common.{◌≡◌, ◌≤◌, ◌<◌, ◌⊎◌, inl, inr, sym, subst, ap, ◌∙◌, ℕ, Bool, true, false, List, [], Option, Some, None, arith}
use Rattle.std.specs.Prelude.{if◌then◌else◌}
use Rattle.oss_ranges.specs.declared.piece.Piece.{Piece}
use Rattle.oss_ranges.specs.Cells.{Assigns, is_within, value_at}
use Rattle.oss_needs.specs.declared.clause.Given.{Given}
use Rattle.oss_needs.specs.declared.demand.Demand.{Demand}
use Rattle.oss_needs.specs.declared.need.Need.{Need}
use Rattle.oss_task_needs.specs.Asking.{AreKept, Asked, IsKept}
use Rattle.oss_task_needs.specs.Mends.{only_before}
use Rattle.oss_task_needs.proofs.WithinLemmas.{bools, is_none, last_too, same_beside, within_of}

-- What a map has that has, of the cells before one, what a function makes of what clauses say and of what is asked.
abbrev pub HasBefore : {T : Type 0} → (Given → List Demand → Option T) → (ℕ → Given) → (ℕ → Option Need) → ℕ → List (Piece T) → Type 0
HasBefore f given needs from pieces = (asked : Asked) → AreKept asked needs → (c : ℕ) → value_at pieces c ≡ only_before from c (f (given c) (asked c))

pub has_none : {T : Type 0} (f : Given → List Demand → Option T) (given : ℕ → Given) (needs : ℕ → Option Need) (pieces : List (Piece T)) → pieces ≡ [] → HasBefore f given needs 0 pieces
has_none f given needs pieces e asked kept c =
    ap (λ ps. value_at ps c) e ∙ ap (λ (b : Bool). if b then f (given c) (asked c) else None) (sym (is_none 0 c))

-- One run of cells more.
pub has_run : {T : Type 0} (f : Given → List Demand → Option T) (given : ℕ → Given) (needs : ℕ → Option Need) (from to : ℕ) (old new : List (Piece T)) (g : Given) (found : Option Need) (n : Need) → from < to
    → ((c : ℕ) → from ≤ c → c < to → given c ≡ g) → ((c : ℕ) → from ≤ c → c < to → needs c ≡ found) → ((ds : List Demand) → IsKept ds found → IsKept ds (Some n))
    → ((ds : List Demand) → IsKept ds (Some n) → Assigns from to (f g ds) old new) → HasBefore f given needs from old → HasBefore f given needs to new
has_run f given needs from to old new g found n m says asks known assigned before asked kept c = go (bools (is_within from to c))
  where
    known_at : (e : ℕ) → from ≤ e → e < to → IsKept (asked e) (Some n)
    known_at e l h = known (asked e) (subst (λ (x : Option Need). IsKept (asked e) x) (asks e l h) (kept e))

    inside : is_within from to c ≡ true → value_at new c ≡ only_before to c (f (given c) (asked c))
    inside h =
        let w = within_of from to c h in
        assigned (asked c) (known_at c w.0 w.1) c ∙ ap (λ (b : Bool). if b then f g (asked c) else value_at old c) h ∙ ap (λ (k : Given). f k (asked c)) (sym (says c w.0 w.1))
        ∙ ap (λ (b : Bool). if b then f (given c) (asked c) else None) (sym (last_too 0 from to c (omega arith) h))

    beside : is_within from to c ≡ false → value_at new c ≡ only_before to c (f (given c) (asked c))
    beside h =
        assigned (asked from) (known_at from (omega arith) m) c ∙ ap (λ (b : Bool). if b then f g (asked from) else value_at old c) h ∙ before asked kept c
        ∙ ap (λ (b : Bool). if b then f (given c) (asked c) else None) (sym (same_beside 0 from to c (omega arith) (omega (arith, m)) h))

    go : (is_within from to c ≡ true) ⊎ (is_within from to c ≡ false) → value_at new c ≡ only_before to c (f (given c) (asked c))
    go (inl h) = inside h
    go (inr h) = beside h
