-- What a task asks, run by run.
use Rattle.std.proofs.Common.{◌≡◌, ◌≤◌, ◌<◌, ◌⊎◌, inl, inr, refl, sym, subst, ap, ◌∙◌, ℕ, Bool, true, false, List, ◌∷◌, Option, Some, None, arith}
use Rattle.std.specs.Prelude.{if◌then◌else◌}
use Rattle.oss_ranges.specs.declared.piece.Piece.{Piece}
use Rattle.oss_ranges.specs.Cells.{Assigns, is_within, value_at}
use Rattle.oss_needs.specs.declared.clause.Clause.{Clause}
use Rattle.oss_needs.specs.declared.demand.Demand.{Demand}
use Rattle.oss_needs.specs.declared.demand.Demand.TheVariants.{Create}
use Rattle.oss_needs.specs.declared.need.Need.{Need}
use Rattle.oss_needs.specs.Needs.{IsNeed}
use Rattle.oss_task_needs.specs.Asking.{AreKept, Asked, IsAsked, IsAskedFor, IsKept, asks, asks_for, creates, is_asked_for}
use Rattle.oss_task_needs.proofs.WithinLemmas.{bools, is_behind, is_none, last_alone, last_too, same_beside, within_of}

-- what is kept, of other demands and in another place, that are the same
moved : (ds es : List Demand) (x y : Option Need) → es ≡ ds → y ≡ x → IsKept ds x → IsKept es y
moved ds es x y e f k = subst (λ (zs : List Demand). IsKept zs y) (sym e) (subst (λ (z : Option Need). IsKept ds z) (sym f) k)

pub asked_none : (d : Demand) (lo : ℕ) (ps : List (Piece Need)) → IsAsked d lo lo ps ps
asked_none d lo ps asked kept c = moved (asked c) (asks d lo lo asked c) (value_at ps c) (value_at ps c) (ap (λ (b : Bool). if b then d ∷ asked c else asked c) (is_none lo c)) refl (kept c)

-- One run of cells more.
pub asked_run : (d : Demand) (lo from to : ℕ) (first old new : List (Piece Need)) (found : Option Need) (n : Need) → lo ≤ from → from ≤ to → ((c : ℕ) → from ≤ c → c < to → value_at old c ≡ found)
    → ((ds : List Demand) → IsKept ds found → IsNeed (d ∷ ds) n) → Assigns from to (Some n) old new → IsAsked d lo from first old → IsAsked d lo to first new
asked_run d lo from to first old new found n l m run more assigned before asked kept c = go (bools (is_within from to c))
  where
    inside : is_within from to c ≡ true → IsKept (asks d lo to asked c) (value_at new c)
    inside h =
        let w = within_of from to c h in
        let here : IsKept (asked c) found = moved (asks d lo from asked c) (asked c) (value_at old c) found (sym (ap (λ (b : Bool). if b then d ∷ asked c else asked c) (last_alone lo from to c h))) (sym (run c w.0 w.1)) (before asked kept c) in
        moved (d ∷ asked c) (asks d lo to asked c) (Some n) (value_at new c) (ap (λ (b : Bool). if b then d ∷ asked c else asked c) (last_too lo from to c l h)) (assigned c ∙ ap (λ (b : Bool). if b then Some n else value_at old c) h) (more (asked c) here)

    beside : is_within from to c ≡ false → IsKept (asks d lo to asked c) (value_at new c)
    beside h =
        moved (asks d lo from asked c) (asks d lo to asked c) (value_at old c) (value_at new c) (ap (λ (b : Bool). if b then d ∷ asked c else asked c) (same_beside lo from to c l m h)) (assigned c ∙ ap (λ (b : Bool). if b then Some n else value_at old c) h)
        (before asked kept c)

    go : (is_within from to c ≡ true) ⊎ (is_within from to c ≡ false) → IsKept (asks d lo to asked c) (value_at new c)
    go (inl h) = inside h
    go (inr h) = beside h

-- The creation of a task.
pub asked_for_none : (ks : List (Piece Clause)) (ps : List (Piece Need)) → IsAskedFor ks 0 ps ps
asked_for_none ks ps asked kept c =
    moved (asked c) (asks_for (is_asked_for ks 0) asked c) (value_at ps c) (value_at ps c) (ap (λ (b : Bool). creates (if b then value_at ks c else None) (asked c)) (is_none 0 c)) refl (kept c)

listed : (ks : List (Piece Clause)) (from to c : ℕ) (k : Clause) (ds : List Demand) → from ≤ to → ((e : ℕ) → from ≤ e → e < to → value_at ks e ≡ Some k)
    → creates (is_asked_for ks to c) ds ≡ (if is_within from to c then Create k ∷ creates (is_asked_for ks from c) ds else creates (is_asked_for ks from c) ds)
listed ks from to c k ds m run = go (bools (is_within from to c))
  where
    inside : is_within from to c ≡ true → creates (is_asked_for ks to c) ds ≡ (if is_within from to c then Create k ∷ creates (is_asked_for ks from c) ds else creates (is_asked_for ks from c) ds)
    inside h =
        let w = within_of from to c h in
        ap (λ (b : Bool). creates (if b then value_at ks c else None) ds) (last_too 0 from to c (omega arith) h) ∙ ap (λ (v : Option Clause). creates v ds) (run c w.0 w.1)
        ∙ ap (λ (b : Bool). Create k ∷ creates (if b then value_at ks c else None) ds) (sym (last_alone 0 from to c h)) ∙ ap (λ (b : Bool). if b then Create k ∷ creates (is_asked_for ks from c) ds else creates (is_asked_for ks from c) ds) (sym h)

    beside : is_within from to c ≡ false → creates (is_asked_for ks to c) ds ≡ (if is_within from to c then Create k ∷ creates (is_asked_for ks from c) ds else creates (is_asked_for ks from c) ds)
    beside h =
        ap (λ (b : Bool). creates (if b then value_at ks c else None) ds) (same_beside 0 from to c (omega arith) m h)
        ∙ ap (λ (b : Bool). if b then Create k ∷ creates (is_asked_for ks from c) ds else creates (is_asked_for ks from c) ds) (sym h)

    go : (is_within from to c ≡ true) ⊎ (is_within from to c ≡ false) → creates (is_asked_for ks to c) ds ≡ (if is_within from to c then Create k ∷ creates (is_asked_for ks from c) ds else creates (is_asked_for ks from c) ds)
    go (inl h) = inside h
    go (inr h) = beside h

pub asked_for_run : (ks : List (Piece Clause)) (from to : ℕ) (k : Clause) (first old new : List (Piece Need)) → from ≤ to → ((e : ℕ) → from ≤ e → e < to → value_at ks e ≡ Some k)
    → IsAsked (Create k) from to old new → IsAskedFor ks from first old → IsAskedFor ks to first new
asked_for_run ks from to k first old new m run now before asked kept c =
    moved (asks (Create k) from to (asks_for (is_asked_for ks from) asked) c) (asks_for (is_asked_for ks to) asked c) (value_at new c) (value_at new c) (listed ks from to c k (asked c) m run) refl
    (now (asks_for (is_asked_for ks from) asked) (before asked kept) c)

-- A run of cells of which the clauses say nothing.
passed : (ks : List (Piece Clause)) (from to c : ℕ) (ds : List Demand) → from ≤ to → ((e : ℕ) → from ≤ e → e < to → value_at ks e ≡ None) → creates (is_asked_for ks to c) ds ≡ creates (is_asked_for ks from c) ds
passed ks from to c ds m run = go (bools (is_within from to c))
  where
    inside : is_within from to c ≡ true → creates (is_asked_for ks to c) ds ≡ creates (is_asked_for ks from c) ds
    inside h =
        let w = within_of from to c h in
        ap (λ (b : Bool). creates (if b then value_at ks c else None) ds) (last_too 0 from to c (omega arith) h) ∙ ap (λ (v : Option Clause). creates v ds) (run c w.0 w.1)
        ∙ ap (λ (b : Bool). creates (if b then value_at ks c else None) ds) (sym (last_alone 0 from to c h))

    go : (is_within from to c ≡ true) ⊎ (is_within from to c ≡ false) → creates (is_asked_for ks to c) ds ≡ creates (is_asked_for ks from c) ds
    go (inl h) = inside h
    go (inr h) = ap (λ (b : Bool). creates (if b then value_at ks c else None) ds) (same_beside 0 from to c (omega arith) m h)

pub asked_for_past : (ks : List (Piece Clause)) (from to : ℕ) (first old : List (Piece Need)) → from ≤ to → ((e : ℕ) → from ≤ e → e < to → value_at ks e ≡ None) → IsAskedFor ks from first old → IsAskedFor ks to first old
asked_for_past ks from to first old m run before asked kept c =
    moved (asks_for (is_asked_for ks from) asked c) (asks_for (is_asked_for ks to) asked c) (value_at old c) (value_at old c) (passed ks from to c (asked c) m run) refl (before asked kept c)

-- Behind the last cell the clauses say nothing.
whole : (ks : List (Piece Clause)) (end c : ℕ) → ((e : ℕ) → end ≤ e → value_at ks e ≡ None) → value_at ks c ≡ is_asked_for ks end c
whole ks end c past = go (bools (is_within 0 end c))
  where
    behind : is_within 0 end c ≡ false → end ≤ c
    behind h = is_behind end c h

    go : (is_within 0 end c ≡ true) ⊎ (is_within 0 end c ≡ false) → value_at ks c ≡ is_asked_for ks end c
    go (inl h) = ap (λ (b : Bool). if b then value_at ks c else None) (sym h)
    go (inr h) = past c (behind h) ∙ ap (λ (b : Bool). if b then value_at ks c else None) (sym h)

pub asked_for_all : (ks : List (Piece Clause)) (end : ℕ) (first old : List (Piece Need)) → ((e : ℕ) → end ≤ e → value_at ks e ≡ None) → IsAskedFor ks end first old
    → (asked : Asked) → AreKept asked (value_at first) → AreKept (asks_for (value_at ks) asked) (value_at old)
asked_for_all ks end first old past before asked kept c =
    moved (asks_for (is_asked_for ks end) asked c) (asks_for (value_at ks) asked c) (value_at old c) (value_at old c) (ap (λ (v : Option Clause). creates v (asked c)) (whole ks end c past)) refl (before asked kept c)
