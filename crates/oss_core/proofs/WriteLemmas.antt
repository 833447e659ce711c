-- Memory to which the runs of a part's writes are put, one after the other.
use Rattle.std.proofs.Common.{◌≡◌, ◌≢◌, ℕ, ◌+◌, ◌<◌, ◌≤◌, ◌⊎◌, inl, inr, refl, sym, ap, ◌∙◌, arith, List, length, length-set, Bool, true, false, Option, Some, None, get_or-set_same, get_or-set_other}
use Rattle.std.specs.Prelude.{if◌then◌else◌, slice_index, slice_set}
use Rattle.std.proofs.lemmas.Bool.Decides.{nat_tests}
use Rattle.oss_ranges.specs.declared.piece.Piece.{Piece}
use Rattle.oss_ranges.specs.Cells.{is_within, value_at}
use Rattle.oss_core.specs.Putting.{IsRunPut, IsWritten, or_value}

inside_or_not : (lo hi c : ℕ) → ((lo ≤ c) × (c < hi) × (is_within lo hi c ≡ true)) ⊎ (((c < lo) ⊎ (hi ≤ c)) × (is_within lo hi c ≡ false))
inside_or_not lo hi c = grind (arith, nat_tests)

same_or_not : (c d : ℕ) → (c ≡ d) ⊎ (c ≢ d)
same_or_not c d = grind arith

-- no cell is put yet
pub none_put : (from : ℕ) (value : Option ℕ) (cells : List ℕ) → IsRunPut from from value cells cells
none_put from value cells = record { size = refl; cells = λ c l. go c (inside_or_not from from c) }
  where
    go : (c : ℕ) → ((from ≤ c) × (c < from) × (is_within from from c ≡ true)) ⊎ (((c < from) ⊎ (from ≤ c)) × (is_within from from c ≡ false))
        → slice_index cells c ≡ (if is_within from from c then or_value value (slice_index cells c) else slice_index cells c)
    go c (inl h) = let a = h.0 in let b = h.1 in absurd (omega (arith, a, b))
    go c (inr h) = rw h.1 refl

-- a run without a value leaves all as it is
pub nothing_put : (from to : ℕ) (cells : List ℕ) → IsRunPut from to None cells cells
nothing_put from to cells = record { size = refl; cells = λ c l. go (is_within from to c) }
  where
    go : {n : ℕ} (b : Bool) → n ≡ (if b then n else n)
    go true = refl
    go false = refl

-- one cell more
pub more_put : (from at value : ℕ) (old mid new : List ℕ) → from ≤ at → IsRunPut from at (Some value) old mid → new ≡ slice_set mid at value → IsRunPut from (at + 1) (Some value) old new
more_put from at value old mid new le h e = record { size = ap length e ∙ length-set mid at value ∙ h.size; cells = λ c l. go c l (same_or_not c at) (inside_or_not from at c) (inside_or_not from (at + 1) c) }
  where
    put : (c : ℕ) → c ≢ at → slice_index new c ≡ slice_index mid c
    put c other = ap (λ (xs : List ℕ). slice_index xs c) e ∙ get_or-set_other mid at c value 0 other

    go : (c : ℕ) → c < length old → (c ≡ at) ⊎ (c ≢ at) → ((from ≤ c) × (c < at) × (is_within from at c ≡ true)) ⊎ (((c < from) ⊎ (at ≤ c)) × (is_within from at c ≡ false))
        → ((from ≤ c) × (c < at + 1) × (is_within from (at + 1) c ≡ true)) ⊎ (((c < from) ⊎ (at + 1 ≤ c)) × (is_within from (at + 1) c ≡ false))
        → slice_index new c ≡ (if is_within from (at + 1) c then value else slice_index old c)
    go c l (inl same) _ (inl u) =
        let z = h.size in
        rw u.2 (ap (λ (xs : List ℕ). slice_index xs c) e ∙ ap (λ (i : ℕ). slice_index (slice_set mid i value) c) (sym same) ∙ get_or-set_same mid c value 0 (omega (arith, l, z)))
    go c l (inl same) _ (inr u) = absurd (out u.0)
      where
        out : (c < from) ⊎ (at + 1 ≤ c) → ⊥
        out (inl k) = omega (arith, k, same, le)
        out (inr k) = omega (arith, k, same)
    go c l (inr other) (inl t) (inl u) = rw u.2 (put c other ∙ (h.cells c l ∙ rw t.2 refl))
    go c l (inr other) (inl t) (inr u) = absurd (out u.0)
      where
        out : (c < from) ⊎ (at + 1 ≤ c) → ⊥
        out (inl k) = let a = t.0 in omega (arith, k, a)
        out (inr k) = let a = t.1 in omega (arith, k, a)
    go c l (inr other) (inr t) (inl u) = absurd (out t.0)
      where
        out : (c < from) ⊎ (at ≤ c) → ⊥
        out (inl k) = let a = u.0 in omega (arith, k, a)
        out (inr k) = let a = u.1 in other (omega (arith, k, a))
    go c l (inr other) (inr t) (inr u) = rw u.1 (put c other ∙ (h.cells c l ∙ rw t.1 refl))

-- What is so of memory once all runs before a cell are put.
pub record AreRunsPut (writes : List (Piece ℕ)) (from : ℕ) (old new : List ℕ) : Type 0 where
  pub size : length new ≡ length old
  pub done_ : (c : ℕ) → c < length old → c < from → slice_index new c ≡ or_value (value_at writes c) (slice_index old c)
  pub rest : (c : ℕ) → c < length old → from ≤ c → slice_index new c ≡ slice_index old c

pub no_runs : (writes : List (Piece ℕ)) (cells : List ℕ) → AreRunsPut writes 0 cells cells
no_runs writes cells = record { size = refl; done_ = λ c l k. absurd (omega (arith, k)); rest = λ c l k. refl }

-- one run more, whose cells are alike
pub more_runs : (writes : List (Piece ℕ)) (from to : ℕ) (value : Option ℕ) (old mid new : List ℕ) → from < to → ((c : ℕ) → from ≤ c → c < to → value_at writes c ≡ value) → AreRunsPut writes from old mid → IsRunPut from to value mid new → AreRunsPut writes to old new
more_runs writes from to value old mid new lt alike h g = record { size = g.size ∙ h.size; done_ = λ c l k. before c l k (inside_or_not from to c); rest = λ c l k. behind c l k (inside_or_not from to c) }
  where
    within : (c : ℕ) → c < length old → c < length mid
    within c l = let z = h.size in omega (arith, l, z)

    before : (c : ℕ) → c < length old → c < to → ((from ≤ c) × (c < to) × (is_within from to c ≡ true)) ⊎ (((c < from) ⊎ (to ≤ c)) × (is_within from to c ≡ false)) → slice_index new c ≡ or_value (value_at writes c) (slice_index old c)
    before c l k (inl t) = g.cells c (within c l) ∙ rw (t.2, alike c t.0 t.1) (ap (λ (n : ℕ). or_value value n) (h.rest c l t.0))
    before c l k (inr t) = g.cells c (within c l) ∙ rw t.1 (h.done_ c l (first t.0))
      where
        first : (c < from) ⊎ (to ≤ c) → c < from
        first (inl a) = a
        first (inr a) = absurd (omega (arith, a, k))

    behind : (c : ℕ) → c < length old → to ≤ c → ((from ≤ c) × (c < to) × (is_within from to c ≡ true)) ⊎ (((c < from) ⊎ (to ≤ c)) × (is_within from to c ≡ false)) → slice_index new c ≡ slice_index old c
    behind c l k (inl t) = let a = t.1 in absurd (omega (arith, a, k))
    behind c l k (inr t) = g.cells c (within c l) ∙ rw t.1 (h.rest c l (omega (arith, k, lt)))

-- all runs are put, and no cell past the last has a value
pub all_runs : (writes : List (Piece ℕ)) (from : ℕ) (old new : List ℕ) → 1048576 ≤ from → ((c : ℕ) → 1048576 ≤ c → value_at writes c ≡ None) → AreRunsPut writes from old new → IsWritten writes old new
all_runs writes from old new le past h = record { size = h.size; cells = λ c l. go c l (below c) }
  where
    below : (c : ℕ) → (c < from) ⊎ (from ≤ c)
    below c = grind arith

    go : (c : ℕ) → c < length old → (c < from) ⊎ (from ≤ c) → slice_index new c ≡ or_value (value_at writes c) (slice_index old c)
    go c l (inl k) = h.done_ c l k
    go c l (inr k) = h.rest c l k ∙ rw (past c (omega (arith, le, k))) refl
