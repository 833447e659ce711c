-- The values of cells.
use Rattle.std.specs.Prelude.{◌≡◌, ◌≤◌, ◌<◌, ℕ, Bool, true, false, ◌&&◌, nat_le, nat_lt, ◌⊎◌, if◌then◌else◌, List, [], ◌∷◌, Option, Some, None, refl, length}
use Rattle.std.proofs.Common.{◌∙◌, arith, ap}
use Rattle.std.proofs.lemmas.Bool.Decides.{nat_tests}
use Rattle.oss_ranges.proofs.PieceLemmas.{rises_order, rises_wider}
use Rattle.oss_ranges.specs.Cells.{inserted, is_before, is_within, IsCut, next_of, outside, removed, Rises, value_at}
use Rattle.oss_ranges.specs.declared.piece.Piece.{Piece}

module _ {T : Type 0} where
  pub value_here : (cell : ℕ) (p : Piece T) (rest : List (Piece T)) → p.lo ≤ cell → cell < p.hi → value_at (p ∷ rest) cell ≡ Some p.value
  value_here cell p rest low high = grind (arith, nat_tests)

  pub value_before : (cell : ℕ) (p : Piece T) (rest : List (Piece T)) → cell < p.lo → value_at (p ∷ rest) cell ≡ value_at rest cell
  value_before cell p rest low = grind (arith, nat_tests)

  pub value_behind : (cell : ℕ) (p : Piece T) (rest : List (Piece T)) → p.hi ≤ cell → value_at (p ∷ rest) cell ≡ value_at rest cell
  value_behind cell p rest high = grind (arith, nat_tests)

  -- pieces have no cell before their first
  pub none_before : (a b cell : ℕ) (xs : List (Piece T)) → Rises a xs b → cell < a → value_at xs cell ≡ None
  none_before a b cell [] h low = refl
  none_before a b cell (p ∷ rest) h low =
      value_before cell p rest (let e = h.0 in omega arith) ∙ none_before p.hi b cell rest h.2 (let e = h.0 in let f = h.1 in omega arith)

  -- pieces have no cell behind their last
  pub none_past : (a b cell : ℕ) (xs : List (Piece T)) → Rises a xs b → b ≤ cell → value_at xs cell ≡ None
  none_past a b cell [] h far = refl
  none_past a b cell (p ∷ rest) h far =
      value_behind cell p rest (let ends = rises_order p.hi b rest h.2 in omega arith) ∙ none_past p.hi b cell rest h.2 far

  -- what the first piece behind a cell tells of it
  abbrev pub told : ℕ → Option (Piece T) → Option T
  told cell None = None
  told cell (Some p) = if nat_le p.lo cell then Some p.value else None

  pub value_is_told : (a b cell : ℕ) (xs : List (Piece T)) → Rises a xs b → value_at xs cell ≡ told cell (next_of cell xs)
  value_is_told a b cell [] h = refl
  value_is_told a b cell (p ∷ rest) h =
      grind (arith, nat_tests, value_is_told p.hi b cell rest h.2, none_before p.hi b cell rest h.2)

  -- a piece that was added to rising pieces lies between their ends
  pub inserted_within : (a b : ℕ) (p : Piece T) (xs : List (Piece T)) → Rises a (inserted p xs) b → (a ≤ p.lo) × (p.lo < p.hi) × (p.hi ≤ b)
  inserted_within a b p [] h = h
  inserted_within a b p (q ∷ rest) h = by (nat_lt p.lo q.lo) h (λ k. inserted_within q.hi b p rest k) where
    by : (t : Bool) → Rises a (if t then p ∷ q ∷ rest else q ∷ inserted p rest) b → (Rises q.hi (inserted p rest) b → (q.hi ≤ p.lo) × (p.lo < p.hi) × (p.hi ≤ b)) → (a ≤ p.lo) × (p.lo < p.hi) × (p.hi ≤ b)
    by true k more = let e = rises_order q.hi b rest k.2.2 in (k.0, k.1, (let f = k.2.0 in let g = k.2.1 in let i = k.2 in omega arith))
    by false k more = let m = more k.2 in ((let e = k.0 in let f = k.1 in let g = m.0 in omega arith), m.1, m.2)

  -- one more piece
  pub value_inserted : (a b cell : ℕ) (p : Piece T) (xs : List (Piece T)) → Rises a (inserted p xs) b → value_at (inserted p xs) cell ≡ (if is_within p.lo p.hi cell then Some p.value else value_at xs cell)
  value_inserted a b cell p [] h = refl
  value_inserted a b cell p (q ∷ rest) h = by (nat_lt p.lo q.lo) h (λ k. value_inserted q.hi b cell p rest k) where
    by : (t : Bool) → Rises a (if t then p ∷ q ∷ rest else q ∷ inserted p rest) b
        → (Rises q.hi (inserted p rest) b → value_at (inserted p rest) cell ≡ (if is_within p.lo p.hi cell then Some p.value else value_at rest cell))
        → value_at (if t then p ∷ q ∷ rest else q ∷ inserted p rest) cell ≡ (if is_within p.lo p.hi cell then Some p.value else value_at (q ∷ rest) cell)
    by true k more = refl
    by false k more = let m = inserted_within q.hi b p rest k.2 in grind (arith, nat_tests, more k.2, m.0)

  pub inserted_cut : (cell : ℕ) (p : Piece T) (xs : List (Piece T)) → ((cell ≤ p.lo) ⊎ (p.hi ≤ cell)) → IsCut cell xs → IsCut cell (inserted p xs)
  inserted_cut cell p [] e h = (e, tt)
  inserted_cut cell p (q ∷ rest) e h = by (nat_lt p.lo q.lo) (inserted_cut cell p rest e h.1) where
    by : (t : Bool) → IsCut cell (inserted p rest) → IsCut cell (if t then p ∷ q ∷ rest else q ∷ inserted p rest)
    by true more = (e, h)
    by false more = (h.0, more)

  -- pieces that have a cell of a range go
  pub outside_rises : (a b lo hi : ℕ) (xs : List (Piece T)) → Rises a xs b → Rises a (outside lo hi xs) b
  outside_rises a b lo hi [] h = h
  outside_rises a b lo hi (p ∷ rest) h = by (nat_lt lo p.hi && nat_lt p.lo hi) (outside_rises p.hi b lo hi rest h.2) where
    by : (t : Bool) → Rises p.hi (outside lo hi rest) b → Rises a (if t then outside lo hi rest else p ∷ outside lo hi rest) b
    by true more = rises_wider p.hi b a b (outside lo hi rest) (let e = h.0 in let f = h.1 in omega arith) (omega arith) more
    by false more = (h.0, h.1, more)

  pub outside_cut : (cell lo hi : ℕ) (xs : List (Piece T)) → IsCut cell xs → IsCut cell (outside lo hi xs)
  outside_cut cell lo hi [] h = h
  outside_cut cell lo hi (p ∷ rest) h = by (nat_lt lo p.hi && nat_lt p.lo hi) (outside_cut cell lo hi rest h.1) where
    by : (t : Bool) → IsCut cell (outside lo hi rest) → IsCut cell (if t then outside lo hi rest else p ∷ outside lo hi rest)
    by true more = more
    by false more = (h.0, more)

  pub value_outside : (a b lo hi cell : ℕ) (xs : List (Piece T)) → Rises a xs b → IsCut lo xs → IsCut hi xs → value_at (outside lo hi xs) cell ≡ (if is_within lo hi cell then None else value_at xs cell)
  value_outside a b lo hi cell [] h l k = grind (arith, nat_tests)
  value_outside a b lo hi cell (p ∷ rest) h l k =
      let low = l.0 in let high = k.0 in let own = h.1 in
      grind (arith, nat_tests, value_outside p.hi b lo hi cell rest h.2 l.1 k.1)

  -- where the pieces without those of a range have room for one
  pub outside_inserted : (a b lo hi : ℕ) (p : Piece T) (xs : List (Piece T)) → Rises a xs b → IsCut lo xs → IsCut hi xs → p.lo ≡ lo → p.hi ≡ hi → a ≤ lo → lo < hi → hi ≤ b → Rises a (inserted p (outside lo hi xs)) b
  outside_inserted a b lo hi p [] h l k e f low own high = (omega arith, omega arith, omega arith)
  outside_inserted a b lo hi p (q ∷ rest) h l k e f low own high =
      by (nat_lt lo q.hi && nat_lt q.lo hi) refl (outside_rises q.hi b lo hi rest h.2)
      (outside_inserted a b lo hi p rest (rises_wider q.hi b a b rest (let i = h.0 in let j = h.1 in omega arith) (omega arith) h.2) l.1 k.1 e f low own high)
      (λ m. outside_inserted q.hi b lo hi p rest h.2 l.1 k.1 e f m own high) where
        pick : (t : Bool) → (nat_lt lo q.hi && nat_lt q.lo hi) ≡ false → nat_lt p.lo q.lo ≡ t → Rises q.hi (outside lo hi rest) b → ((q.hi ≤ lo) → Rises q.hi (inserted p (outside lo hi rest)) b)
            → Rises a (if t then p ∷ q ∷ outside lo hi rest else q ∷ inserted p (outside lo hi rest)) b
        pick true w t more there = (omega arith, omega arith, ((let j = h.1 in grind (arith, nat_tests)), h.1, more))
        pick false w t more there = (h.0, h.1, there (let j = h.1 in grind (arith, nat_tests)))

        by : (t : Bool) → (nat_lt lo q.hi && nat_lt q.lo hi) ≡ t → Rises q.hi (outside lo hi rest) b → Rises a (inserted p (outside lo hi rest)) b → ((q.hi ≤ lo) → Rises q.hi (inserted p (outside lo hi rest)) b)
            → Rises a (inserted p (if t then outside lo hi rest else q ∷ outside lo hi rest)) b
        by true w more here there = here
        by false w more here there = pick (nat_lt p.lo q.lo) w refl more there

  -- the first piece that has a cell of a range, where there is one, goes; where there is none, all pieces stay
  pub outside_removed : (a b lo hi : ℕ) (xs : List (Piece T)) → Rises a xs b → is_before (next_of lo xs) hi ≡ true → outside lo hi (removed lo xs) ≡ outside lo hi xs
  outside_removed a b lo hi [] h e = refl
  outside_removed a b lo hi (p ∷ rest) h e = grind (arith, nat_tests, outside_removed p.hi b lo hi rest h.2)

  pub outside_all : (a b lo hi : ℕ) (xs : List (Piece T)) → Rises a xs b → hi ≤ a → outside lo hi xs ≡ xs
  outside_all a b lo hi [] h e = refl
  outside_all a b lo hi (p ∷ rest) h e = let low = h.0 in let own = h.1 in grind (arith, nat_tests, outside_all p.hi b lo hi rest h.2)

  pub outside_none : (a b lo hi : ℕ) (xs : List (Piece T)) → Rises a xs b → is_before (next_of lo xs) hi ≡ false → outside lo hi xs ≡ xs
  outside_none a b lo hi [] h e = refl
  outside_none a b lo hi (p ∷ rest) h e = let own = h.1 in grind (arith, nat_tests, outside_none p.hi b lo hi rest h.2, outside_all p.hi b lo hi rest h.2)

  pub removed_shorter : (cell hi : ℕ) (xs : List (Piece T)) → is_before (next_of cell xs) hi ≡ true → length (removed cell xs) < length xs
  removed_shorter cell hi [] e = cc
  removed_shorter cell hi (p ∷ rest) e = grind (arith, nat_tests, removed_shorter cell hi rest)

  -- the first piece behind a cell is the first behind each cell up to its end
  pub next_same : (a b from cell : ℕ) (p : Piece T) (xs : List (Piece T)) → Rises a xs b → next_of from xs ≡ Some p → from ≤ cell → cell < p.hi → next_of cell xs ≡ Some p
  next_same a b from cell p [] h e low high = cc
  next_same a b from cell p (q ∷ rest) h e low high = by (nat_lt from q.hi) refl e (λ k. next_same q.hi b from cell p rest h.2 k low high) where
    by : (t : Bool) → nat_lt from q.hi ≡ t → (if t then Some q else next_of from rest) ≡ Some p → (next_of from rest ≡ Some p → next_of cell rest ≡ Some p) → (if nat_lt cell q.hi then Some q else next_of cell rest) ≡ Some p
    by true w k more = let is : q ≡ p = cc in let inside : cell < q.hi = rw is high in grind (arith, nat_tests)
    by false w k more = grind (arith, nat_tests, more k)

  pub next_none_on : (from cell : ℕ) (xs : List (Piece T)) → next_of from xs ≡ None → from ≤ cell → next_of cell xs ≡ None
  next_none_on from cell [] e low = refl
  next_none_on from cell (q ∷ rest) e low = grind (arith, nat_tests, next_none_on from cell rest)

  -- cells from the front of a piece on have its value, those before it none
  pub run_value : (b from cell : ℕ) (p : Piece T) (xs : List (Piece T)) → Rises 0 xs b → next_of from xs ≡ Some p → p.lo ≤ from → from ≤ cell → cell < p.hi → value_at xs cell ≡ Some p.value
  run_value b from cell p xs h e front low high =
      value_is_told 0 b cell xs h ∙ ap (told cell) (next_same 0 b from cell p xs h e low high) ∙ grind (arith, nat_tests)

  pub run_gap : (b from cell : ℕ) (p : Piece T) (xs : List (Piece T)) → Rises 0 xs b → next_of from xs ≡ Some p → from ≤ cell → cell < p.lo → p.lo < p.hi → value_at xs cell ≡ None
  run_gap b from cell p xs h e low high own =
      value_is_told 0 b cell xs h ∙ ap (told cell) (next_same 0 b from cell p xs h e low (omega arith)) ∙ grind (arith, nat_tests)

  pub run_none : (b from cell : ℕ) (xs : List (Piece T)) → Rises 0 xs b → next_of from xs ≡ None → from ≤ cell → value_at xs cell ≡ None
  run_none b from cell xs h e low = value_is_told 0 b cell xs h ∙ ap (told cell) (next_none_on from cell xs e low)
