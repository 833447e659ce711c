-- Pieces in two at a cell.
use Rattle.std.specs.Prelude.{◌≡◌, ◌≤◌, ◌<◌, ◌⊎◌, ℕ, Bool, true, false, nat_lt, if◌then◌else◌, List, [], ◌∷◌, Some, None, refl}
use Rattle.std.proofs.Common.{sym, ap, arith, inl, inr}
use Rattle.std.proofs.lemmas.Bool.Decides.{nat_tests}
use Rattle.oss_ranges.proofs.PieceLemmas.{rises_order}
use Rattle.oss_ranges.specs.Cells.{cut_at, inserted, IsCut, next_of, removed, Rises, value_at}
use Rattle.oss_ranges.specs.declared.piece.Piece.{Piece}

module _ {T : Type 0} where
  pub cut_here : (cell : ℕ) (p : Piece T) (rest : List (Piece T)) → p.lo < cell → cell < p.hi → cut_at cell (p ∷ rest) ≡ record p { hi = cell } ∷ record p { lo = cell } ∷ rest
  cut_here cell p rest low high = grind (arith, nat_tests)

  pub cut_past : (cell : ℕ) (p : Piece T) (rest : List (Piece T)) → p.hi ≤ cell → cut_at cell (p ∷ rest) ≡ p ∷ cut_at cell rest
  cut_past cell p rest low = grind (arith, nat_tests)

  -- a piece before all others goes in front, and one behind the first is put among the others
  pub inserted_front : (m b : ℕ) (p : Piece T) (rest : List (Piece T)) → Rises m rest b → p.lo < m → inserted p rest ≡ p ∷ rest
  inserted_front m b p [] h low = refl
  inserted_front m b p (q ∷ rest) h low = let e = h.0 in grind (arith, nat_tests)

  pub inserted_later : (p q : Piece T) (rest : List (Piece T)) → q.lo ≤ p.lo → inserted p (q ∷ rest) ≡ q ∷ inserted p rest
  inserted_later p q rest low = grind (arith, nat_tests)

  -- where the first piece behind a cell lies
  pub next_within : (a b cell : ℕ) (p : Piece T) (xs : List (Piece T)) → Rises a xs b → next_of cell xs ≡ Some p → (a ≤ p.lo) × (p.lo < p.hi) × (p.hi ≤ b) × (cell < p.hi)
  next_within a b cell p [] h e = cc
  next_within a b cell p (q ∷ rest) h e = by (nat_lt cell q.hi) refl e (λ k. next_within q.hi b cell p rest h.2 k) where
    by : (t : Bool) → nat_lt cell q.hi ≡ t → (if t then Some q else next_of cell rest) ≡ Some p → (next_of cell rest ≡ Some p → (q.hi ≤ p.lo) × (p.lo < p.hi) × (p.hi ≤ b) × (cell < p.hi)) → (a ≤ p.lo) × (p.lo < p.hi) × (p.hi ≤ b) × (cell < p.hi)
    by true w k more = let same : q ≡ p = cc in let end = rises_order q.hi b rest h.2 in rw (← same) (h.0, h.1, end, grind (arith, nat_tests))
    by false w k more = let m = more k in ((let f = h.0 in let g = h.1 in let i = m.0 in omega arith), m.1, m.2, m.3)

  -- the two parts of a piece, where the piece was
  pub parts_inserted : (a b cell : ℕ) (p : Piece T) (xs : List (Piece T)) → Rises a xs b → next_of cell xs ≡ Some p → p.lo < cell
      → inserted (record p { lo = cell }) (inserted (record p { hi = cell }) (removed cell xs)) ≡ cut_at cell xs
  parts_inserted a b cell p [] h e low = cc
  parts_inserted a b cell p (q ∷ rest) h e low = by (nat_lt cell q.hi) refl e (λ k. parts_inserted q.hi b cell p rest h.2 k low) (λ k. (next_within q.hi b cell p rest h.2 k).0) where
    by : (t : Bool) → nat_lt cell q.hi ≡ t → (if t then Some q else next_of cell rest) ≡ Some p
        → (next_of cell rest ≡ Some p → inserted (record p { lo = cell }) (inserted (record p { hi = cell }) (removed cell rest)) ≡ cut_at cell rest)
        → (next_of cell rest ≡ Some p → q.hi ≤ p.lo)
        → inserted (record p { lo = cell }) (inserted (record p { hi = cell }) (if t then rest else q ∷ removed cell rest)) ≡ cut_at cell (q ∷ rest)
    by true w k more past =
        let same : q ≡ p = cc in
        let high : cell < q.hi = grind (arith, nat_tests) in
        let lower : q.lo < cell = rw same low in
        rw (← same) (rw (inserted_front q.hi b (record q { hi = cell }) rest h.2 h.1, inserted_later (record q { lo = cell }) (record q { hi = cell }) rest (omega arith), inserted_front q.hi b (record q { lo = cell }) rest h.2 high) (sym (cut_here cell q rest lower high)))
    by false w k more past =
        let high : q.hi ≤ cell = grind (arith, nat_tests) in
        let behind = past k in
        let own = h.1 in
        rw (inserted_later (record p { hi = cell }) q (removed cell rest) (omega arith), inserted_later (record p { lo = cell }) q (inserted (record p { hi = cell }) (removed cell rest)) (omega arith), more k) (sym (cut_past cell q rest high))

  pub cut_rises : (a b cell : ℕ) (xs : List (Piece T)) → Rises a xs b → Rises a (cut_at cell xs) b
  cut_rises a b cell [] h = h
  cut_rises a b cell (p ∷ rest) h = by (nat_lt cell p.hi) (nat_lt p.lo cell) refl refl (cut_rises p.hi b cell rest h.2) where
    by : (t u : Bool) → nat_lt cell p.hi ≡ t → nat_lt p.lo cell ≡ u → Rises p.hi (cut_at cell rest) b
        → Rises a (if t then (if u then record p { hi = cell } ∷ record p { lo = cell } ∷ rest else p ∷ rest) else p ∷ cut_at cell rest) b
    by true true e f more = (h.0, grind (arith, nat_tests), (omega arith, grind (arith, nat_tests), h.2))
    by true false e f more = h
    by false u e f more = (h.0, h.1, more)

  pub cut_same : (cell other : ℕ) (xs : List (Piece T)) → value_at (cut_at cell xs) other ≡ value_at xs other
  cut_same cell other [] = refl
  cut_same cell other (p ∷ rest) = grind (arith, nat_tests, cut_same cell other rest)

  pub cut_is_cut : (a b cell : ℕ) (xs : List (Piece T)) → Rises a xs b → IsCut cell (cut_at cell xs)
  cut_is_cut a b cell [] h = tt
  cut_is_cut a b cell (p ∷ rest) h = by (nat_lt cell p.hi) (nat_lt p.lo cell) refl refl (cut_is_cut p.hi b cell rest h.2) where
    behind : (m : ℕ) (xs : List (Piece T)) → Rises m xs b → cell ≤ m → IsCut cell xs
    behind m [] k low = tt
    behind m (q ∷ more) k low = let e = k.0 in let f = k.1 in (inl (omega arith), behind q.hi more k.2 (omega arith))

    by : (t u : Bool) → nat_lt cell p.hi ≡ t → nat_lt p.lo cell ≡ u → IsCut cell (cut_at cell rest)
        → IsCut cell (if t then (if u then record p { hi = cell } ∷ record p { lo = cell } ∷ rest else p ∷ rest) else p ∷ cut_at cell rest)
    by true true e f more = (inr (omega arith), (inl (omega arith), behind p.hi rest h.2 (grind (arith, nat_tests))))
    by true false e f more = (inl (grind (arith, nat_tests)), behind p.hi rest h.2 (grind (arith, nat_tests)))
    by false u e f more = (inr (grind (arith, nat_tests)), more)

  pub cut_keeps : (cell other : ℕ) (xs : List (Piece T)) → IsCut other xs → IsCut other (cut_at cell xs)
  cut_keeps cell other [] h = h
  cut_keeps cell other (p ∷ rest) h = by (nat_lt cell p.hi) (nat_lt p.lo cell) refl refl (cut_keeps cell other rest h.1) where
    front : ((other ≤ p.lo) ⊎ (p.hi ≤ other)) → cell < p.hi → (other ≤ p.lo) ⊎ (cell ≤ other)
    front (inl low) e = inl low
    front (inr high) e = inr (omega arith)

    back : ((other ≤ p.lo) ⊎ (p.hi ≤ other)) → p.lo < cell → (other ≤ cell) ⊎ (p.hi ≤ other)
    back (inl low) e = inl (omega arith)
    back (inr high) e = inr high

    by : (t u : Bool) → nat_lt cell p.hi ≡ t → nat_lt p.lo cell ≡ u → IsCut other (cut_at cell rest)
        → IsCut other (if t then (if u then record p { hi = cell } ∷ record p { lo = cell } ∷ rest else p ∷ rest) else p ∷ cut_at cell rest)
    by true true e f more = (front h.0 (grind (arith, nat_tests)), (back h.0 (grind (arith, nat_tests)), h.1))
    by true false e f more = h
    by false u e f more = (h.0, more)

  -- nothing is cut where no piece has the cell and the one before it
  pub cut_none : (cell : ℕ) (xs : List (Piece T)) → next_of cell xs ≡ None → cut_at cell xs ≡ xs
  cut_none cell [] e = refl
  cut_none cell (p ∷ rest) e = grind (arith, nat_tests, cut_none cell rest)

  pub cut_begin : (cell : ℕ) (p : Piece T) (xs : List (Piece T)) → next_of cell xs ≡ Some p → cell ≤ p.lo → cut_at cell xs ≡ xs
  cut_begin cell p [] e low = refl
  cut_begin cell p (q ∷ rest) e low = by (nat_lt cell q.hi) refl e (λ k. cut_begin cell p rest k low) where
    by : (t : Bool) → nat_lt cell q.hi ≡ t → (if t then Some q else next_of cell rest) ≡ Some p → (next_of cell rest ≡ Some p → cut_at cell rest ≡ rest)
        → (if t then (if nat_lt q.lo cell then record q { hi = cell } ∷ record q { lo = cell } ∷ rest else q ∷ rest) else q ∷ cut_at cell rest) ≡ q ∷ rest
    by true w k more = let same : q ≡ p = cc in let lower : cell ≤ q.lo = rw same low in grind (arith, nat_tests)
    by false w k more = ap (λ x. q ∷ x) (more k)

  -- pieces without one of them
  pub inserted_less : (a b : ℕ) (p : Piece T) (xs : List (Piece T)) → Rises a (inserted p xs) b → Rises a xs b
  inserted_less a b p [] h = let e = h.0 in let f = h.1 in let g = h.2 in omega arith
  inserted_less a b p (q ∷ rest) h = by (nat_lt p.lo q.lo) h (λ k. inserted_less q.hi b p rest k) where
    by : (t : Bool) → Rises a (if t then p ∷ q ∷ rest else q ∷ inserted p rest) b → (Rises q.hi (inserted p rest) b → Rises q.hi rest b) → Rises a (q ∷ rest) b
    by true k more = ((let e = k.0 in let f = k.1 in let g = k.2.0 in omega arith), k.2.1, k.2.2)
    by false k more = (k.0, k.1, more k.2)
