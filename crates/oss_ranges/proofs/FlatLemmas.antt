-- Pieces in one block: what a change at the place of a piece makes of them.
use Rattle.std.specs.Prelude.{◌≡◌, ◌≤◌, ◌<◌, ◌+◌, ℕ, suc, Bool, true, false, nat_lt, if◌then◌else◌, List, [], ◌∷◌, Some, None, refl, is_some, length, slice_set}
use Rattle.std.specs.List.{insert, remove}
use Rattle.std.proofs.Common.{sym, ◌∙◌, ap, subst, arith, get_or, add-one}
use Rattle.std.proofs.lemmas.Bool.Decides.{nat_tests}
use Rattle.oss_ranges.proofs.CutLemmas.{inserted_front, inserted_later}
use Rattle.oss_ranges.proofs.MapLemmas.{inserted_within}
use Rattle.oss_ranges.proofs.PieceLemmas.{removed_none}
use Rattle.oss_ranges.specs.Cells.{cut_at, inserted, next_of, removed, Rises}
use Rattle.oss_ranges.specs.Places.{place}
use Rattle.oss_ranges.specs.declared.piece.Piece.{Piece}

module _ {T : Type 0} where
  pub place_within : (cell : ℕ) (xs : List (Piece T)) → place cell xs ≤ length xs
  place_within cell [] = omega arith
  place_within cell (p ∷ rest) = by (nat_lt cell p.hi) (place_within cell rest) where
    by : (t : Bool) → place cell rest ≤ length rest → (if t then 0 else suc (place cell rest)) ≤ suc (length rest)
    by true k = omega arith
    by false k = omega arith

  -- what stands at the place
  pub next_at : (cell : ℕ) (p : Piece T) (xs : List (Piece T)) → place cell xs < length xs → p ≡ get_or xs (place cell xs) p → next_of cell xs ≡ Some p
  next_at cell p [] h e = absurd (omega arith)
  next_at cell p (q ∷ rest) h e = by (nat_lt cell q.hi) h e (λ k f. next_at cell p rest k f) where
    by : (t : Bool) → (if t then 0 else suc (place cell rest)) < suc (length rest) → p ≡ get_or (q ∷ rest) (if t then 0 else suc (place cell rest)) p
        → (place cell rest < length rest → p ≡ get_or rest (place cell rest) p → next_of cell rest ≡ Some p) → (if t then Some q else next_of cell rest) ≡ Some p
    by true k f more = ap Some (sym f)
    by false k f more = more (omega arith) f

  pub next_beyond : (cell : ℕ) (xs : List (Piece T)) → length xs ≤ place cell xs → next_of cell xs ≡ None
  next_beyond cell [] h = refl
  next_beyond cell (q ∷ rest) h = by (nat_lt cell q.hi) h (λ k. next_beyond cell rest k) where
    by : (t : Bool) → suc (length rest) ≤ (if t then 0 else suc (place cell rest)) → (length rest ≤ place cell rest → next_of cell rest ≡ None) → (if t then Some q else next_of cell rest) ≡ None
    by true k more = absurd (omega arith)
    by false k more = more (omega arith)

  pub found_within : (cell : ℕ) (xs : List (Piece T)) → is_some (next_of cell xs) ≡ true → place cell xs < length xs
  found_within cell [] e = cc
  found_within cell (q ∷ rest) e = by (nat_lt cell q.hi) e (λ k. found_within cell rest k) where
    by : (t : Bool) → is_some (if t then Some q else next_of cell rest) ≡ true → (is_some (next_of cell rest) ≡ true → place cell rest < length rest) → (if t then 0 else suc (place cell rest)) < suc (length rest)
    by true k more = omega arith
    by false k more = let m = more k in omega arith

  -- the piece there is taken out
  pub removed_at : (cell : ℕ) (xs : List (Piece T)) → place cell xs < length xs → remove xs (place cell xs) ≡ removed cell xs
  removed_at cell [] h = absurd (omega arith)
  removed_at cell (q ∷ rest) h = by (nat_lt cell q.hi) h (λ k. removed_at cell rest k) where
    by : (t : Bool) → (if t then 0 else suc (place cell rest)) < suc (length rest) → (place cell rest < length rest → remove rest (place cell rest) ≡ removed cell rest)
        → remove (q ∷ rest) (if t then 0 else suc (place cell rest)) ≡ (if t then rest else q ∷ removed cell rest)
    by true k more = refl
    by false k more = ap (λ ys. q ∷ ys) (more (omega arith))

  pub removed_beyond : (cell : ℕ) (xs : List (Piece T)) → length xs ≤ place cell xs → removed cell xs ≡ xs
  removed_beyond cell xs h = removed_none cell xs (next_beyond cell xs h)

  -- one is put there
  pub inserted_at : (a b : ℕ) (p : Piece T) (xs : List (Piece T)) → Rises a (inserted p xs) b → insert xs (place p.lo xs) p ≡ inserted p xs
  inserted_at a b p [] h = refl
  inserted_at a b p (q ∷ rest) h = by (nat_lt p.lo q.hi) (nat_lt p.lo q.lo) refl refl h (λ k. inserted_at q.hi b p rest k) where
    by : (t u : Bool) → nat_lt p.lo q.hi ≡ t → nat_lt p.lo q.lo ≡ u → Rises a (if u then p ∷ q ∷ rest else q ∷ inserted p rest) b
        → (Rises q.hi (inserted p rest) b → insert rest (place p.lo rest) p ≡ inserted p rest)
        → insert (q ∷ rest) (if t then 0 else suc (place p.lo rest)) p ≡ (if u then p ∷ q ∷ rest else q ∷ inserted p rest)
    by true true v w k more = refl
    by true false v w k more = let at = (inserted_within q.hi b p rest k.2).0 in let low : p.lo < q.hi = grind (arith, nat_tests) in absurd (omega arith)
    by false true v w k more = let at = k.2.0 in let own = k.1 in let last = k.2.1 in let far : q.hi ≤ p.lo = grind (arith, nat_tests) in absurd (omega arith)
    by false false v w k more = ap (λ ys. q ∷ ys) (more k.2)

  -- one is put in place of it
  pub replaced_at : (a b : ℕ) (p : Piece T) (xs : List (Piece T)) → Rises a xs b → is_some (next_of p.lo xs) ≡ true → slice_set xs (place p.lo xs) p ≡ inserted p (removed p.lo xs)
  replaced_at a b p [] h e = cc
  replaced_at a b p (q ∷ rest) h e = by (nat_lt p.lo q.hi) refl e (λ k. replaced_at q.hi b p rest h.2 k) where
    by : (t : Bool) → nat_lt p.lo q.hi ≡ t → is_some (if t then Some q else next_of p.lo rest) ≡ true → (is_some (next_of p.lo rest) ≡ true → slice_set rest (place p.lo rest) p ≡ inserted p (removed p.lo rest))
        → slice_set (q ∷ rest) (if t then 0 else suc (place p.lo rest)) p ≡ inserted p (if t then rest else q ∷ removed p.lo rest)
    by true w k more = let low : p.lo < q.hi = grind (arith, nat_tests) in sym (inserted_front q.hi b p rest h.2 low)
    by false w k more =
        let own = h.1 in
        let far : q.hi ≤ p.lo = grind (arith, nat_tests) in
        ap (λ ys. q ∷ ys) (more k) ∙ sym (inserted_later p q (removed p.lo rest) (omega arith))

  -- its two parts are put there
  pub parted_at : (cell : ℕ) (p : Piece T) (xs : List (Piece T)) → place cell xs < length xs → p ≡ get_or xs (place cell xs) p → p.lo < cell
      → insert (slice_set xs (place cell xs) (record p { hi = cell })) (suc (place cell xs)) (record p { lo = cell }) ≡ cut_at cell xs
  parted_at cell p [] h e low = absurd (omega arith)
  parted_at cell p (q ∷ rest) h e low = by (nat_lt cell q.hi) h e (λ k f. parted_at cell p rest k f low) where
    front : (u : Bool) → nat_lt p.lo cell ≡ u → record p { hi = cell } ∷ record p { lo = cell } ∷ rest ≡ (if u then record p { hi = cell } ∷ record p { lo = cell } ∷ rest else p ∷ rest)
    front true w = refl
    front false w = absurd (grind (arith, nat_tests))

    by : (t : Bool) → (if t then 0 else suc (place cell rest)) < suc (length rest) → p ≡ get_or (q ∷ rest) (if t then 0 else suc (place cell rest)) p
        → (place cell rest < length rest → p ≡ get_or rest (place cell rest) p → insert (slice_set rest (place cell rest) (record p { hi = cell })) (suc (place cell rest)) (record p { lo = cell }) ≡ cut_at cell rest)
        → insert (slice_set (q ∷ rest) (if t then 0 else suc (place cell rest)) (record p { hi = cell })) (suc (if t then 0 else suc (place cell rest))) (record p { lo = cell })
        ≡ (if t then (if nat_lt q.lo cell then record q { hi = cell } ∷ record q { lo = cell } ∷ rest else q ∷ rest) else q ∷ cut_at cell rest)
    by true k f more =
        front (nat_lt p.lo cell) refl ∙ ap (λ (z : Piece T). if nat_lt z.lo cell then record z { hi = cell } ∷ record z { lo = cell } ∷ rest else z ∷ rest) f
    by false k f more = ap (λ ys. q ∷ ys) (more (omega arith) f)

  pub parted_from : (cell at : ℕ) (p : Piece T) (xs : List (Piece T)) → at ≡ place cell xs → at < length xs → p ≡ get_or xs at p → p.lo < cell
      → insert (slice_set xs at (record p { hi = cell })) (at + 1) (record p { lo = cell }) ≡ cut_at cell xs
  parted_from cell at p xs is within read low =
      let there : place cell xs < length xs = omega arith in
      let found : p ≡ get_or xs (place cell xs) p = subst (λ (n : ℕ). p ≡ get_or xs n p) is read in
      subst (λ (n : ℕ). insert (slice_set xs n (record p { hi = cell })) (n + 1) (record p { lo = cell }) ≡ cut_at cell xs) (sym is) (rw add-one (parted_at cell p xs there found low))
