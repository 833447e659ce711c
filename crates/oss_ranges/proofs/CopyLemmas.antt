-- A copy piece by piece: behind each step it has the pieces that end up to a cell.
use Rattle.std.specs.Prelude.{◌≡◌, ◌≤◌, ◌<◌, ℕ, Bool, true, false, nat_lt, if◌then◌else◌, List, [], ◌∷◌, Some, None, refl}
use Rattle.std.proofs.Common.{sym, ap, subst, ◌∙◌, arith}
use Rattle.std.proofs.lemmas.Bool.Decides.{nat_tests}
use Rattle.oss_ranges.proofs.CutLemmas.{inserted_later, next_within}
use Rattle.oss_ranges.proofs.PieceLemmas.{rises_order}
use Rattle.oss_ranges.specs.Cells.{inserted, next_of, Rises}
use Rattle.oss_ranges.specs.declared.piece.Piece.{Piece}

module _ {T : Type 0} where
  -- the pieces in front of the first that ends behind a cell
  abbrev pub front : ℕ → List (Piece T) → List (Piece T)
  front cell [] = []
  front cell (p ∷ rest) = if nat_lt cell p.hi then [] else p ∷ front cell rest

  pub front_rises : (a b cell : ℕ) (xs : List (Piece T)) → Rises a xs b → Rises a (front cell xs) b
  front_rises a b cell [] h = h
  front_rises a b cell (p ∷ rest) h = by (nat_lt cell p.hi) (front_rises p.hi b cell rest h.2) where
    by : (t : Bool) → Rises p.hi (front cell rest) b → Rises a (if t then [] else p ∷ front cell rest) b
    by true more = let low = h.0 in let some = h.1 in let end = rises_order p.hi b rest h.2 in omega arith
    by false more = (h.0, h.1, more)

  -- no piece ends up to the cell in front of the first
  pub front_none : (a b cell : ℕ) (xs : List (Piece T)) → Rises a xs b → cell ≤ a → front cell xs ≡ []
  front_none a b cell [] h low = refl
  front_none a b cell (p ∷ rest) h low = let some : nat_lt cell p.hi ≡ true = (let f = h.0 in let g = h.1 in grind (arith, nat_tests)) in rw some refl

  front_own : (b : ℕ) (q : Piece T) (rest : List (Piece T)) → Rises q.hi rest b → inserted q [] ≡ front q.hi (q ∷ rest)
  front_own b q rest h =
      let past : nat_lt q.hi q.hi ≡ false = grind (arith, nat_tests) in
      sym (ap (λ t. if t then [] else q ∷ front q.hi rest) past ∙ ap (λ xs. q ∷ xs) (front_none q.hi b q.hi rest h (omega arith)))

  -- the next piece is put behind them
  pub front_more : (a b cell : ℕ) (p : Piece T) (xs : List (Piece T)) → Rises a xs b → next_of cell xs ≡ Some p → inserted p (front cell xs) ≡ front p.hi xs
  front_more a b cell p [] h e = cc
  front_more a b cell p (q ∷ rest) h e = by (nat_lt cell q.hi) refl e (λ k. front_more q.hi b cell p rest h.2 k) (λ k. next_within q.hi b cell p rest h.2 k) where
    by : (t : Bool) → nat_lt cell q.hi ≡ t → (if t then Some q else next_of cell rest) ≡ Some p
        → (next_of cell rest ≡ Some p → inserted p (front cell rest) ≡ front p.hi rest)
        → (next_of cell rest ≡ Some p → (q.hi ≤ p.lo) × (p.lo < p.hi) × (p.hi ≤ b) × (cell < p.hi))
        → inserted p (if t then [] else q ∷ front cell rest) ≡ front p.hi (q ∷ rest)
    by true w k more at =
        let same : q ≡ p = cc in
        subst (λ r. inserted r [] ≡ front r.hi (q ∷ rest)) same (front_own b q rest h.2)
    by false w k more at =
        let low = (at k).0 in let some = (at k).1 in let own = h.1 in
        let past : nat_lt p.hi q.hi ≡ false = grind (arith, nat_tests) in
        inserted_later p q (front cell rest) (omega arith) ∙ ap (λ xs. q ∷ xs) (more k) ∙ sym (ap (λ t. if t then [] else q ∷ front p.hi rest) past)

  -- where none is left they are all
  pub front_all : (cell : ℕ) (xs : List (Piece T)) → next_of cell xs ≡ None → front cell xs ≡ xs
  front_all cell [] e = refl
  front_all cell (p ∷ rest) e = by (nat_lt cell p.hi) e (λ k. front_all cell rest k) where
    by : (t : Bool) → (if t then Some p else next_of cell rest) ≡ None → (next_of cell rest ≡ None → front cell rest ≡ rest) → (if t then [] else p ∷ front cell rest) ≡ p ∷ rest
    by true k more = cc
    by false k more = ap (λ xs. p ∷ xs) (more k)
