-- Lists of pieces that lie one behind the other.
use Rattle.std.specs.Prelude.{◌≡◌, ◌≤◌, ◌<◌, ℕ, Bool, true, false, nat_lt, if◌then◌else◌, List, [], ◌∷◌, ◌++◌, Some, None, refl}
use Rattle.std.proofs.Common.{arith}
use Rattle.std.proofs.lemmas.Bool.Decides.{nat_tests}
use Rattle.oss_ranges.specs.Cells.{inserted, next_of, removed, Rises}
use Rattle.oss_ranges.specs.declared.piece.Piece.{Piece}

module _ {T : Type 0} where
  pub rises_order : (a b : ℕ) (xs : List (Piece T)) → Rises a xs b → a ≤ b
  rises_order a b [] h = h
  rises_order a b (p ∷ rest) h = let e = rises_order p.hi b rest h.2 in omega arith

  pub rises_wider : (a b c d : ℕ) (xs : List (Piece T)) → c ≤ a → b ≤ d → Rises a xs b → Rises c xs d
  rises_wider a b c d [] low high h = omega arith
  rises_wider a b c d (p ∷ rest) low high h = (omega (arith, h.0), h.1, rises_wider p.hi b p.hi d rest (omega arith) high h.2)

  pub rises_join : (a m b : ℕ) (xs ys : List (Piece T)) → Rises a xs m → Rises m ys b → Rises a (xs ++ ys) b
  rises_join a m b [] ys h k = rises_wider m b a b ys h (omega arith) k
  rises_join a m b (p ∷ rest) ys h k = (h.0, h.1, rises_join p.hi m b rest ys h.2 k)

  pub rises_front : (a b : ℕ) (xs : List (Piece T)) (p : Piece T) (ys : List (Piece T)) → Rises a (xs ++ p ∷ ys) b → Rises a xs p.lo
  rises_front a b [] p ys h = h.0
  rises_front a b (q ∷ rest) p ys h = (h.0, h.1, rises_front q.hi b rest p ys h.2)

  pub rises_own : (a b : ℕ) (xs : List (Piece T)) (p : Piece T) (ys : List (Piece T)) → Rises a (xs ++ p ∷ ys) b → p.lo < p.hi
  rises_own a b [] p ys h = h.1
  rises_own a b (q ∷ rest) p ys h = rises_own q.hi b rest p ys h.2

  pub rises_back : (a b : ℕ) (xs : List (Piece T)) (p : Piece T) (ys : List (Piece T)) → Rises a (xs ++ p ∷ ys) b → Rises p.hi ys b
  rises_back a b [] p ys h = h.2
  rises_back a b (q ∷ rest) p ys h = rises_back q.hi b rest p ys h.2

  -- the pieces of two lists, without the one between them
  pub rises_apart : (a b : ℕ) (xs : List (Piece T)) (p : Piece T) (ys : List (Piece T)) → Rises a (xs ++ p ∷ ys) b → Rises a (xs ++ ys) b
  rises_apart a b xs p ys h =
      rises_join a p.lo b xs ys (rises_front a b xs p ys h)
      (rises_wider p.hi b p.lo b ys (let own = rises_own a b xs p ys h in omega arith) (omega arith) (rises_back a b xs p ys h))

  -- the first piece behind a cell stands in the first list that has one
  pub next_left : (cell : ℕ) (xs ys : List (Piece T)) (p : Piece T) → next_of cell xs ≡ Some p → next_of cell (xs ++ ys) ≡ Some p
  next_left cell [] ys p e = cc
  next_left cell (q ∷ rest) ys p e = grind (arith, nat_tests, next_left cell rest ys p)

  pub next_right : (cell : ℕ) (xs ys : List (Piece T)) → next_of cell xs ≡ None → next_of cell (xs ++ ys) ≡ next_of cell ys
  next_right cell [] ys e = refl
  next_right cell (q ∷ rest) ys e = grind (arith, nat_tests, next_right cell rest ys)

  pub next_none : (a b cell : ℕ) (xs : List (Piece T)) → Rises a xs b → b ≤ cell → next_of cell xs ≡ None
  next_none a b cell [] h e = refl
  next_none a b cell (p ∷ rest) h e =
      let ends = rises_order p.hi b rest h.2 in
      grind (arith, nat_tests, next_none p.hi b cell rest h.2 e)

  pub inserted_left : (p q : Piece T) (xs ys : List (Piece T)) → p.lo < q.lo → inserted p (xs ++ q ∷ ys) ≡ inserted p xs ++ q ∷ ys
  inserted_left p q [] ys e = grind (arith, nat_tests)
  inserted_left p q (x ∷ rest) ys e = grind (arith, nat_tests, inserted_left p q rest ys e)

  pub inserted_right : (a : ℕ) (p q : Piece T) (xs ys : List (Piece T)) → Rises a xs q.lo → q.lo ≤ p.lo → inserted p (xs ++ q ∷ ys) ≡ xs ++ q ∷ inserted p ys
  inserted_right a p q [] ys h e = grind (arith, nat_tests)
  inserted_right a p q (x ∷ rest) ys h e =
      let ends = rises_order x.hi q.lo rest h.2 in
      grind (arith, nat_tests, inserted_right x.hi p q rest ys h.2 e)

  pub removed_left : (cell : ℕ) (xs ys : List (Piece T)) (p : Piece T) → next_of cell xs ≡ Some p → removed cell (xs ++ ys) ≡ removed cell xs ++ ys
  removed_left cell [] ys p e = cc
  removed_left cell (x ∷ rest) ys p e = grind (arith, nat_tests, removed_left cell rest ys p)

  pub removed_right : (cell : ℕ) (xs ys : List (Piece T)) → next_of cell xs ≡ None → removed cell (xs ++ ys) ≡ xs ++ removed cell ys
  removed_right cell [] ys e = refl
  removed_right cell (x ∷ rest) ys e = grind (arith, nat_tests, removed_right cell rest ys)

  pub removed_none : (cell : ℕ) (xs : List (Piece T)) → next_of cell xs ≡ None → removed cell xs ≡ xs
  removed_none cell [] e = refl
  removed_none cell (x ∷ rest) e = grind (arith, nat_tests, removed_none cell rest)

  pub removed_rises : (a b cell : ℕ) (xs : List (Piece T)) → Rises a xs b → Rises a (removed cell xs) b
  removed_rises a b cell [] h = h
  removed_rises a b cell (p ∷ rest) h = by (nat_lt cell p.hi) (removed_rises p.hi b cell rest h.2) where
    by : (t : Bool) → Rises p.hi (removed cell rest) b → Rises a (if t then rest else p ∷ removed cell rest) b
    by true more = rises_wider p.hi b a b rest (let e = h.0 in let f = h.1 in omega arith) (omega arith) h.2
    by false more = (h.0, h.1, more)

  pub next_first : (cell : ℕ) (p : Piece T) (rest : List (Piece T)) → cell < p.hi → next_of cell (p ∷ rest) ≡ Some p
  next_first cell p rest low = grind (arith, nat_tests)

  pub next_later : (cell : ℕ) (p : Piece T) (rest : List (Piece T)) → p.hi ≤ cell → next_of cell (p ∷ rest) ≡ next_of cell rest
  next_later cell p rest low = grind (arith, nat_tests)

  pub removed_here : (cell : ℕ) (p : Piece T) (rest : List (Piece T)) → cell < p.hi → removed cell (p ∷ rest) ≡ rest
  removed_here cell p rest low = grind (arith, nat_tests)

  pub removed_past : (cell : ℕ) (p : Piece T) (rest : List (Piece T)) → p.hi ≤ cell → removed cell (p ∷ rest) ≡ p ∷ removed cell rest
  removed_past cell p rest low = grind (arith, nat_tests)

  -- a piece between two lists of pieces goes between them
  pub inserted_between : (a m b : ℕ) (p : Piece T) (xs ys : List (Piece T)) → Rises a xs p.lo → Rises m ys b → p.lo < m → inserted p (xs ++ ys) ≡ xs ++ p ∷ ys
  inserted_between a m b p [] [] h k low = refl
  inserted_between a m b p [] (y ∷ more) h k low = let e = k.0 in grind (arith, nat_tests)
  inserted_between a m b p (x ∷ rest) ys h k low =
      let ends = rises_order x.hi p.lo rest h.2 in
      let own = h.1 in
      grind (arith, nat_tests, inserted_between x.hi m b p rest ys h.2 k low)
