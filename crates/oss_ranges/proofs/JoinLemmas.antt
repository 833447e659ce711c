-- Pieces that touch and have one value, as one.
use Rattle.std.specs.Prelude.{◌≡◌, ◌≢◌, ◌≤◌, ◌<◌, ◌-◌, ◌==◌, ℕ, Bool, true, false, ◌&&◌, nat_lt, if◌then◌else◌, List, [], ◌∷◌, Option, Some, None, refl, is_some}
use Rattle.std.proofs.Common.{sym, ◌∙◌, ap, arith}
use Rattle.std.proofs.lemmas.Bool.Decides.{nat_tests}
use Rattle.oss_ranges.proofs.CutLemmas.{inserted_front, inserted_later, next_within}
use Rattle.oss_ranges.proofs.PieceLemmas.{next_first, removed_here, removed_past}
use Rattle.oss_ranges.specs.Cells.{first_of, front_joined, holds, inserted, joined_at, next_of, removed, Rises, union_of, value_at}
use Rattle.oss_ranges.specs.declared.piece.Piece.{Piece}

-- a test of three parts that holds
and_three : (x y z : Bool) → ((x && y) && z) ≡ true → (x ≡ true) × (y ≡ true) × (z ≡ true)
and_three true true true e = (refl, refl, refl)
and_three true true false e = cc
and_three true false z e = cc
and_three false y z e = cc

equal : (m n : ℕ) → (m == n) ≡ true → m ≡ n
equal m n e = grind (arith, nat_tests)

module _ {T : Type 0} (same : T → T → Bool) where
  pub joined_map : ((x y : T) → same x y ≡ true → x ≡ y) → (a b cell other : ℕ) (xs : List (Piece T)) → Rises a xs b → value_at (joined_at same cell xs) other ≡ value_at xs other
  joined_map one a b cell other [] h = refl
  joined_map one a b cell other (p ∷ []) h = refl
  joined_map one a b cell other (p ∷ q ∷ rest) h =
      by ((p.hi == cell && q.lo == cell) && same p.value q.value) refl (joined_map one p.hi b cell other (q ∷ rest) h.2) where
        by : (t : Bool) → ((p.hi == cell && q.lo == cell) && same p.value q.value) ≡ t → value_at (joined_at same cell (q ∷ rest)) other ≡ value_at (q ∷ rest) other
            → value_at (front_joined (if t then Some (record p { hi = q.hi }) else None) p (q ∷ rest) (joined_at same cell (q ∷ rest))) other ≡ value_at (p ∷ q ∷ rest) other
        by true w more =
            let parts = and_three (p.hi == cell) (q.lo == cell) (same p.value q.value) w in
            let touch : p.hi ≡ q.lo = equal p.hi cell parts.0 ∙ sym (equal q.lo cell parts.1) in
            let value = one p.value q.value parts.2 in
            let first = h.1 in let second = h.2.1 in
            rw (← value) (grind (arith, nat_tests))
        by false w more = ap (λ v. if holds p other then Some p.value else v) more

  -- no pieces touch at a cell where none ends
  union_none : (cell : ℕ) (p : Piece T) (o : Option (Piece T)) → p.hi ≢ cell → union_of same cell (Some p) o ≡ None
  union_none cell p None e = refl
  union_none cell p (Some q) e = grind (arith, nat_tests)

  pub front_alone : (cell : ℕ) (p : Piece T) (rest : List (Piece T)) → p.hi ≢ cell → joined_at same cell (p ∷ rest) ≡ p ∷ joined_at same cell rest
  front_alone cell p [] e = refl
  front_alone cell p (q ∷ rest) e = rw (union_none cell p (Some q) e) refl

  -- pieces behind the cell are not joined
  pub joined_behind : (a b cell : ℕ) (xs : List (Piece T)) → Rises a xs b → cell ≤ a → joined_at same cell xs ≡ xs
  joined_behind a b cell [] h e = refl
  joined_behind a b cell (p ∷ rest) h e =
      let low = h.0 in let own = h.1 in
      front_alone cell p rest (omega arith) ∙ ap (λ x. p ∷ x) (joined_behind p.hi b cell rest h.2 (omega arith))

  -- the pieces with one in place of two
  abbrev pub made_one : Option (Piece T) → List (Piece T) → List (Piece T)
  made_one None xs = xs
  made_one (Some whole) xs = inserted whole (removed whole.lo (removed whole.lo xs))

  made_later : (whole q : Piece T) (rest : List (Piece T)) → q.lo < q.hi → q.hi ≤ whole.lo → made_one (Some whole) (q ∷ rest) ≡ q ∷ made_one (Some whole) rest
  made_later whole q rest own low =
      rw (removed_past whole.lo q rest low, removed_past whole.lo q (removed whole.lo rest) low, inserted_later whole q (removed whole.lo (removed whole.lo rest)) (omega arith)) refl

  -- where a union begins
  pub union_from : (cell : ℕ) (o r : Option (Piece T)) (whole : Piece T) → union_of same cell o r ≡ Some whole → (p : Piece T) × (o ≡ Some p) × (whole.lo ≡ p.lo)
  union_from cell None r whole e = cc
  union_from cell (Some p) None whole e = cc
  union_from cell (Some p) (Some q) whole e = by ((p.hi == cell && q.lo == cell) && same p.value q.value) e where
    by : (t : Bool) → (if t then Some (record p { hi = q.hi }) else None) ≡ Some whole → (s : Piece T) × (Some p ≡ Some s) × (whole.lo ≡ s.lo)
    by true k = let is : record p { hi = q.hi } ≡ whole = cc in (p, refl, sym (ap (λ z. z.lo) is))
    by false k = cc

  pub joined_is : (a b cell : ℕ) (xs : List (Piece T)) → Rises a xs b → made_one (union_of same cell (next_of (cell - 1) xs) (next_of cell xs)) xs ≡ joined_at same cell xs
  joined_is a b cell [] h = refl
  joined_is a b cell (q ∷ rest) h = by (nat_lt (cell - 1) q.hi) (nat_lt cell q.hi) refl refl (joined_is q.hi b cell rest h.2) where
    own : q.lo < q.hi
    own = h.1

    later : (o : Option (Piece T)) → union_of same cell (next_of (cell - 1) rest) (next_of cell rest) ≡ o → made_one o rest ≡ joined_at same cell rest → made_one o (q ∷ rest) ≡ q ∷ joined_at same cell rest
    later None e more = ap (λ x. q ∷ x) more
    later (Some whole) e more =
        let from = union_from cell (next_of (cell - 1) rest) (next_of cell rest) whole e in
        let at = next_within q.hi b (cell - 1) from.0 rest h.2 from.1 in
        let low : q.hi ≤ whole.lo = rw from.2 at.0 in
        made_later whole q rest own low ∙ ap (λ x. q ∷ x) more

    touching : (all : List (Piece T)) → rest ≡ all → Rises q.hi all b → q.hi ≡ cell → made_one (union_of same cell (Some q) (next_of cell all)) (q ∷ all) ≡ front_joined (union_of same cell (Some q) (first_of all)) q all (joined_at same cell all)
    touching [] is k e = refl
    touching (r ∷ others) is k e =
        let low = k.0 in let high = k.1 in
        let found : next_of cell (r ∷ others) ≡ Some r = next_first cell r others (omega arith) in
        let behind = joined_behind q.hi b cell (r ∷ others) k (omega arith) in
        rw found (pick ((q.hi == cell && r.lo == cell) && same q.value r.value) behind) where
          pick : (t : Bool) → joined_at same cell (r ∷ others) ≡ r ∷ others → made_one (if t then Some (record q { hi = r.hi }) else None) (q ∷ r ∷ others) ≡ front_joined (if t then Some (record q { hi = r.hi }) else None) q (r ∷ others) (joined_at same cell (r ∷ others))
          pick true e2 =
              let inside : q.lo < r.hi = (let low = k.0 in let high = k.1 in omega arith) in
              rw (removed_here q.lo q (r ∷ others) own, removed_here q.lo r others inside) (inserted_front r.hi b (record q { hi = r.hi }) others k.2 inside)
          pick false e2 = ap (λ x. q ∷ x) (sym e2)

    by : (t u : Bool) → nat_lt (cell - 1) q.hi ≡ t → nat_lt cell q.hi ≡ u → made_one (union_of same cell (next_of (cell - 1) rest) (next_of cell rest)) rest ≡ joined_at same cell rest
        → made_one (union_of same cell (if t then Some q else next_of (cell - 1) rest) (if u then Some q else next_of cell rest)) (q ∷ rest) ≡ joined_at same cell (q ∷ rest)
    by true true e f more =
        let high : cell < q.hi = grind (arith, nat_tests) in
        let apart : q.hi ≢ cell = (λ k. omega arith) in
        rw (union_none cell q (Some q) apart) (sym (front_alone cell q rest apart ∙ ap (λ x. q ∷ x) (joined_behind q.hi b cell rest h.2 (omega arith))))
    by true false e f more = touching rest refl h.2 (grind (arith, nat_tests))
    by false true e f more = absurd (grind (arith, nat_tests))
    by false false e f more =
        let low : q.hi ≤ cell - 1 = grind (arith, nat_tests) in
        let apart : q.hi ≢ cell = (λ k. let o = own in omega arith) in
        later (union_of same cell (next_of (cell - 1) rest) (next_of cell rest)) refl more ∙ sym (front_alone cell q rest apart)

  pub joined_rises : (a b cell : ℕ) (xs : List (Piece T)) → Rises a xs b → Rises a (joined_at same cell xs) b
  joined_rises a b cell [] h = h
  joined_rises a b cell (p ∷ []) h = h
  joined_rises a b cell (p ∷ q ∷ rest) h = by ((p.hi == cell && q.lo == cell) && same p.value q.value) (joined_rises p.hi b cell (q ∷ rest) h.2) where
    by : (t : Bool) → Rises p.hi (joined_at same cell (q ∷ rest)) b → Rises a (front_joined (if t then Some (record p { hi = q.hi }) else None) p (q ∷ rest) (joined_at same cell (q ∷ rest))) b
    by true more = (h.0, (let one = h.1 in let two = h.2.0 in let three = h.2.1 in omega arith), h.2.2)
    by false more = (h.0, h.1, more)

  -- the front of a piece that was found is before its end
  pub next_again : (a b cell : ℕ) (p : Piece T) (xs : List (Piece T)) → Rises a xs b → next_of cell xs ≡ Some p → is_some (next_of p.lo xs) ≡ true
  next_again a b cell p [] h e = cc
  next_again a b cell p (q ∷ rest) h e = by (nat_lt cell q.hi) refl e (λ k. next_again q.hi b cell p rest h.2 k) where
    some : (t : Bool) → is_some (next_of p.lo rest) ≡ true → is_some (if t then Some q else next_of p.lo rest) ≡ true
    some true k = refl
    some false k = k

    by : (t : Bool) → nat_lt cell q.hi ≡ t → (if t then Some q else next_of cell rest) ≡ Some p → (next_of cell rest ≡ Some p → is_some (next_of p.lo rest) ≡ true) → is_some (if nat_lt p.lo q.hi then Some q else next_of p.lo rest) ≡ true
    by true w k more = let is : q ≡ p = cc in let own = h.1 in let inside : p.lo < q.hi = rw (← is) own in grind (arith, nat_tests)
    by false w k more = some (nat_lt p.lo q.hi) (more k)
