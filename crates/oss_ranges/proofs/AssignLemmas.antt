-- What assigning and clearing a range make of the pieces.
use Rattle.std.specs.Prelude.{◌≡◌, ◌≤◌, ◌<◌, ℕ, Bool, true, false, nat_lt, if◌then◌else◌, ◌&&◌, ◌==◌, List, [], ◌∷◌, Option, Some, None, refl, is_some}
use Rattle.std.proofs.Common.{◌∙◌, ap, arith, inl, inr, subst, sym}
use Rattle.std.proofs.lemmas.Bool.Decides.{nat_tests}
use Rattle.oss_ranges.proofs.CutLemmas.{cut_begin, cut_here, cut_is_cut, cut_keeps, cut_none, cut_past, cut_rises, cut_same, inserted_front, inserted_later, next_within}
use Rattle.oss_ranges.proofs.MapLemmas.{inserted_cut, next_none_on, next_same, outside_all, outside_cut, outside_inserted, outside_none, outside_rises, value_inserted, value_outside}
use Rattle.oss_ranges.specs.Cells.{Assigns, Begins, cut_at, CutsAround, emptied, front_of, inserted, is_before, is_within, IsCut, IsExactly, next_of, outside, removed, Rises, value_at}
use Rattle.oss_ranges.specs.declared.piece.Piece.{Piece}

module _ {T : Type 0} where
  twice_rises : (lo hi : ℕ) (xs : List (Piece T)) → Rises 0 xs 1048576 → Rises 0 (cut_at hi (cut_at lo xs)) 1048576
  twice_rises lo hi xs h = cut_rises 0 1048576 hi (cut_at lo xs) (cut_rises 0 1048576 lo xs h)

  twice_low : (lo hi : ℕ) (xs : List (Piece T)) → Rises 0 xs 1048576 → IsCut lo (cut_at hi (cut_at lo xs))
  twice_low lo hi xs h = cut_keeps hi lo (cut_at lo xs) (cut_is_cut 0 1048576 lo xs h)

  twice_high : (lo hi : ℕ) (xs : List (Piece T)) → Rises 0 xs 1048576 → IsCut hi (cut_at hi (cut_at lo xs))
  twice_high lo hi xs h = cut_is_cut 0 1048576 hi (cut_at lo xs) (cut_rises 0 1048576 lo xs h)

  pub emptied_map : (lo hi : ℕ) (xs : List (Piece T)) → Rises 0 xs 1048576 → Assigns lo hi None xs (emptied lo hi xs)
  emptied_map lo hi xs h cell =
      value_outside 0 1048576 lo hi cell (cut_at hi (cut_at lo xs)) (twice_rises lo hi xs h) (twice_low lo hi xs h) (twice_high lo hi xs h)
      ∙ ap (λ v. if is_within lo hi cell then None else v) (cut_same hi cell (cut_at lo xs) ∙ cut_same lo cell xs)

  pub emptied_rises : (lo hi : ℕ) (xs : List (Piece T)) → Rises 0 xs 1048576 → Rises 0 (emptied lo hi xs) 1048576
  emptied_rises lo hi xs h = outside_rises 0 1048576 lo hi (cut_at hi (cut_at lo xs)) (twice_rises lo hi xs h)

  pub emptied_cuts : (lo hi : ℕ) (xs : List (Piece T)) → Rises 0 xs 1048576 → CutsAround lo hi xs (emptied lo hi xs)
  emptied_cuts lo hi xs h = (
    outside_cut lo lo hi (cut_at hi (cut_at lo xs)) (twice_low lo hi xs h),
    outside_cut hi lo hi (cut_at hi (cut_at lo xs)) (twice_high lo hi xs h),
    λ other out cut. outside_cut other lo hi (cut_at hi (cut_at lo xs)) (cut_keeps hi other (cut_at lo xs) (cut_keeps lo other xs cut)),
  )

  -- where no piece has a cell of the range, nothing is cut and nothing goes
  pub emptied_none : (lo hi : ℕ) (xs : List (Piece T)) → Rises 0 xs 1048576 → lo < hi → is_before (next_of lo xs) hi ≡ false → emptied lo hi xs ≡ xs
  emptied_none lo hi xs h low e =
      let whole = by (next_of lo xs) refl e in
      ap (outside lo hi) (ap (cut_at hi) whole.0 ∙ whole.1) ∙ outside_none 0 1048576 lo hi xs h e where
        by : (n : Option (Piece T)) → next_of lo xs ≡ n → is_before n hi ≡ false → (cut_at lo xs ≡ xs) × (cut_at hi xs ≡ xs)
        by None f k = (cut_none lo xs f, cut_none hi xs (next_none_on lo hi xs f (omega arith)))
        by (Some p) f k =
            let far : hi ≤ p.lo = grind (arith, nat_tests) in
            let own = (next_within 0 1048576 lo p xs h f).1 in
            (cut_begin lo p xs f (omega arith), cut_begin hi p xs (next_same 0 1048576 lo hi p xs h f (omega arith) (omega arith)) far)

  pub untouched_map : (lo hi : ℕ) (xs : List (Piece T)) → Rises 0 xs 1048576 → lo < hi → is_before (next_of lo xs) hi ≡ false → Assigns lo hi None xs xs
  untouched_map lo hi xs h low e = subst (λ ys. Assigns lo hi None xs ys) (emptied_none lo hi xs h low e) (emptied_map lo hi xs h)

  pub untouched_cuts : (lo hi : ℕ) (xs : List (Piece T)) → Rises 0 xs 1048576 → lo < hi → is_before (next_of lo xs) hi ≡ false → CutsAround lo hi xs xs
  untouched_cuts lo hi xs h low e = subst (λ ys. CutsAround lo hi xs ys) (emptied_none lo hi xs h low e) (emptied_cuts lo hi xs h)

  -- where one piece has the cells of the range and no others, nothing is cut, and that piece goes
  cut_behind : (a b cell : ℕ) (xs : List (Piece T)) → Rises a xs b → cell ≤ a → cut_at cell xs ≡ xs
  cut_behind a b cell [] h low = refl
  cut_behind a b cell (p ∷ rest) h low = let front = h.0 in grind (arith, nat_tests)

  cut_end : (a b lo hi : ℕ) (p : Piece T) (xs : List (Piece T)) → Rises a xs b → next_of lo xs ≡ Some p → p.hi ≡ hi → cut_at hi xs ≡ xs
  cut_end a b lo hi p [] h e same = refl
  cut_end a b lo hi p (q ∷ rest) h e same =
      by (nat_lt lo q.hi) refl e (λ k. cut_end q.hi b lo hi p rest h.2 k same) (λ k. (next_within q.hi b lo p rest h.2 k).3) where
        by : (t : Bool) → nat_lt lo q.hi ≡ t → (if t then Some q else next_of lo rest) ≡ Some p → (next_of lo rest ≡ Some p → cut_at hi rest ≡ rest)
            → (next_of lo rest ≡ Some p → lo < p.hi) → cut_at hi (q ∷ rest) ≡ q ∷ rest
        by true w k more past =
            let is : q ≡ p = cc in
            let ends : q.hi ≡ hi = rw is same in
            let later = cut_behind q.hi b hi rest h.2 (omega arith) in
            grind (arith, nat_tests, later, ends)
        by false w k more past = let later = more k in let far = past k in grind (arith, nat_tests, later, far, same)

  outside_end : (a b lo hi : ℕ) (p : Piece T) (xs : List (Piece T)) → Rises a xs b → next_of lo xs ≡ Some p → p.lo ≡ lo → p.hi ≡ hi → outside lo hi xs ≡ removed lo xs
  outside_end a b lo hi p [] h e front same = refl
  outside_end a b lo hi p (q ∷ rest) h e front same = by (nat_lt lo q.hi) refl e (λ k. outside_end q.hi b lo hi p rest h.2 k front same) where
    by : (t : Bool) → nat_lt lo q.hi ≡ t → (if t then Some q else next_of lo rest) ≡ Some p → (next_of lo rest ≡ Some p → outside lo hi rest ≡ removed lo rest)
        → outside lo hi (q ∷ rest) ≡ (if t then rest else q ∷ removed lo rest)
    by true w k more =
        let is : q ≡ p = cc in
        let ends : q.hi ≡ hi = rw is same in
        let begins : q.lo ≡ lo = rw is front in
        let own = h.1 in
        let later = outside_all q.hi b lo hi rest h.2 (omega arith) in
        grind (arith, nat_tests, later, ends, begins)
    by false w k more = let later = more k in grind (arith, nat_tests, later)

  pub emptied_exact : (lo hi : ℕ) (xs : List (Piece T)) → Rises 0 xs 1048576 → IsExactly lo hi (next_of lo xs) → (is_some (next_of lo xs) ≡ true) × (emptied lo hi xs ≡ removed lo xs)
  emptied_exact lo hi xs h e = by (next_of lo xs) refl e where
    by : (n : Option (Piece T)) → next_of lo xs ≡ n → IsExactly lo hi n → (is_some n ≡ true) × (emptied lo hi xs ≡ removed lo xs)
    by None f k = absurd k
    by (Some p) f k =
        let begins = k.0 in
        (refl, ap (outside lo hi) (ap (cut_at hi) (cut_begin lo p xs f (omega arith)) ∙ cut_end 0 1048576 lo hi p xs h f k.1) ∙ outside_end 0 1048576 lo hi p xs h f k.0 k.1)

  -- where a piece begins before the range and ends with it, it is cut short, and nothing else goes
  cut_short : (a b lo hi : ℕ) (p : Piece T) (xs : List (Piece T)) → Rises a xs b → next_of lo xs ≡ Some p → p.lo < lo → p.hi ≡ hi
      → outside lo hi (cut_at hi (cut_at lo xs)) ≡ inserted (record p { hi = lo }) (removed p.lo xs)
  cut_short a b lo hi p [] h e front same = cc
  cut_short a b lo hi p (q ∷ rest) h e front same =
      by (nat_lt lo q.hi) refl e (λ k. cut_short q.hi b lo hi p rest h.2 k front same) (λ k. next_within q.hi b lo p rest h.2 k) where
        kept : (x : Piece T) (more : List (Piece T)) → x.hi ≤ lo → outside lo hi (x ∷ more) ≡ x ∷ outside lo hi more
        kept x more past = grind (arith, nat_tests)

        gone : (x : Piece T) (more : List (Piece T)) → lo < x.hi → x.lo < hi → outside lo hi (x ∷ more) ≡ outside lo hi more
        gone x more low high = grind (arith, nat_tests)

        taken : (x : Piece T) (more : List (Piece T)) → x.lo < x.hi → removed x.lo (x ∷ more) ≡ more
        taken x more own = grind (arith, nat_tests)

        left : (cell : ℕ) (x : Piece T) (more : List (Piece T)) → x.hi ≤ cell → removed cell (x ∷ more) ≡ x ∷ removed cell more
        left cell x more past = grind (arith, nat_tests)

        by : (t : Bool) → nat_lt lo q.hi ≡ t → (if t then Some q else next_of lo rest) ≡ Some p
            → (next_of lo rest ≡ Some p → outside lo hi (cut_at hi (cut_at lo rest)) ≡ inserted (record p { hi = lo }) (removed p.lo rest))
            → (next_of lo rest ≡ Some p → (q.hi ≤ p.lo) × (p.lo < p.hi) × (p.hi ≤ b) × (lo < p.hi))
            → outside lo hi (cut_at hi (cut_at lo (q ∷ rest))) ≡ inserted (record p { hi = lo }) (removed p.lo (q ∷ rest))
        by true w k more past =
            let is : q ≡ p = cc in
            let ends : q.hi ≡ hi = rw is same in
            let begins : q.lo < lo = rw is front in
            let inside : lo < q.hi = grind (arith, nat_tests) in
            let own = h.1 in
            let first : Piece T = record q { hi = lo } in
            let second : Piece T = record q { lo = lo } in
            let cut = cut_here lo q rest begins inside in
            let again : cut_at hi (first ∷ second ∷ rest) ≡ first ∷ second ∷ rest =
            cut_past hi first (second ∷ rest) (omega arith) ∙ ap (λ ys. first ∷ ys) (cut_past hi second rest (omega arith) ∙ ap (λ ys. second ∷ ys) (cut_behind q.hi b hi rest h.2 (omega arith))) in
            let all : outside lo hi (cut_at hi (cut_at lo (q ∷ rest))) ≡ first ∷ rest =
            ap (outside lo hi) (ap (cut_at hi) cut ∙ again) ∙ kept first (second ∷ rest) (omega arith)
            ∙ ap (λ ys. first ∷ ys) (gone second rest inside (omega arith) ∙ outside_all q.hi b lo hi rest h.2 (omega arith)) in
            let right : inserted first (removed q.lo (q ∷ rest)) ≡ first ∷ rest = ap (inserted first) (taken q rest own) ∙ inserted_front q.hi b first rest h.2 own in
            subst (λ (x : Piece T). outside lo hi (cut_at hi (cut_at lo (q ∷ rest))) ≡ inserted (record x { hi = lo }) (removed x.lo (q ∷ rest))) is (all ∙ sym right)
        by false w k more past =
            let behind : q.hi ≤ lo = grind (arith, nat_tests) in
            let low = (past k).0 in
            let far = (past k).3 in
            let own = h.1 in
            ap (outside lo hi) (ap (cut_at hi) (cut_past lo q rest behind) ∙ cut_past hi q (cut_at lo rest) (omega arith)) ∙ kept q (cut_at hi (cut_at lo rest)) behind
            ∙ ap (λ ys. q ∷ ys) (more k) ∙ sym (ap (inserted (record p { hi = lo })) (left p.lo q rest low) ∙ inserted_later (record p { hi = lo }) q (removed p.lo rest) (omega arith))

  -- the first piece behind the front of one that was found is that one
  next_front : (a b cell : ℕ) (p : Piece T) (xs : List (Piece T)) → Rises a xs b → next_of cell xs ≡ Some p → next_of p.lo xs ≡ Some p
  next_front a b cell p [] h e = cc
  next_front a b cell p (q ∷ rest) h e = by (nat_lt cell q.hi) refl e (λ k. next_front q.hi b cell p rest h.2 k) (λ k. (next_within q.hi b cell p rest h.2 k).0) where
    by : (t : Bool) → nat_lt cell q.hi ≡ t → (if t then Some q else next_of cell rest) ≡ Some p → (next_of cell rest ≡ Some p → next_of p.lo rest ≡ Some p) → (next_of cell rest ≡ Some p → q.hi ≤ p.lo)
        → (if nat_lt p.lo q.hi then Some q else next_of p.lo rest) ≡ Some p
    by true w k more past = let is : q ≡ p = cc in let own = h.1 in let inside : p.lo < q.hi = rw (← is) own in grind (arith, nat_tests)
    by false w k more past = let far = past k in let found = more k in grind (arith, nat_tests)

  -- what is put in place of such a piece begins where that does
  pub emptied_short : (lo hi : ℕ) (front : Piece T) (xs : List (Piece T)) → Rises 0 xs 1048576 → front_of lo hi (next_of lo xs) ≡ Some front
      → Begins front.lo (next_of front.lo xs) × (emptied lo hi xs ≡ inserted front (removed front.lo xs))
  emptied_short lo hi front xs h e = by (next_of lo xs) refl e where
    by : (n : Option (Piece T)) → next_of lo xs ≡ n → front_of lo hi n ≡ Some front → Begins front.lo (next_of front.lo xs) × (emptied lo hi xs ≡ inserted front (removed front.lo xs))
    by None f k = cc
    by (Some p) f k = pick (nat_lt p.lo lo) (p.hi == hi) refl refl k where
      pick : (t u : Bool) → nat_lt p.lo lo ≡ t → (p.hi == hi) ≡ u → (if t && u then Some (record p { hi = lo }) else None) ≡ Some front
          → Begins front.lo (next_of front.lo xs) × (emptied lo hi xs ≡ inserted front (removed front.lo xs))
      pick true true v w m =
          let is : record p { hi = lo } ≡ front = cc in
          let low : p.lo < lo = grind (arith, nat_tests) in
          let ends : p.hi ≡ hi = grind (arith, nat_tests) in
          let here = next_front 0 1048576 lo p xs h f in
          let begins : Begins p.lo (next_of p.lo xs) = subst (λ (n : Option (Piece T)). Begins p.lo n) (sym here) refl in
          subst (λ (x : Piece T). Begins x.lo (next_of x.lo xs) × (emptied lo hi xs ≡ inserted x (removed x.lo xs))) is (begins, cut_short 0 1048576 lo hi p xs h f low ends)
      pick true false v w m = cc
      pick false u v w m = cc

  -- the piece that is put in place of them fits between those that stay
  pub placed_rises : (lo hi : ℕ) (p : Piece T) (xs : List (Piece T)) → Rises 0 xs 1048576 → p.lo ≡ lo → p.hi ≡ hi → lo < hi → hi ≤ 1048576 → Rises 0 (inserted p (emptied lo hi xs)) 1048576
  placed_rises lo hi p xs h e f own high =
      outside_inserted 0 1048576 lo hi p (cut_at hi (cut_at lo xs)) (twice_rises lo hi xs h) (twice_low lo hi xs h) (twice_high lo hi xs h) e f (omega arith) own high

  pub assigned_map : (p : Piece T) (xs : List (Piece T)) → Rises 0 xs 1048576 → p.lo < p.hi → p.hi ≤ 1048576 → Assigns p.lo p.hi (Some p.value) xs (inserted p (emptied p.lo p.hi xs))
  assigned_map p xs h own high cell =
      by (is_within p.lo p.hi cell) (value_inserted 0 1048576 cell p (emptied p.lo p.hi xs) (placed_rises p.lo p.hi p xs h refl refl own high)) (emptied_map p.lo p.hi xs h cell) where
        by : (t : Bool) → value_at (inserted p (emptied p.lo p.hi xs)) cell ≡ (if t then Some p.value else value_at (emptied p.lo p.hi xs) cell) → value_at (emptied p.lo p.hi xs) cell ≡ (if t then None else value_at xs cell)
            → value_at (inserted p (emptied p.lo p.hi xs)) cell ≡ (if t then Some p.value else value_at xs cell)
        by true k m = k
        by false k m = k ∙ m

  pub assigned_cuts : (p : Piece T) (xs : List (Piece T)) → Rises 0 xs 1048576 → CutsAround p.lo p.hi xs (inserted p (emptied p.lo p.hi xs))
  assigned_cuts p xs h =
      let cuts = emptied_cuts p.lo p.hi xs h in (
        inserted_cut p.lo p (emptied p.lo p.hi xs) (inl (omega arith)) cuts.0,
        inserted_cut p.hi p (emptied p.lo p.hi xs) (inr (omega arith)) cuts.1,
        λ other out cut. inserted_cut other p (emptied p.lo p.hi xs) out (cuts.2 other out cut),
      )
