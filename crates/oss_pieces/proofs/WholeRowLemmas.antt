-- Rows that the set has whole: where one follows another, it begins no piece.
use Rattle.std.proofs.Common.{◌≡◌, ◌≤◌, ◌<◌, ℕ, zero, suc, ◌+◌, ◌-◌, ◌*◌, ◌/◌, ◌%◌, Bool, true, false, List, [], inl, inr, refl, sym, ◌∙◌, ap, subst, arith}
use Rattle.std.proofs.Math.Nat.{mul-le-mul_right, suc-mul}
use Rattle.std.proofs.lemmas.Bool.{cases_lt, cases_order}
use Rattle.std.proofs.lemmas.Nat.{div-add-mod', mod_below, mul-le}
use Rattle.oss_pieces.specs.declared.piece.Piece.{Piece}
use Rattle.oss_pieces.specs.Rows.{Grid, HasRun, IsRun, row_begin, row_end}
use Rattle.oss_pieces.specs.Pieces.{ArePiecesTo, IsAdded, IsBetweenRuns, IsPastWhole}
use Rattle.oss_pieces.proofs.RunLemmas.{between_after, ends_before, has_columns, row_end_inside, row_end_within}
use Rattle.oss_pieces.proofs.StepLemmas.{with_run}

never : (b : Bool) → b ≡ true → b ≡ false → ⊥
never b h k = let e : true ≡ false = sym h ∙ k in cc

-- so many rows further on
rows_on : (s : Grid) (r n : ℕ) → row_begin s (r + n) ≡ row_begin s r + n * s.width
rows_on s r n = grind arith

next_row : (s : Grid) (r : ℕ) → row_begin s (r + 1) ≡ row_begin s r + s.width
next_row s r = grind arith

module _ (s : Grid) (test : ℕ → Bool) (some : 0 < s.width) where
  -- a row of which all cells are in the set is a run
  pub whole_row : (r : ℕ) → row_begin s r + s.width ≤ s.start + s.cells → ((c : ℕ) → row_begin s r ≤ c → c < row_begin s r + s.width → test c ≡ true) → HasRun s test r 0 (s.width - 1)
  whole_row r fits all =
      let ends : row_end s r ≡ row_begin s r + s.width = omega (arith, fits) in
      record {
        there = omega (arith, fits, some);
        run = record {
          some = omega (arith, some);
          above = omega arith;
          below = omega (arith, ends, some);
          all = λ c a b. all c (omega (arith, a)) (omega (arith, b, some));
          before = λ h. absurd (omega (arith, h));
          after = λ h. absurd (omega (arith, h, ends, some));
        };
      }

  -- what is known of such a row
  pub whole_end : (r : ℕ) → HasRun s test r 0 (s.width - 1) → row_end s r ≡ row_begin s r + s.width
  whole_end r has =
      let below = has.run.below in
      let within = row_end_within s r in
      omega (arith, below, within, some)

  pub whole_cells : (r : ℕ) → HasRun s test r 0 (s.width - 1) → (c : ℕ) → row_begin s r ≤ c → c < row_begin s r + s.width → test c ≡ true
  whole_cells r has c a b = has.run.all c (omega (arith, a)) (omega (arith, b, some))

  -- Rows behind one that is whole

  -- The cells from the end of this row up to `end` are in the set, and what is left behind so many whole rows is less than a row.
  pub record AreWhole (row end count : ℕ) : Type 0 where
    pub first : HasRun s test row 0 (s.width - 1)
    pub within : end ≤ s.start + s.cells
    pub all : (c : ℕ) → row_begin s row + s.width ≤ c → c < end → test c ≡ true
    pub ended : end < s.start + s.cells → test end ≡ false
    pub from : row_begin s row + s.width + count * s.width ≤ end
    pub to : end < row_begin s row + s.width + count * s.width + s.width

  module _ (row end count : ℕ) (w : AreWhole row end count) where
    every_cell : (c : ℕ) → row_begin s row ≤ c → c < end → test c ≡ true
    every_cell c a b = elim (cases_lt c (row_begin s row + s.width)) [
      | inl h ↦ whole_cells row w.first c a h
      | inr h ↦ w.all c h b
    ]

    each_on : (n : ℕ) → n ≤ count → HasRun s test (row + n) 0 (s.width - 1)
    each_on n h =
        let e : row_begin s (row + n) ≡ row_begin s row + n * s.width = rows_on s row n in
        let m : n * s.width ≤ count * s.width = mul-le-mul_right s.width h in
        let from = w.from in
        let within = w.within in
        whole_row (row + n) (omega (arith, e, m, from, within)) (λ c a b. every_cell c (omega (arith, e, a)) (omega (arith, e, b, m, from)))

    pub each_row : (r : ℕ) → row ≤ r → r ≤ row + count → HasRun s test r 0 (s.width - 1)
    each_row r a b =
        let e : row + (r - row) ≡ r = omega (arith, a) in
        subst (λ k. HasRun s test k 0 (s.width - 1)) e (each_on (r - row) (omega (arith, a, b)))

    pub none_below : HasRun s test (row + count + 1) 0 (s.width - 1) → ⊥
    none_below has =
        let e : row_begin s (row + count) ≡ row_begin s row + count * s.width = rows_on s row count in
        let f : row_begin s (row + count + 1) ≡ row_begin s (row + count) + s.width = next_row s (row + count) in
        let from = w.from in
        let to = w.to in
        let below = has.run.below in
        let inside = row_end_inside s (row + count + 1) in
        let short : end < s.start + s.cells = omega (arith, e, f, from, to, below, inside, some) in
        never (test end) (has.run.all end (omega (arith, e, f, from)) (omega (arith, e, f, to, some))) (w.ended short)

  -- how many rows follow one that is whole
  pub are_whole : (row to end : ℕ) → HasRun s test row 0 (s.width - 1) → to ≡ row_end s row → to ≤ end → end ≤ s.start + s.cells → ((c : ℕ) → to ≤ c → c < end → test c ≡ true)
      → (end < s.start + s.cells → test end ≡ false) → AreWhole row end ((end - to) / s.width)
  are_whole row to end has is_to up within all ended =
      let e = whole_end row has in
      let d : (end - to) / s.width * s.width + (end - to) % s.width ≡ end - to = div-add-mod' (end - to) s.width in
      let m : (end - to) % s.width < s.width = mod_below (end - to) s.width some in
      record {
        first = has;
        within = within;
        all = λ c a b. all c (omega (arith, is_to, e, a)) b;
        ended = ended;
        from = omega (arith, is_to, e, d, up);
        to = omega (arith, is_to, e, d, m, up);
      }

  -- numbers of rows are no larger than numbers of cells
  pub row_number : (row count cells : ℕ) → row * s.width < cells → row + count / s.width ≤ cells + count
  row_number row count cells there =
      let a : row * 1 ≤ row * s.width = mul-le row 1 row s.width (omega arith) (omega (arith, some)) in
      let d : count / s.width * s.width + count % s.width ≡ count = div-add-mod' count s.width in
      let b : count / s.width * 1 ≤ count / s.width * s.width = mul-le (count / s.width) 1 (count / s.width) s.width (omega arith) (omega (arith, some)) in
      omega (arith, a, b, d, there)

  -- the whole rows behind a run that is one
  pub past_rest : (begin to end next : ℕ) → to ≤ end → end ≤ s.start + s.cells → ((c : ℕ) → to ≤ c → c < end → test c ≡ true) → s.width ≤ to - begin → next ≡ end - (end - to) % s.width
      → IsPastWhole s test begin to next
  past_rest begin to end next up within all long is_next =
      let d : (end - to) / s.width * s.width + (end - to) % s.width ≡ end - to = div-add-mod' (end - to) s.width in
      record {
        count = (end - to) / s.width;
        next_is = omega (arith, d, up, is_next);
        within = omega (arith, within, is_next);
        all = λ c a b. all c a (omega (arith, is_next, b));
        whole = λ h. absurd (omega (arith, h, long));
      }

  pub past_none : (begin to : ℕ) → to ≤ s.start + s.cells → IsPastWhole s test begin to to
  past_none begin to within = record { count = 0; next_is = omega arith; within = within; all = λ c a b. absurd (omega (arith, a, b)); whole = λ h. refl }

  -- a row begins no run of the row before it
  pub between_rows : (q : ℕ) → IsBetweenRuns s test (row_begin s q)
  between_rows q r above below =
      let v = row_end_within s r in
      elim (cases_order r q) [
        | inl same ↦ (let e : row_begin s r ≡ row_begin s q = ap (row_begin s) same in absurd (omega (arith, e, above)))
        | inr (inl h) ↦ (let m : r * s.width + s.width ≤ q * s.width = ends_before s.width r q h in absurd (omega (arith, m, v, below)))
        | inr (inr h) ↦ (let m : q * s.width + s.width ≤ r * s.width = ends_before s.width q r h in absurd (omega (arith, m, above)))
      ]

  -- The pieces go on

  module _ (number : ℕ) (own : List Piece) where
    -- a whole row behind a whole one
    one_row : (row : ℕ) → HasRun s test row 0 (s.width - 1) → HasRun s test (row + 1) 0 (s.width - 1) → ArePiecesTo s number test (row_begin s (row + 1)) own
        → ArePiecesTo s number test (row_begin s (row + 1) + s.width) own
    one_row row has next are =
        let begin : ℕ = row_begin s (row + 1) in
        let to : ℕ = row_begin s (row + 1) + s.width in
        let z : begin + 0 ≡ begin = omega arith in
        let l : begin + (s.width - 1) + 1 ≡ to = omega (arith, some) in
        let run : IsRun test begin (row_end s (row + 1)) begin to =
        subst (λ n. IsRun test begin (row_end s (row + 1)) begin n) l (subst (λ n. IsRun test begin (row_end s (row + 1)) n (begin + (s.width - 1) + 1)) z next.run) in
        let f : 0 ≡ begin - row_begin s (row + 1) = omega arith in
        let g : s.width - 1 ≡ to - 1 - row_begin s (row + 1) = omega (arith, some) in
        let goes : HasRun s test row (begin - row_begin s (row + 1)) (to - 1 - row_begin s (row + 1)) =
        subst (λ n. HasRun s test row (begin - row_begin s (row + 1)) n) g (subst (λ n. HasRun s test row n (s.width - 1)) f has) in
        let added : IsAdded s number test begin to own own = record { row = row + 1; there = next.there; run = run; added = inl (refl, (row, refl, goes)) } in
        let more = with_run s number test begin begin to [] own own own (omega arith) (omega arith) (λ c a b. absurd (omega (arith, a, b))) are refl added in
        subst (λ xs. ArePiecesTo s number test to xs) (sym more.2) more.1

    pub rows_added : (count row : ℕ) → HasRun s test row 0 (s.width - 1) → ArePiecesTo s number test (row_begin s row + s.width) own
        → row_begin s row + s.width + count * s.width ≤ s.start + s.cells
        → ((c : ℕ) → row_begin s row + s.width ≤ c → c < row_begin s row + s.width + count * s.width → test c ≡ true)
        → ArePiecesTo s number test (row_begin s row + s.width + count * s.width) own
    rows_added zero row has are fits all =
        let e : row_begin s row + s.width ≡ row_begin s row + s.width + zero * s.width = omega arith in
        subst (λ n. ArePiecesTo s number test n own) e are
    rows_added (suc n) row has are fits all =
        let m : suc n * s.width ≡ n * s.width + s.width = suc-mul n s.width in
        let e : row_begin s (row + 1) ≡ row_begin s row + s.width = next_row s row in
        let next : HasRun s test (row + 1) 0 (s.width - 1) =
        whole_row (row + 1) (omega (arith, m, e, fits)) (λ c a b. all c (omega (arith, e, a)) (omega (arith, m, e, b))) in
        let step : ArePiecesTo s number test (row_begin s (row + 1) + s.width) own = one_row row has next (subst (λ k. ArePiecesTo s number test k own) (sym e) are) in
        let last : row_begin s (row + 1) + s.width + n * s.width ≡ row_begin s row + s.width + suc n * s.width = omega (arith, m, e) in
        subst (λ k. ArePiecesTo s number test k own) last
        (rows_added n (row + 1) next step (omega (arith, m, e, fits)) (λ c a b. all c (omega (arith, e, a)) (omega (arith, m, e, b))))

    -- behind a run, and the whole rows that follow it

    module _ (begin to next : ℕ) (old new : List Piece) (added : IsAdded s number test begin to old new) (past : IsPastWhole s test begin to next) where
      no_rows : past.count ≡ 0 → next ≡ to
      no_rows e =
          let n = past.next_is in
          let z : past.count * s.width ≡ 0 * s.width = ap (λ k. k * s.width) e in
          omega (arith, n, z)

      -- the run is a whole row
      record IsRow : Type 0 where
        pub begins : begin ≡ row_begin s added.row
        pub ends : to ≡ row_begin s added.row + s.width
        pub has : HasRun s test added.row 0 (s.width - 1)

      is_row : s.width ≤ to - begin → IsRow
      is_row h =
          let run = added.run in
          let a = run.above in
          let b = run.below in
          let v = row_end_within s added.row in
          let begins : begin ≡ row_begin s added.row = omega (arith, h, a, b, v, some) in
          let ends : to ≡ row_begin s added.row + s.width = omega (arith, h, a, b, v, some) in
          let has : HasRun s test added.row (begin - row_begin s added.row) (to - 1 - row_begin s added.row) = has_columns s test added.row begin to added.there run in
          let f : begin - row_begin s added.row ≡ 0 = omega (arith, begins) in
          let l : to - 1 - row_begin s added.row ≡ s.width - 1 = omega (arith, ends, some) in
          record {
            begins = begins;
            ends = ends;
            has = subst (λ n. HasRun s test added.row 0 n) l (subst (λ n. HasRun s test added.row n (to - 1 - row_begin s added.row)) f has);
          }

      pub pieces_past : ArePiecesTo s number test to own → ArePiecesTo s number test next own
      pieces_past are = elim (cases_lt (to - begin) s.width) [
        | inl h ↦ subst (λ n. ArePiecesTo s number test n own) (sym (no_rows (past.whole h))) are
        | inr h ↦ (let r = is_row h in
            let e = r.ends in
            let n = past.next_is in
            let w = past.within in
            let goal : row_begin s added.row + s.width + past.count * s.width ≡ next = omega (arith, e, n) in
            subst (λ k. ArePiecesTo s number test k own) goal
            (rows_added past.count added.row r.has (subst (λ k. ArePiecesTo s number test k own) e are) (omega (arith, goal, w))
            (λ c a b. past.all c (omega (arith, e, a)) (omega (arith, goal, b)))))
      ]

      pub between_past : IsBetweenRuns s test next
      between_past = elim (cases_lt (to - begin) s.width) [
        | inl h ↦ subst (λ n. IsBetweenRuns s test n) (sym (no_rows (past.whole h))) (between_after s test added.row begin to added.run)
        | inr h ↦ (let r = is_row h in
            let e = r.ends in
            let n = past.next_is in
            let f : row_begin s (added.row + 1) ≡ row_begin s added.row + s.width = next_row s added.row in
            let g : row_begin s (added.row + 1 + past.count) ≡ row_begin s (added.row + 1) + past.count * s.width = rows_on s (added.row + 1) past.count in
            let goal : row_begin s (added.row + 1 + past.count) ≡ next = omega (arith, e, n, f, g) in
            subst (λ k. IsBetweenRuns s test k) goal (between_rows (added.row + 1 + past.count)))
      ]
