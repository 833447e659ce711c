-- Where a set has no piece in the globals, none of their cells is in it.
use Rattle.std.proofs.Common.{◌≡◌, ◌≤◌, ◌<◌, ◌⊎◌, inl, inr, ℕ, zero, suc, ◌+◌, ◌-◌, ◌*◌, Bool, true, false, List, [], ◌∷◌, ◌++◌, Option, Some, None, refl, ◌∙◌, ap, subst, arith}
use Rattle.std.proofs.Math.Nat.{min-le_right, suc-mul}
use Rattle.oss_syntax.specs.declared.tree.program.Item.{Item}
use Rattle.oss_syntax.specs.declared.tree.program.Item.TheVariants as items
use Rattle.oss_grammar.specs.Layout.{cells_of}
use Rattle.oss_model.specs.Order.IsIn.{here}
use Rattle.oss_model.specs.Order.{IsIn}
use Rattle.oss_pieces.specs.declared.piece.Piece.{Piece}
use Rattle.oss_pieces.specs.Pieces.{ArePieces, ArePiecesTo, IsPiece, first_cell}
use Rattle.oss_pieces.specs.Pieces.ArePieces.{none, of_function, of_global}
use Rattle.oss_pieces.specs.Rows.{Grid, HasRun, IsRun, grid_of, row_begin, row_end, width_in}

less_or : (a b : ℕ) → (a < b) ⊎ (b ≤ a)
less_or a b = grind arith

-- a run of a row, by its columns
has_columns : (s : Grid) (test : ℕ → Bool) (row begin to : ℕ) → row * s.width < s.cells → IsRun test (row_begin s row) (row_end s row) begin to
    → HasRun s test row (begin - row_begin s row) (to - 1 - row_begin s row)
has_columns s test row begin to there run =
    let above : row_begin s row ≤ begin = run.above in
    let some : begin < to = run.some in
    let e : begin ≡ row_begin s row + (begin - row_begin s row) = omega (arith, above) in
    let f : to ≡ row_begin s row + (to - 1 - row_begin s row) + 1 = omega (arith, above, some) in
    record {
      there = there;
      run = subst (λ (n : ℕ). IsRun test (row_begin s row) (row_end s row) (row_begin s row + (begin - row_begin s row)) n) f
          (subst (λ (n : ℕ). IsRun test (row_begin s row) (row_end s row) n to) e run);
    }

-- the row of a cell
record IsRowOf (w d : ℕ) : Type 0 where
  row : ℕ
  above : row * w ≤ d
  below : d < row * w + w

row_of : (w d : ℕ) → 0 < w → IsRowOf w d
row_of w zero h = record { row = 0; above = omega arith; below = omega (arith, h) }
row_of w (suc d) h = go (row_of w d h)
  where
    go : IsRowOf w d → IsRowOf w (suc d)
    go r = by (less_or (suc d) (r.row * w + w))
      where
        by : (suc d < r.row * w + w) ⊎ (r.row * w + w ≤ suc d) → IsRowOf w (suc d)
        by (inl l) = let a : r.row * w ≤ d = r.above in record { row = r.row; above = omega (arith, a); below = l }
        by (inr l) =
            let e : suc r.row * w ≡ r.row * w + w = suc-mul r.row w in
            let b : d < r.row * w + w = r.below in
            record { row = suc r.row; above = omega (arith, e, l); below = omega (arith, e, b, h) }

-- a row has no number past its first cell
row_small : (w r : ℕ) → 0 < w → r ≤ r * w
row_small w zero h = omega arith
row_small w (suc r) h =
    let e : suc r * w ≡ r * w + w = suc-mul r w in
    let k : r ≤ r * w = row_small w r h in
    omega (arith, e, k, h)

-- so many cells of the globals of these items, the first of which begins here
abbrev pub cells_from : List Item → ℕ
cells_from [] = 0
cells_from (items.Global g ∷ rest) = cells_of g.cells + cells_from rest
cells_from (items.Function f ∷ rest) = cells_from rest

module _ (test : ℕ → Bool) where
  -- where the cells of the set that stand right before this one in the row begin
  record BeginsAt (lo c : ℕ) : Type 0 where
    from : ℕ
    above : lo ≤ from
    below : from ≤ c
    all : (d : ℕ) → from ≤ d → d ≤ c → test d ≡ true
    before : lo < from → test (from - 1) ≡ false

  begins_at : (lo k c : ℕ) → lo + k ≡ c → test c ≡ true → BeginsAt lo c
  begins_at lo zero c e h = record { from = c; above = omega (arith, e); below = omega arith; all = alone; before = λ k. absurd (omega (arith, e, k)) }
    where
      alone : (d : ℕ) → c ≤ d → d ≤ c → test d ≡ true
      alone d a b = let i : d ≡ c = omega (arith, a, b) in ap test i ∙ h
  begins_at lo (suc k) c e h = go (begins_at lo k (c - 1) (omega (arith, e))) (test (c - 1)) refl
    where
      alone : (d : ℕ) → c ≤ d → d ≤ c → test d ≡ true
      alone d a b = let i : d ≡ c = omega (arith, a, b) in ap test i ∙ h

      by : (r : BeginsAt lo (c - 1)) (d : ℕ) → r.from ≤ d → d ≤ c → (d < c) ⊎ (c ≤ d) → test d ≡ true
      by r d l m (inl k) = r.all d l (omega (arith, k))
      by r d l m (inr k) = alone d k m

      go : (test (c - 1) ≡ true → BeginsAt lo (c - 1)) → (b : Bool) → test (c - 1) ≡ b → BeginsAt lo c
      go rec false f = record { from = c; above = omega (arith, e); below = omega arith; all = alone; before = λ l. f }
      go rec true f =
          let r = rec f in
          let b : r.from ≤ c - 1 = r.below in
          record { from = r.from; above = r.above; below = omega (arith, b); all = λ d l m. by r d l m (less_or d c); before = r.before }

  -- where those right behind it end
  record EndsAt (hi c : ℕ) : Type 0 where
    to : ℕ
    above : c < to
    below : to ≤ hi
    all : (d : ℕ) → c ≤ d → d < to → test d ≡ true
    after : to < hi → test to ≡ false

  ends_at : (hi n c : ℕ) → c + 1 + n ≡ hi → test c ≡ true → EndsAt hi c
  ends_at hi zero c e h = record { to = c + 1; above = omega arith; below = omega (arith, e); all = alone; after = λ l. absurd (omega (arith, e, l)) }
    where
      alone : (d : ℕ) → c ≤ d → d < c + 1 → test d ≡ true
      alone d a b = let i : d ≡ c = omega (arith, a, b) in ap test i ∙ h
  ends_at hi (suc n) c e h = go (ends_at hi n (c + 1) (omega (arith, e))) (test (c + 1)) refl
    where
      alone : (d : ℕ) → c ≤ d → d < c + 1 → test d ≡ true
      alone d a b = let i : d ≡ c = omega (arith, a, b) in ap test i ∙ h

      by : (r : EndsAt hi (c + 1)) (d : ℕ) → c ≤ d → d < r.to → (d < c + 1) ⊎ (c + 1 ≤ d) → test d ≡ true
      by r d l m (inl k) = alone d l k
      by r d l m (inr k) = r.all d k m

      go : (test (c + 1) ≡ true → EndsAt hi (c + 1)) → (b : Bool) → test (c + 1) ≡ b → EndsAt hi c
      go rec false f = record { to = c + 1; above = omega arith; below = omega (arith, e); all = alone; after = λ l. f }
      go rec true f =
          let r = rec f in
          let a : c + 1 < r.to = r.above in
          record { to = r.to; above = omega (arith, a); below = r.below; all = λ d l m. by r d l m (less_or d (c + 1)); after = r.after }

  -- a cell of the set lies in a run of its row
  record IsInRun (s : Grid) (c : ℕ) : Type 0 where
    row : ℕ
    first : ℕ
    last : ℕ
    has : HasRun s test row first last

  joined : (lo hi c : ℕ) (f : BeginsAt lo c) (t : EndsAt hi c) (d : ℕ) → f.from ≤ d → d < t.to → (d < c) ⊎ (c ≤ d) → test d ≡ true
  joined lo hi c f t d l m (inl k) = f.all d l (omega (arith, k))
  joined lo hi c f t d l m (inr k) = t.all d k m

  in_run : (s : Grid) (c : ℕ) → 0 < s.width → s.start ≤ c → c < s.start + s.cells → test c ≡ true → IsInRun s c
  in_run s c w lo hi h =
      let r = row_of s.width (c - s.start) w in
      let a : r.row * s.width ≤ c - s.start = r.above in
      let b : c - s.start < r.row * s.width + s.width = r.below in
      let begin : row_begin s r.row ≤ c = omega (arith, a, lo) in
      let short : c < row_begin s r.row + s.width = omega (arith, b, lo) in
      let end : c < row_end s r.row = grind (arith, short, hi) in
      let f = begins_at (row_begin s r.row) (c - row_begin s r.row) c (omega (arith, begin)) h in
      let t = ends_at (row_end s r.row) (row_end s r.row - c - 1) c (omega (arith, end)) h in
      let from_c : f.from ≤ c = f.below in
      let c_to : c < t.to = t.above in
      let run : IsRun test (row_begin s r.row) (row_end s r.row) f.from t.to = record {
        some = omega (arith, from_c, c_to);
        above = f.above;
        below = t.below;
        all = λ d l m. joined (row_begin s r.row) (row_end s r.row) c f t d l m (less_or d c);
        before = f.before;
        after = t.after;
      } in
      record { row = r.row; first = f.from - row_begin s r.row; last = t.to - 1 - row_begin s r.row; has = has_columns s test r.row f.from t.to (omega (arith, a, lo, hi)) run }

  -- Where no piece is, there is no run.
  module _ (s : Grid) (number : ℕ) (w : 0 < s.width) (empty : (p : Piece) → IsPiece s number test p → first_cell s p < s.start + s.cells → ⊥) (first last : ℕ) where
    begins_inside : (r : ℕ) → HasRun s test r first last → row_begin s r + first < s.start + s.cells
    begins_inside r h =
        let a : row_begin s r + first < row_begin s r + last + 1 = h.run.some in
        let b : row_begin s r + last + 1 ≤ row_end s r = h.run.below in
        let c : row_end s r ≤ s.start + s.cells = min-le_right (row_begin s r + s.width) (s.start + s.cells) in
        omega (arith, a, b, c)

    more_each : (low r : ℕ) → ((q : ℕ) → low ≤ q → q ≤ r → HasRun s test q first last) → HasRun s test (r + 1) first last → (q : ℕ) → low ≤ q → q ≤ r + 1 → HasRun s test q first last
    more_each low r each h q l m = by (less_or r q)
      where
        by : (r < q) ⊎ (q ≤ r) → HasRun s test q first last
        by (inl k) = let e : r + 1 ≡ q = omega (arith, k, m) in subst (λ (x : ℕ). HasRun s test x first last) e h
        by (inr k) = each q l k

    -- the rows below that have the run are of the same piece
    down : (n low r : ℕ) → s.cells ≤ r + n → low ≤ r → ((q : ℕ) → low ≤ q → q ≤ r → HasRun s test q first last) → ((q : ℕ) → q + 1 ≡ low → HasRun s test q first last → ⊥) → ⊥
    down zero low r few l each above =
        let a : r * s.width < s.cells = (each r l (omega arith)).there in
        let b : r ≤ r * s.width = row_small s.width r w in
        absurd (omega (arith, few, a, b))
    down (suc n) low r few l each above =
        empty (record { global = number; rows = record { first = low; last = r }; columns = record { first = first; last = last } })
        (record { global = refl; ordered = l; each = each; above = above; below = λ h. down n low (r + 1) (omega (arith, few)) (omega (arith, l)) (more_each low r each h) above })
        (begins_inside low (each low (omega arith) l))

    less_each : (low r : ℕ) → ((q : ℕ) → low + 1 ≤ q → q ≤ r → HasRun s test q first last) → HasRun s test low first last → (q : ℕ) → low ≤ q → q ≤ r → HasRun s test q first last
    less_each low r each h q l m = by (less_or low q)
      where
        by : (low < q) ⊎ (q ≤ low) → HasRun s test q first last
        by (inl k) = each q (omega (arith, k)) m
        by (inr k) = let e : low ≡ q = omega (arith, k, l) in subst (λ (x : ℕ). HasRun s test x first last) e h

    above_is : (low q : ℕ) → q + 1 ≡ suc low → q ≡ low
    above_is low q e = omega (arith, e)

    -- and so are those above
    up : (low r : ℕ) → low ≤ r → ((q : ℕ) → low ≤ q → q ≤ r → HasRun s test q first last) → ⊥
    up zero r l each = down s.cells 0 r (omega arith) l each (λ q e h. absurd (omega (arith, e)))
    up (suc low) r l each =
        down s.cells (suc low) r (omega arith) l each
        (λ q e h. up low r (omega (arith, l)) (less_each low r (λ x a b. each x (omega (arith, a)) b) (subst (λ (x : ℕ). HasRun s test x first last) (above_is low q e) h)))

  pub nothing_in : (s : Grid) (number : ℕ) → 0 < s.width → ArePiecesTo s number test (s.start + s.cells) [] → (c : ℕ) → s.start ≤ c → c < s.start + s.cells → test c ≡ false
  nothing_in s number w none_here c lo hi = go (test c) refl
    where
      empty : (p : Piece) → IsPiece s number test p → first_cell s p < s.start + s.cells → ⊥
      empty p is below = elim (none_here.every p is below) [ ]

      row_is : (r q : ℕ) → r ≤ q → q ≤ r → r ≡ q
      row_is r q l m = omega (arith, l, m)

      go : (b : Bool) → test c ≡ b → test c ≡ false
      go false e = e
      go true e =
          let r = in_run s c w lo hi e in
          absurd (up s number w empty r.first r.last r.row r.row (omega arith) (λ q l m. subst (λ (x : ℕ). HasRun s test x r.first r.last) (row_is r.row q l m) r.has))

  wide_by : (columns : Option ℕ) (cells : ℕ) → 0 < width_in columns cells
  wide_by None cells = grind arith
  wide_by (Some n) cells = grind arith

  none_left : (xs ys : List Piece) → xs ++ ys ≡ [] → (xs ≡ []) × (ys ≡ [])
  none_left [] ys e = (refl, e)
  none_left (x ∷ xs) ys e = absurd cc

  pub no_cell_of : (all : List Item) (number start : ℕ) (ps : List Piece) → ps ≡ [] → ArePieces test all number start ps → (c : ℕ) → start ≤ c → c < start + cells_from all → test c ≡ false
  no_cell_of [] number start ps e h c lo hi = absurd (omega (arith, lo, hi))
  no_cell_of (items.Global g ∷ rest) number start _ e (of_global {own = own} {others = others} are more) c lo hi =
      by (λ l. no_cell_of rest (number + 1) (start + cells_of g.cells) others (none_left own others e).1 more c l (omega (arith, hi))) (less_or c (start + cells_of g.cells))
    where
      parts : (own ≡ []) × (others ≡ [])
      parts = none_left own others e

      by : (start + cells_of g.cells ≤ c → test c ≡ false) → (c < start + cells_of g.cells) ⊎ (start + cells_of g.cells ≤ c) → test c ≡ false
      by later (inl l) = nothing_in (grid_of g start) number (wide_by g.columns (cells_of g.cells)) (subst (λ (ps : List Piece). ArePiecesTo (grid_of g start) number test (start + cells_of g.cells) ps) parts.0 are) c lo l
      by later (inr l) = later l
  no_cell_of (items.Function f ∷ rest) number start ps e (of_function h) c lo hi = no_cell_of rest number start ps e h c lo hi

  -- And where no cell is in the set, it has no piece.
  not_a_piece : (s : Grid) (number : ℕ) (p : Piece) → ((c : ℕ) → test c ≡ false) → IsPiece s number test p → ⊥
  not_a_piece s number p h is =
      let run = (is.each p.rows.first (omega arith) is.ordered).run in
      let some : row_begin s p.rows.first + p.columns.first < row_begin s p.rows.first + p.columns.last + 1 = run.some in
      let yes : test (row_begin s p.rows.first + p.columns.first) ≡ true = run.all (row_begin s p.rows.first + p.columns.first) (omega arith) some in
      let no_ : test (row_begin s p.rows.first + p.columns.first) ≡ false = h (row_begin s p.rows.first + p.columns.first) in
      absurd cc

  none_of : (s : Grid) (number : ℕ) (ps : List Piece) → ((c : ℕ) → test c ≡ false) → ((p : Piece) → IsIn p ps → IsPiece s number test p) → ps ≡ []
  none_of s number [] h each = refl
  none_of s number (p ∷ ps) h each = absurd (not_a_piece s number p h (each p here))

  pub no_piece_of : (all : List Item) (number start : ℕ) (ps : List Piece) → ((c : ℕ) → test c ≡ false) → ArePieces test all number start ps → ps ≡ []
  no_piece_of [] number start _ h none = refl
  no_piece_of (items.Global g ∷ rest) number start _ h (of_global {own = own} {others = others} are more) =
      ap (λ (ps : List Piece). ps ++ others) (none_of (grid_of g start) number own h are.each) ∙ no_piece_of rest (number + 1) (start + cells_of g.cells) others h more
  no_piece_of (items.Function f ∷ rest) number start ps h (of_function k) = no_piece_of rest number start ps h k
