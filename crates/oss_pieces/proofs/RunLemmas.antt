-- Runs in rows: each cell has one row, a run has one end, and a piece is told by its first cell.
use Rattle.std.proofs.Common.{◌≡◌, ◌≤◌, ◌<◌, ℕ, ◌+◌, ◌-◌, ◌*◌, Bool, true, false, inl, inr, sym, ◌∙◌, ap, subst, arith, suc}
use Rattle.std.proofs.Math.Nat.{mul-le-mul_right, suc-mul, min-le_left, min-le_right}
use Rattle.std.proofs.lemmas.Bool.{cases_order}
use Rattle.oss_pieces.specs.declared.piece.Piece.{Piece}
use Rattle.oss_pieces.specs.declared.piece.Span.{Span}
use Rattle.oss_pieces.specs.Rows.{Grid, HasRun, IsRun, row_begin, row_end}
use Rattle.oss_pieces.specs.Pieces.{IsBetweenRuns, IsPiece, first_cell}

-- a row ends before a later one begins
pub ends_before : (w r q : ℕ) → r < q → r * w + w ≤ q * w
ends_before w r q h =
    let e : suc r * w ≡ r * w + w = suc-mul r w in
    let k : suc r ≤ q = omega arith in
    let m : suc r * w ≤ q * w = mul-le-mul_right w k in
    subst (λ n. n ≤ q * w) e m

-- a cell has one row
pub same_row : (start w r q c : ℕ) → start + r * w ≤ c → c < start + r * w + w → start + q * w ≤ c → c < start + q * w + w → r ≡ q
same_row start w r q c a b d e = elim (cases_order r q) [
  | inl same ↦ same
  | inr (inl h) ↦ (let m : r * w + w ≤ q * w = ends_before w r q h in absurd (omega arith))
  | inr (inr h) ↦ (let m : q * w + w ≤ r * w = ends_before w q r h in absurd (omega arith))
]

-- a row has no more cells than the width says
pub row_end_within : (s : Grid) (r : ℕ) → row_end s r ≤ row_begin s r + s.width
row_end_within s r = min-le_left (row_begin s r + s.width) (s.start + s.cells)

-- a run has one end
pub run_once : (test : ℕ → Bool) (lo hi from to other : ℕ) → IsRun test lo hi from to → IsRun test lo hi from other → to ≡ other
run_once test lo hi from to other a b = elim (cases_order to other) [
  | inl same ↦ same
  | inr (inl h) ↦ (let ends : to < hi = omega (arith, b.below) in let no : test to ≡ false = a.after ends in
      let within : from ≤ to = omega (arith, a.some) in let yes : test to ≡ true = b.all to within h in absurd cc)
  | inr (inr h) ↦ (let ends : other < hi = omega (arith, a.below) in let no : test other ≡ false = b.after ends in
      let within : from ≤ other = omega (arith, b.some) in let yes : test other ≡ true = a.all other within h in absurd cc)
]

-- no run goes on over the end of a run
pub between_after : (s : Grid) (test : ℕ → Bool) (row from to : ℕ) → IsRun test (row_begin s row) (row_end s row) from to → IsBetweenRuns s test to
between_after s test row from to run r above below =
    let w : row_end s row ≤ row_begin s row + s.width = row_end_within s row in
    let v : row_end s r ≤ row_begin s r + s.width = row_end_within s r in
    let some : from < to = run.some in
    let lo : row_begin s row ≤ from = run.above in
    let hi : to ≤ row_end s row = run.below in
    elim (cases_order row r) [
      | inl same ↦ (let there : to < row_end s row = subst (λ q. to < row_end s q) (sym same) below in run.after there)
      | inr (inl h) ↦ (let m : row * s.width + s.width ≤ r * s.width = ends_before s.width row r h in absurd (omega arith))
      | inr (inr h) ↦ (let m : r * s.width + s.width ≤ row * s.width = ends_before s.width r row h in absurd (omega arith))
    ]

-- the first cell of a global has no cell before it
pub between_at_start : (s : Grid) (test : ℕ → Bool) → IsBetweenRuns s test s.start
between_at_start s test r above below = absurd (omega arith)

-- two spans with the same ends are one
span_eq : (s t : Span) → s.first ≡ t.first → s.last ≡ t.last → s ≡ t
span_eq s t a b =
    let from : ℕ → Span = λ n. record { first = n; last = s.last } in
    let to : ℕ → Span = λ n. record { first = t.first; last = n } in
    ap from a ∙ ap to b

-- two pieces with the same fields are one
pub piece_eq : (p q : Piece) → p.global ≡ q.global → p.rows.first ≡ q.rows.first → p.rows.last ≡ q.rows.last
    → p.columns.first ≡ q.columns.first → p.columns.last ≡ q.columns.last → p ≡ q
piece_eq p q a b c d e =
    let of_number : ℕ → Piece = λ n. record { global = n; rows = p.rows; columns = p.columns } in
    let of_rows : Span → Piece = λ s. record { global = q.global; rows = s; columns = p.columns } in
    let of_columns : Span → Piece = λ s. record { global = q.global; rows = q.rows; columns = s } in
    ap of_number a ∙ ap of_rows (span_eq p.rows q.rows b c) ∙ ap of_columns (span_eq p.columns q.columns d e)

-- the row of the first cell of a piece, and the cells of its first run
pub first_run : (s : Grid) (number : ℕ) (test : ℕ → Bool) (p : Piece) → IsPiece s number test p → HasRun s test p.rows.first p.columns.first p.columns.last
first_run s number test p is = is.each p.rows.first (omega arith) is.ordered

-- a piece is told by its first cell
pub one_piece : (s : Grid) (number : ℕ) (test : ℕ → Bool) (p q : Piece) → IsPiece s number test p → IsPiece s number test q → first_cell s p ≡ first_cell s q → p ≡ q
one_piece s number test p q a b same =
    let rp = (first_run s number test p a).run in
    let rq = (first_run s number test q b).run in
    let wp : row_end s p.rows.first ≤ row_begin s p.rows.first + s.width = row_end_within s p.rows.first in
    let wq : row_end s q.rows.first ≤ row_begin s q.rows.first + s.width = row_end_within s q.rows.first in
    let lp : row_begin s p.rows.first ≤ first_cell s p = rp.above in
    let lq : row_begin s q.rows.first ≤ first_cell s q = rq.above in
    let bp : first_cell s p < row_begin s p.rows.first + s.width = omega (arith, rp.some, rp.below) in
    let bq : first_cell s q < row_begin s q.rows.first + s.width = omega (arith, rq.some, rq.below) in
    let rows : p.rows.first ≡ q.rows.first = same_row s.start s.width p.rows.first q.rows.first (first_cell s p) lp bp (omega arith) (omega arith) in
    let begins : row_begin s p.rows.first ≡ row_begin s q.rows.first = ap (row_begin s) rows in
    let columns : p.columns.first ≡ q.columns.first = omega arith in
    let moved : IsRun test (row_begin s q.rows.first) (row_end s q.rows.first) (row_begin s q.rows.first + q.columns.first) (row_begin s p.rows.first + p.columns.last + 1) =
    subst (λ r. IsRun test (row_begin s r) (row_end s r) (row_begin s q.rows.first + q.columns.first) (row_begin s p.rows.first + p.columns.last + 1)) rows
    (subst (λ n. IsRun test (row_begin s p.rows.first) (row_end s p.rows.first) n (row_begin s p.rows.first + p.columns.last + 1)) same rp) in
    let ends : row_begin s p.rows.first + p.columns.last + 1 ≡ row_begin s q.rows.first + q.columns.last + 1 =
    run_once test (row_begin s q.rows.first) (row_end s q.rows.first) (row_begin s q.rows.first + q.columns.first) _ _ moved rq in
    let lasts : p.columns.last ≡ q.columns.last = omega arith in
    let more : (a b : Piece) → IsPiece s number test a → IsPiece s number test b → a.rows.first ≡ b.rows.first → a.columns.first ≡ b.columns.first
    → a.columns.last ≡ b.columns.last → a.rows.last < b.rows.last → ⊥ = λ a b ia ib r f l h.
    (let o : a.rows.first ≤ a.rows.last = ia.ordered in
    let there : HasRun s test (a.rows.last + 1) b.columns.first b.columns.last = ib.each (a.rows.last + 1) (omega arith) (omega arith) in
    let here : HasRun s test (a.rows.last + 1) a.columns.first a.columns.last = subst (λ n. HasRun s test (a.rows.last + 1) n a.columns.last) (sym f) (subst (λ n. HasRun s test (a.rows.last + 1) b.columns.first n) (sym l) there) in
    ia.below here) in
    let bottoms : p.rows.last ≡ q.rows.last = elim (cases_order p.rows.last q.rows.last) [
      | inl e ↦ e
      | inr (inl h) ↦ absurd (more p q a b rows columns lasts h)
      | inr (inr h) ↦ absurd (more q p b a (sym rows) (sym columns) (sym lasts) h)
    ] in
    piece_eq p q (a.global ∙ sym b.global) rows bottoms columns lasts

-- The run that begins at a cell of the set which has no cell of the set before it in its row, and ends where the set ends or the row does.
pub begun_run : (s : Grid) (test : ℕ → Bool) (row begin to : ℕ) → row_begin s row ≤ begin → begin < row_begin s row + s.width → begin < s.start + s.cells
    → test begin ≡ true → ((r : ℕ) → row_begin s r < begin → begin < row_end s r → test (begin - 1) ≡ false) → begin ≤ to → to ≤ row_end s row
    → ((c : ℕ) → begin ≤ c → c < to → test c ≡ true) → (to < row_end s row → test to ≡ false) → IsRun test (row_begin s row) (row_end s row) begin to
begun_run s test row begin to above within there marked first from below all ended =
    let inside : begin < row_end s row = grind arith in
    let some : begin < to = elim (cases_order begin to) [
      | inl same ↦ (let short : to < row_end s row = subst (λ n. n < row_end s row) same inside in
          let no : test to ≡ false = ended short in
          let yes : test to ≡ true = subst (λ n. test n ≡ true) same marked in absurd cc)
      | inr (inl h) ↦ h
      | inr (inr h) ↦ absurd (omega arith)
    ] in
    record { some = some; above = above; below = below; all = all; before = λ h. first row h inside; after = ended }

-- A run of a row, by its columns.
pub has_columns : (s : Grid) (test : ℕ → Bool) (row begin to : ℕ) → row * s.width < s.cells → IsRun test (row_begin s row) (row_end s row) begin to
    → HasRun s test row (begin - row_begin s row) (to - 1 - row_begin s row)
has_columns s test row begin to there run =
    let above : row_begin s row ≤ begin = run.above in
    let some : begin < to = run.some in
    let e : begin ≡ row_begin s row + (begin - row_begin s row) = omega arith in
    let f : to ≡ row_begin s row + (to - 1 - row_begin s row) + 1 = omega arith in
    record {
      there = there;
      run = subst (λ n. IsRun test (row_begin s row) (row_end s row) (row_begin s row + (begin - row_begin s row)) n) f
          (subst (λ n. IsRun test (row_begin s row) (row_end s row) n to) e run);
    }

-- a row ends within its global
pub row_end_inside : (s : Grid) (r : ℕ) → row_end s r ≤ s.start + s.cells
row_end_inside s r = min-le_right (row_begin s r + s.width) (s.start + s.cells)
