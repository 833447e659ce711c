-- One run more: the pieces that begin before its first cell become those that begin before its end.
use Rattle.std.proofs.Common.{◌≡◌, ◌≤◌, ◌<◌, ℕ, ◌+◌, ◌-◌, ◌*◌, Bool, true, false, List, [], ◌∷◌, ◌++◌, inl, inr, refl, sym, ◌∙◌, ap, subst, arith}
use Rattle.std.proofs.lemmas.Bool.{cases_lt}
use Rattle.std.proofs.lemmas.List.{append_assoc}
use Rattle.oss_model.specs.Order.{IsIn}
use Rattle.oss_model.proofs.SortLemmas.{in_append, in_last, in_left}
use Rattle.oss_pieces.specs.declared.piece.Piece.{Piece}
use Rattle.oss_pieces.specs.Rows.{Grid, HasRun, IsRun, row_begin, row_end}
use Rattle.oss_pieces.specs.Pieces.{ArePiecesTo, IsAdded, IsPiece, Rise, first_cell}
use Rattle.oss_pieces.specs.Pieces.Rise.{none, one_more}
use Rattle.oss_pieces.proofs.RunLemmas.{first_run, one_piece, row_end_within, run_once, same_row}

-- pieces that begin before a cell begin before a later one
pub rise_further : (s : Grid) (ps : List Piece) (a b : ℕ) → Rise s ps a → a ≤ b → Rise s ps b
rise_further s _ a b none h = none
rise_further s _ a b (one_more {ps} p r below) h = one_more p r (omega arith)

-- none begin before the first cell
pub no_pieces : (s : Grid) (number : ℕ) (test : ℕ → Bool) → ArePiecesTo s number test s.start []
no_pieces s number test = record {
  rise = none;
  each = λ p i. elim i [ ];
  every = λ p is below. (let run = (first_run s number test p is).run in let above : row_begin s p.rows.first ≤ first_cell s p = run.above in absurd (omega arith));
}

-- where the set has no cell, no piece begins
pub without_more : (s : Grid) (number : ℕ) (test : ℕ → Bool) (at to : ℕ) (own : List Piece) → ArePiecesTo s number test at own → at ≤ to
    → ((c : ℕ) → at ≤ c → c < to → test c ≡ false) → ArePiecesTo s number test to own
without_more s number test at to own are h gap = record {
  rise = rise_further s own at to are.rise h;
  each = are.each;
  every = λ p is below. elim (cases_lt (first_cell s p) at) [
    | inl early ↦ are.every p is early
    | inr late ↦ (let run = (first_run s number test p is).run in
        let yes : test (first_cell s p) ≡ true = run.all (first_cell s p) (omega arith) run.some in
        let no : test (first_cell s p) ≡ false = gap (first_cell s p) late below in absurd cc)
  ];
}

module _ (s : Grid) (number : ℕ) (test : ℕ → Bool) (at begin to : ℕ) where
  -- What is known of a piece that begins in a run: it begins with the run, in its row, and its first run is that run.
  record IsOfRun (row : ℕ) (q : Piece) : Type 0 where
    pub rows : q.rows.first ≡ row
    pub begins : first_cell s q ≡ begin
    pub first : q.columns.first ≡ begin - row_begin s row
    pub last : q.columns.last ≡ to - 1 - row_begin s row

  -- a piece that begins from this cell on and before the end of the run begins with the run
  of_run : (row : ℕ) (q : Piece) → row * s.width < s.cells → IsRun test (row_begin s row) (row_end s row) begin to
      → ((c : ℕ) → at ≤ c → c < begin → test c ≡ false) → IsPiece s number test q → at ≤ first_cell s q → first_cell s q < to → IsOfRun row q
  of_run row q there run gap is from below =
      let has = first_run s number test q is in
      let own = has.run in
      let some : first_cell s q < row_begin s q.rows.first + q.columns.last + 1 = own.some in
      let marked : test (first_cell s q) ≡ true = own.all (first_cell s q) (omega arith) some in
      let late : begin ≤ first_cell s q = elim (cases_lt (first_cell s q) begin) [
        | inl h ↦ (let no : test (first_cell s q) ≡ false = gap (first_cell s q) from h in absurd cc)
        | inr h ↦ h
      ] in
      let w : row_end s row ≤ row_begin s row + s.width = row_end_within s row in
      let v : row_end s q.rows.first ≤ row_begin s q.rows.first + s.width = row_end_within s q.rows.first in
      let lo : row_begin s q.rows.first ≤ first_cell s q = own.above in
      let hi : first_cell s q < row_begin s q.rows.first + s.width = omega (arith, own.below) in
      let low : row_begin s row ≤ first_cell s q = omega (arith, run.above) in
      let high : first_cell s q < row_begin s row + s.width = omega (arith, run.below) in
      let rows : q.rows.first ≡ row = same_row s.start s.width q.rows.first row (first_cell s q) lo hi low high in
      let starts : row_begin s q.rows.first ≡ row_begin s row = ap (row_begin s) rows in
      let begins : first_cell s q ≡ begin = elim (cases_lt begin (first_cell s q)) [
        | inl h ↦ (let after : row_begin s q.rows.first < first_cell s q = omega (arith, run.above) in
            let no : test (first_cell s q - 1) ≡ false = own.before after in
            let yes : test (first_cell s q - 1) ≡ true = run.all (first_cell s q - 1) (omega arith) (omega arith) in absurd cc)
        | inr h ↦ (let e : first_cell s q ≡ begin = omega arith in e)
      ] in
      let moved : IsRun test (row_begin s row) (row_end s row) begin (row_begin s q.rows.first + q.columns.last + 1) =
      subst (λ r. IsRun test (row_begin s r) (row_end s r) begin (row_begin s q.rows.first + q.columns.last + 1)) rows
      (subst (λ n. IsRun test (row_begin s q.rows.first) (row_end s q.rows.first) n (row_begin s q.rows.first + q.columns.last + 1)) begins own) in
      let ends : row_begin s q.rows.first + q.columns.last + 1 ≡ to = run_once test (row_begin s row) (row_end s row) begin _ _ moved run in
      let above : row_begin s row ≤ begin = run.above in
      record {
        rows = rows;
        begins = begins;
        first = omega arith;
        last = omega arith;
      }

  -- The pieces that begin before the end of the run: those before, and the one that begins with the run, if one does.
  pub with_run : (initial own old new : List Piece) → s.start ≤ at → at ≤ begin → ((c : ℕ) → at ≤ c → c < begin → test c ≡ false)
      → ArePiecesTo s number test at own → (old ≡ initial ++ own) → IsAdded s number test begin to old new
      → (more : List Piece) × ArePiecesTo s number test to more × (new ≡ initial ++ more)
  with_run initial own old new start h gap are is_old added =
      let run = added.run in
      let some : begin < to = run.some in
      elim added.added [
        | inl (same, (r, before, has)) ↦ (
          own,
          record {
            rise = rise_further s own at to are.rise (omega arith);
            each = are.each;
            every = λ q is below. elim (cases_lt (first_cell s q) at) [
              | inl early ↦ are.every q is early
              | inr late ↦ (let of = of_run added.row q added.there run gap is late below in
                  let there : HasRun s test r q.columns.first q.columns.last = subst (λ n. HasRun s test r n q.columns.last) (sym of.first)
                  (subst (λ n. HasRun s test r (begin - row_begin s added.row) n) (sym of.last) has) in
                  absurd (is.above r (before ∙ sym of.rows) there))
            ];
          },
          same ∙ is_old,
        )
        | inr (p, piece, begins, pushed) ↦ (
          own ++ p ∷ [],
          record {
            rise = one_more p (rise_further s own at (first_cell s p) are.rise (omega arith)) (omega arith);
            each = λ q i. elim (in_append own i) [
              | inl j ↦ are.each q j
              | inr e ↦ subst (λ x. IsPiece s number test x) (sym e) piece
            ];
            every = λ q is below. elim (cases_lt (first_cell s q) at) [
              | inl early ↦ in_left p own (are.every q is early)
              | inr late ↦ (let of = of_run added.row q added.there run gap is late below in
                  let e : q ≡ p = one_piece s number test q p is piece (of.begins ∙ sym begins) in
                  subst (λ x. IsIn x (own ++ p ∷ [])) (sym e) (in_last own))
            ];
          },
          pushed ∙ ap (λ xs. xs ++ p ∷ []) is_old ∙ append_assoc initial own (p ∷ []),
        )
      ]

-- A piece, by its rows.
pub new_piece : (s : Grid) (number : ℕ) (test : ℕ → Bool) (row last first_column last_column : ℕ) → row ≤ last
    → ((r : ℕ) → row ≤ r → r ≤ last → HasRun s test r first_column last_column)
    → ((r : ℕ) → r + 1 ≡ row → HasRun s test r first_column last_column → ⊥) → (HasRun s test (last + 1) first_column last_column → ⊥)
    → IsPiece s number test (record { global = number; rows = record { first = row; last = last }; columns = record { first = first_column; last = last_column } })
new_piece s number test row last first_column last_column ordered each above below =
    record { global = refl; ordered = ordered; each = each; above = above; below = below }
