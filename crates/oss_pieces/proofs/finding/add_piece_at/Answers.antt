use Rattle.std.proofs.Common.{◌≡◌, ◌≤◌, ◌<◌, ℕ, ◌+◌, ◌-◌, false, inr, arith, subst}
use Rattle.oss_pieces.specs.CellSets.{has}
use Rattle.oss_pieces.specs.Rows.{Grid, HasRun, grid, IsRun, row_begin, row_end}
use Rattle.oss_pieces.proofs.RunLemmas.{begun_run}
use Rattle.oss_pieces.proofs.StepLemmas.{new_piece}
use Rattle.oss_pieces.proofs.finding.add_piece_at.Goals as goal
use Rattle.oss_pieces.proofs.finding.add_piece_at.Goals.{then-row-gt0, else-row-gt0}

pub returns-in_ok-push : goal.returns-in_ok-push
returns-in_ok-push c =
    let s : Grid = grid c.args.shape in
    let row : ℕ = c.row_of-row.result in
    let begin : ℕ = c.args.begin in
    let to : ℕ = c.run_end-to.result in
    let lo : row_begin s row ≤ begin = c.row_of-row.ensures.from in
    let hi : begin < row_begin s row + s.width = c.row_of-row.ensures.to in
    let begins : c.row-row_begin.result.0 ≡ row_begin s row = c.row-row_begin.ensures.begin in
    let ends : c.row-row_begin.result.1 ≡ row_end s row = c.row-row_begin.ensures.end in
    let below : to ≤ row_end s row = subst (λ (n : ℕ). to ≤ n) ends c.run_end-to.ensures.to in
    let ended : to < row_end s row → has c.args.set.now to ≡ false = subst (λ (n : ℕ). to < n → has c.args.set.now to ≡ false) ends c.run_end-to.ensures.ended in
    let run : IsRun (has c.args.set.now) (row_begin s row) (row_end s row) begin to =
    begun_run s (has c.args.set.now) row begin to lo hi c.requires.to c.requires.marked c.requires.first c.run_end-to.ensures.from below c.run_end-to.ensures.all ended in
    let here = c.row-row_begin.result.0 in
    let above : (r : ℕ) → r + 1 ≡ row → HasRun s (has c.args.set.now) r (begin - here) (to - 1 - here) → ⊥ = λ r e h. elim c.if-row-gt0.branch [
      | then-row-gt0 w ↦ (let before : r ≡ row - 1 = omega arith in
          w.has_run-goes_on.ensures.no (grind arith) (subst (λ (n : ℕ). HasRun s (has c.args.set.now) n (begin - here) (to - 1 - here)) before h))
      | else-row-gt0 w ↦ absurd (omega arith)
    ] in
    record {
      row = row;
      there = omega (arith, c.requires.to);
      run = run;
      added = inr (
        _,
        new_piece s c.args.number (has c.args.set.now) row c.last_row.result (begin - here) (to - 1 - here)
            c.last_row.ensures.from c.last_row.ensures.each above c.last_row.ensures.below,
        omega arith,
        c.in_ok-push.ensures.items,
      );
    }
