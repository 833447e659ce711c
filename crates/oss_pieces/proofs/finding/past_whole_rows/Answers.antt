use Rattle.std.proofs.Common.{◌≤◌, ◌+◌, ℕ, arith, refl}
use Rattle.oss_pieces.specs.CellSets.{has}
use Rattle.oss_pieces.specs.Rows.{Grid, grid}
use Rattle.oss_pieces.proofs.WholeRowLemmas.{past_rest}
use Rattle.oss_pieces.proofs.finding.past_whole_rows.Goals as goal

pub returns : goal.returns
returns c =
    let s : Grid = grid c.args.shape in
    let end : ℕ = c.run_end-end.result in
    let within : end ≤ s.start + s.cells = omega (arith, c.run_end-end.ensures.to, c.end.ensures) in
    past_rest s (has c.args.set.now) c.args.shape.some c.args.begin c.args.to end _ c.run_end-end.ensures.from within c.run_end-end.ensures.all c.if-to-begin.false refl
