use Rattle.std.proofs.Common.{◌≤◌, ◌+◌, ◌-◌, ◌/◌, ℕ, arith}
use Rattle.oss_pieces.specs.CellSets.{has}
use Rattle.oss_pieces.specs.Rows.{Grid, grid}
use Rattle.oss_pieces.proofs.WholeRowLemmas.{are_whole, each_row}
use Rattle.oss_pieces.proofs.finding.last_whole_row.Goals as goal

pub returns-clause-each : goal.returns-clause-each
returns-clause-each c =
    let s : Grid = grid c.args.shape in
    let to : ℕ = c.row-to.result.1 in
    let end : ℕ = c.run_end-end.result in
    let within : end ≤ s.start + s.cells = omega (arith, c.run_end-end.ensures.to, c.end.ensures) in
    each_row s (has c.args.set.now) c.args.shape.some c.args.row end ((end - to) / s.width)
    (are_whole s (has c.args.set.now) c.args.shape.some c.args.row to end c.requires c.row-to.ensures.end c.run_end-end.ensures.from within c.run_end-end.ensures.all
    (λ h. c.run_end-end.ensures.ended (omega (arith, h, c.end.ensures))))
