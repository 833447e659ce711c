use Rattle.std.proofs.Common.{◌≡◌, ◌+◌, ◌*◌, ◌<◌}
use Rattle.oss_grammar.specs.SectionCells.{cells_of_rows}
use Rattle.oss_sections.specs.RangeCells.{AreApart, LastIs, cells_of}
use Rattle.oss_sections.proofs.rows.parted_rows.Given as goal

-- the ranges have the cells of the rows so far, and end before the next row begins
abbrev pub invariant-loop-row : goal.invariant-loop-row
invariant-loop-row l = record {
  cells : cells_of l.found ≡ cells_of_rows l.columns l.size l.first l.row;
  apart : AreApart l.found;
  behind : LastIs (λ last. last.hi < l.first + l.row * l.columns) l.found;
}
