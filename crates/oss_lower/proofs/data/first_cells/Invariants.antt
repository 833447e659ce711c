use Rattle.std.proofs.Common.{◌≡◌, ◌++◌, drop}
use Rattle.oss_meaning.specs.Results.{first_cells}
use Rattle.oss_lower.proofs.data.first_cells.Given as goal

-- the cells so far and those of the items left are all cells
abbrev pub invariant-loop-item : goal.invariant-loop-item
invariant-loop-item l = l.cells.items ++ first_cells (drop l.item-index l.items) ≡ first_cells l.items
