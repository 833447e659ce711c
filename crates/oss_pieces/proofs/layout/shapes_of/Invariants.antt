use Rattle.std.proofs.Common.{◌≡◌, ◌≤◌, ◌+◌, ◌++◌, drop}
use Rattle.oss_grammar.specs.Layout.{cells_in}
use Rattle.oss_pieces.specs.Layouts.{grids, grids_from}
use Rattle.oss_pieces.proofs.layout.shapes_of.Given as goal

-- those of the items that are left go behind those so far
abbrev pub invariant-loop-item : goal.invariant-loop-item
invariant-loop-item l = (l.start + cells_in (drop l.item-index l.program.items) ≤ 1048576)
    × (grids l.shapes.items ++ grids_from (drop l.item-index l.program.items) l.start ≡ grids_from l.program.items 0)
