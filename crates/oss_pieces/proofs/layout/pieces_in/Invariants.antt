use Rattle.std.proofs.Common.{◌-◌, ◌≤◌, length}
use Rattle.oss_pieces.specs.CellSets.{has}
use Rattle.oss_pieces.proofs.LayoutLemmas.{AreLaidFrom, GoesOn}
use Rattle.oss_pieces.proofs.layout.pieces_in.Given as goal

-- the pieces of the globals so far are found
abbrev pub invariant-loop-number : goal.invariant-loop-number
invariant-loop-number l = (l.number ≤ length l.shapes) × AreLaidFrom l.shapes l.number × GoesOn (has l.set) l.shapes l.number l.found.items

abbrev pub decreases-loop-number : goal.decreases-loop-number
decreases-loop-number l = length l.shapes - l.number
