use Rattle.std.proofs.Common.{◌≡◌, drop}
use Rattle.oss_pieces.specs.Names.{cell_name}
use Rattle.oss_pieces.proofs.names.add_cell_name.Given as goal

-- the cell is one of the globals that are left
abbrev pub invariant-loop-item : goal.invariant-loop-item
invariant-loop-item l = (cell_name (drop l.item-index l.program.items) l.place ≡ cell_name l.program.items l.cell) × (l.text.items ≡ l.initial.text.items)
