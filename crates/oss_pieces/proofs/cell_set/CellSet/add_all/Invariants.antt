use Rattle.std.proofs.Common.{◌≤◌, ◌-◌}
use Rattle.oss_pieces.specs.CellSets.{IsAddedTo}
use Rattle.oss_pieces.proofs.cell_set.CellSet.add_all.Given as goal

-- the cells before this one are added
abbrev pub invariant-runs : goal.invariant-runs
invariant-runs l = (l.from ≤ 1048576) × IsAddedTo l.from l.fn.self l.other l.self

abbrev pub decreases-runs : goal.decreases-runs
decreases-runs l = 1048576 - l.from
