use Rattle.std.proofs.Common.{◌≡◌, ◌≤◌, ◌-◌}
use Rattle.oss_ranges.proofs.MergeLemmas.{IsMergedTo}
use Rattle.oss_ranges.specs.Cells.{SameMap}
use Rattle.oss_ranges.specs.Stores.{kept_of}
use Rattle.oss_ranges.proofs.map.merge.Given as goal

-- the pieces up to `from` are joined, and no cell has changed its value
abbrev pub invariant-pieces : goal.invariant-pieces
invariant-pieces g l =
    SameMap (kept_of l.fn.store).pieces (kept_of l.store).pieces
    × IsMergedTo g.T.PartialEq.eq l.from (kept_of l.store).pieces
    × (l.from ≤ 1048576)
    × ((kept_of l.store).spares ≡ (kept_of l.fn.store).spares)

abbrev pub decreases-pieces : goal.decreases-pieces
decreases-pieces g l = 1048576 - l.from
