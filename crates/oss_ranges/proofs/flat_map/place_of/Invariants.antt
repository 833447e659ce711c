use Rattle.std.proofs.Common.{◌≡◌, ◌+◌, drop}
use Rattle.oss_ranges.specs.Places.{place}
use Rattle.oss_ranges.proofs.flat_map.place_of.Given as goal

-- the place is looked for among the pieces from `at` on
abbrev pub invariant-loop-at : goal.invariant-loop-at
invariant-loop-at g l = l.at + place l.cell (drop l.at l.pieces) ≡ place l.cell l.pieces
