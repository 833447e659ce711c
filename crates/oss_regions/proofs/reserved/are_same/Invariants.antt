use Rattle.std.proofs.Common.{◌≡◌, take}
use Rattle.oss_regions.proofs.reserved.are_same.Given as goal

-- the accesses so far are one
abbrev pub invariant-loop-at : goal.invariant-loop-at
invariant-loop-at l = take l.at l.left ≡ take l.at l.right
