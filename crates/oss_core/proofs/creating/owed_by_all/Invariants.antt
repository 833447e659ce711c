use Rattle.std.proofs.Common.{◌≡◌, ℕ, take}
use Rattle.oss_ranges.specs.Cells.{value_at}
use Rattle.oss_deps.specs.Opens.{access_at}
use Rattle.oss_core.specs.Changes.{owed_by_access}
use Rattle.oss_core.proofs.creating.owed_by_all.Given as goal

-- the map tells of the accesses so far
abbrev pub invariant-loop-access : goal.invariant-loop-access
invariant-loop-access l = (c : ℕ) → value_at l.owed.pieces c ≡ owed_by_access (access_at (take l.access-index l.accesses) c)
