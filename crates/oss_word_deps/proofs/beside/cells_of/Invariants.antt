use Rattle.std.proofs.Common.{◌≡◌, ◌≤◌, take}
use Rattle.oss_word_deps.specs.Booked.{cell_count}
use Rattle.oss_word_deps.proofs.beside.cells_of.Given as goal

-- the accesses so far are counted
abbrev pub invariant-loop-access : goal.invariant-loop-access
invariant-loop-access l = (l.count ≡ cell_count (take l.access-index l.accesses)) × (l.count ≤ 16777216)
