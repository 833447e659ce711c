use Rattle.std.proofs.Common.{◌≤◌, length}
use Rattle.oss_ranges.proofs.tree_map.stock.Given as goal

abbrev pub invariant-loop-count : goal.invariant-loop-count
invariant-loop-count g l = (length l.initial.spares.items ≤ length l.spares.items) × (l.count ≤ length l.spares.items)
