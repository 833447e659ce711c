use Rattle.std.proofs.Common.{◌≡◌, ◌≤◌, ◌-◌}
use Rattle.oss_ranges.proofs.CopyLemmas.{front}
use Rattle.oss_ranges.specs.Stores.{kept_of}
use Rattle.oss_ranges.proofs.store.as_tree.Given as goal

-- the tree has the pieces up to `from`
abbrev pub invariant-pieces : goal.invariant-pieces
invariant-pieces g l = (l.tree.pieces ≡ front l.from (kept_of l.store).pieces) × (l.from ≤ 1048576)

abbrev pub decreases-pieces : goal.decreases-pieces
decreases-pieces g l = 1048576 - l.from
