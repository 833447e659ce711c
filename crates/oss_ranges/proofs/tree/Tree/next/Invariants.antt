use Rattle.std.proofs.Common.{◌≡◌}
use Rattle.oss_ranges.specs.Cells.{next_of}
use Rattle.oss_ranges.specs.Trees.{or_found}
use Rattle.oss_ranges.proofs.tree.Tree.next.Given as goal

-- what is looked for stands in the tree that is left, or else it was found last
abbrev pub invariant-nodes : goal.invariant-nodes
invariant-nodes g l = or_found (next_of l.cell l.tree) l.found ≡ next_of l.cell l.self
