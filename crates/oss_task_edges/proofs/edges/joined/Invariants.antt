use Rattle.std.proofs.Common.{◌-◌, ◌≡◌, ◌≤◌, List, length}
use Rattle.oss_syntax.specs.declared.tree.program.Item.{Item}
use Rattle.oss_pieces.specs.Layouts.{grids_from}
use Rattle.oss_task_edges.proofs.JoinLemmas.{AreEdgesTo}
use Rattle.oss_task_edges.proofs.edges.joined.Given as goal

-- the edges of the parts so far
abbrev pub invariant-loop-at : goal.invariant-loop-at
invariant-loop-at l = (l.at ≤ length l.parts) × ((items : List Item) → l.layout ≡ grids_from items 0 → AreEdgesTo items l.parts l.at l.edges)

abbrev pub decreases-loop-at : goal.decreases-loop-at
decreases-loop-at l = length l.parts - l.at
