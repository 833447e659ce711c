use Rattle.std.proofs.Common.{◌≡◌, drop}
use Rattle.std.specs.Prelude.{nat_lt}
use Rattle.oss_graph_text.specs.Edges.{edge_count, has_many}
use Rattle.oss_graph_text.proofs.edges.are_many.Given as goal

-- of the nodes that are left there are too many edges exactly where there are of all
abbrev pub invariant-loop-node : goal.invariant-loop-node
invariant-loop-node l = nat_lt l.left (edge_count (drop l.node-index l.nodes)) ≡ has_many l.nodes
