use Rattle.std.proofs.Common.{◌≡◌, ◌++◌, drop}
use Rattle.std.specs.List.{flat_map}
use Rattle.oss_graph_text.specs.Edges.{edges_to}
use Rattle.oss_graph_text.proofs.edges.add_all_edges.Given as goal

-- what is left goes behind what is written
abbrev pub invariant-loop-node : goal.invariant-loop-node
invariant-loop-node l = l.text.items ++ flat_map (edges_to l.globals l.attribute) (drop l.node-index l.nodes) ≡ l.initial.text.items ++ flat_map (edges_to l.globals l.attribute) l.nodes
