use Rattle.std.proofs.Common.{◌≡◌, ◌++◌, drop}
use Rattle.std.specs.List.{flat_map}
use Rattle.oss_graph_text.specs.Edges.{edge_text}
use Rattle.oss_graph_text.proofs.edges.add_siblings.Given as goal

-- what is left goes behind what is written
abbrev pub invariant-loop-edge : goal.invariant-loop-edge
invariant-loop-edge l = l.text.items ++ flat_map (edge_text l.globals l.attribute l.task) (drop l.edge-index l.edges) ≡ l.initial.text.items ++ flat_map (edge_text l.globals l.attribute l.task) l.edges
