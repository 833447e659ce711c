-- The text of a graph, for Graphviz: the nodes in their boxes, the edges, and the fault of main, if it stands there.
-- Read against: `task out(x) x = 5; task in(x) out(y) y = x + 1;` on the lines 3 to 6 of main has, behind the three lines of the head, `  "0.0" [label="0.0\nline 3"];`, `  "0.1" [label="0.1\nline 5"];`, `  "0.0" -> "0.1" [label="x"];` and `}`. If main prints y
-- behind them, on line 7, the lines `  label="main\nLent at line 7";` and `  fontcolor=red;` stand before the last one.
use Rattle.std.specs.Prelude.{◌≡◌, ℕ, if◌then◌else◌, List, [], ◌++◌, Option, Some, None, codes}
use Rattle.oss_syntax.specs.declared.tree.program.Item.{Item}
use Rattle.oss_task_graph.specs.declared.graph.Graph.{Graph}
use Rattle.oss_task_graph.specs.declared.graph.Stop.{Stop}
use Rattle.oss_graph_text.specs.Boxes.{AreNodesText}
use Rattle.oss_graph_text.specs.Edges.{edges_text}
use Rattle.oss_graph_text.specs.Labels.{LabelsSeen, stop_text}
use Rattle.oss_graph_text.specs.Points.{is_main}

-- From left to right the labels of edges lie along them.
abbrev pub head_text : List ℕ
head_text = codes "digraph tasks {\n  rankdir=LR;\n  node [shape=box];\n"

-- a fault of main, which has no node; it stands behind all boxes, so that none inherits it
abbrev pub main_text : Stop → List ℕ
main_text s = codes "  label=\"main" ++ stop_text s ++ codes "\";\n  fontcolor=red;\n"

-- the fault, where it stands in the body of main
abbrev pub end_text : Option Stop → List ℕ
end_text None = []
end_text (Some s) = if is_main s.task then main_text s else []

-- The text of a graph, over these globals, whose tasks have these labels.
pub record IsGraphText (all : List Item) (labels : LabelsSeen) (g : Graph) (text : List ℕ) : Type 0 where
  pub nodes : List ℕ
  pub are_nodes : AreNodesText labels g.fault 1 g.nodes nodes
  pub whole : text ≡ head_text ++ nodes ++ edges_text all g.nodes ++ end_text g.fault ++ codes "}\n"
