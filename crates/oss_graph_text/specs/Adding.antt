-- A text to which nodes are added, and all of a graph.
-- Read against: `a` becomes `ab` by nodes whose text is `b`.
use Rattle.std.specs.Prelude.{◌≡◌, ℕ, List, ◌++◌, Option, codes}
use Rattle.oss_syntax.specs.declared.tree.program.Item.{Item}
use Rattle.oss_task_graph.specs.declared.graph.Node.{Node}
use Rattle.oss_task_graph.specs.declared.graph.Stop.{Stop}
use Rattle.oss_graph_text.specs.Boxes.{AreNodesText}
use Rattle.oss_graph_text.specs.Edges.{edges_text}
use Rattle.oss_graph_text.specs.Labels.{LabelsSeen}
use Rattle.oss_graph_text.specs.Text.{end_text, head_text}

-- Behind the old text stands that of the nodes.
pub record AddsNodes (labels : LabelsSeen) (fault : Option Stop) (level : ℕ) (ns : List Node) (old new : List ℕ) : Type 0 where
  pub part : List ℕ
  pub is_part : AreNodesText labels fault level ns part
  pub added : new ≡ old ++ part

-- Behind the old text stands that of a graph with these nodes and this fault.
pub record AddsGraph (all : List Item) (labels : LabelsSeen) (ns : List Node) (fault : Option Stop) (old new : List ℕ) : Type 0 where
  pub nodes : List ℕ
  pub are_nodes : AreNodesText labels fault 1 ns nodes
  pub added : new ≡ old ++ (head_text ++ nodes ++ edges_text all ns ++ end_text fault ++ codes "}\n")
