-- What is promised of the text of a graph beside what the call says.
-- Read against: of a graph with two nodes and no edge no other text is told than the one with their two lines; in the nodes 0.0, 0.0.0, 0.0.0.0, 0.0.1 and 0.1 the box of 0.0 has 0.0.1.
use Rattle.std.specs.Prelude.{◌≡◌, ℕ, true, List, ◌∷◌, ◌++◌}
use Rattle.oss_syntax.specs.declared.tree.program.Item.{Item}
use Rattle.oss_model.specs.Order.{IsIn}
use Rattle.oss_task_graph.specs.Graphs.{AreInOrder}
use Rattle.oss_task_graph.specs.declared.graph.Graph.{Graph}
use Rattle.oss_task_graph.specs.declared.graph.Node.{Node}
use Rattle.oss_graph_text.specs.Boxes.{nodes_below}
use Rattle.oss_graph_text.specs.Labels.{LabelsSeen}
use Rattle.oss_graph_text.specs.Points.{stands_below}
use Rattle.oss_graph_text.specs.Text.{IsGraphText}

-- A graph has one text.
abbrev pub OneText : Type 0
OneText = (all : List Item) (labels : LabelsSeen) (g : Graph) (text other : List ℕ) → IsGraphText all labels g text → IsGraphText all labels g other → text ≡ other

-- Where nodes rise in point order, all nodes behind one that stand below it follow it directly, and so stand in its box.
abbrev pub BoxesHoldAllBelow : Type 0
BoxesHoldAllBelow = (front rest : List Node) (n m : Node) → AreInOrder (front ++ n ∷ rest) → IsIn m rest → stands_below n.task m.task ≡ true → IsIn m (nodes_below n rest)
