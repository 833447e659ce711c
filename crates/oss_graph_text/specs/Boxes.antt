-- The lines of the nodes, one behind the other. A task below which others stand has a box, in which its own line stands first, and then those of all that stand below it.
-- Read against: of the nodes 0.0, 0.0.0, 0.0.0.0, 0.0.1 and 0.1 the box of 0.0 has the first four, and in it the box of 0.0.0 has 0.0.0 and 0.0.0.0; 0.1 stands behind the first box, in none. On each level of boxes lines begin with two blanks more.
use Rattle.std.specs.Prelude.{ℕ, suc, ◌+◌, if◌then◌else◌, List, [], ◌∷◌, ◌++◌, take, drop, Option, codes}
use Rattle.oss_model.specs.Points.{text_of}
use Rattle.oss_task_graph.specs.declared.graph.Node.{Node}
use Rattle.oss_task_graph.specs.declared.graph.Stop.{Stop}
use Rattle.oss_graph_text.specs.Labels.{LabelsSeen, node_text}
use Rattle.oss_graph_text.specs.Points.{indent, stands_below}

-- how many of the nodes that follow one directly stand below it
abbrev pub count_below : Node → List Node → ℕ
count_below n [] = 0
count_below n (m ∷ more) = if stands_below n.task m.task then suc (count_below n more) else 0

-- those nodes. In point order they are all that stand below it.
abbrev pub nodes_below : Node → List Node → List Node
nodes_below n rest = take (count_below n rest) rest

-- the nodes behind them
abbrev pub nodes_past : Node → List Node → List Node
nodes_past n rest = drop (count_below n rest) rest

-- the first line of the box of a task
abbrev pub box_line : ℕ → List ℕ → List ℕ
box_line level p = indent level ++ codes "subgraph \"cluster " ++ text_of p ++ codes "\" {\n"

-- the line of a node; where others stand below it, as the first one in its box
abbrev pub box_begin : LabelsSeen → Option Stop → ℕ → Node → List Node → List ℕ
box_begin labels fault level n [] = indent level ++ node_text labels fault n
box_begin labels fault level n (m ∷ more) = box_line level n.task ++ (indent (level + 1) ++ node_text labels fault n)

-- the last line of a box
abbrev pub box_end : ℕ → List Node → List ℕ
box_end level [] = []
box_end level (m ∷ more) = indent level ++ codes "}\n"

-- This is the text of nodes on a level.
pub data AreNodesText (labels : LabelsSeen) (fault : Option Stop) : ℕ → List Node → List ℕ → Type 0 where
  none : {level : ℕ} → AreNodesText labels fault level [] []
  one_more : {level : ℕ} {n : Node} {rest : List Node} {inner behind : List ℕ} → AreNodesText labels fault (level + 1) (nodes_below n rest) inner → AreNodesText labels fault level (nodes_past n rest) behind
      → AreNodesText labels fault level (n ∷ rest) (box_begin labels fault level n (nodes_below n rest) ++ (inner ++ (box_end level (nodes_below n rest) ++ behind)))
