-- A graph has one text.
use Rattle.std.proofs.Common.{◌≡◌, ◌∙◌, refl, sym, ap, ℕ, ◌+◌, List, ◌++◌, Option}
use Rattle.std.specs.Prelude.{codes}
use Rattle.oss_syntax.specs.declared.tree.program.Item.{Item}
use Rattle.oss_task_graph.specs.declared.graph.Graph.{Graph}
use Rattle.oss_task_graph.specs.declared.graph.Node.{Node}
use Rattle.oss_task_graph.specs.declared.graph.Stop.{Stop}
use Rattle.oss_graph_text.specs.Boxes.{AreNodesText, box_begin, box_end, nodes_below, nodes_past}
use Rattle.oss_graph_text.specs.Boxes.AreNodesText.{none, one_more}
use Rattle.oss_graph_text.specs.Edges.{edges_text}
use Rattle.oss_graph_text.specs.Labels.{LabelsSeen}
use Rattle.oss_graph_text.specs.Text.{IsGraphText, end_text, head_text}

-- nodes on a level have one text
one_nodes : (labels : LabelsSeen) (fault : Option Stop) (level : ℕ) (ns : List Node) (a b : List ℕ) → AreNodesText labels fault level ns a → AreNodesText labels fault level ns b → a ≡ b
one_nodes labels fault _ _ _ _ none none = refl
one_nodes labels fault _ _ _ _ (one_more {level} {n} {rest} {inner} {behind} x y) (one_more {inner = other} {behind = last} u v) =
    let begin = box_begin labels fault level n (nodes_below n rest) in
    let end = box_end level (nodes_below n rest) in
    ap (λ (t : List ℕ). begin ++ (t ++ (end ++ behind))) (one_nodes labels fault (level + 1) (nodes_below n rest) inner other x u)
    ∙ ap (λ (t : List ℕ). begin ++ (other ++ (end ++ t))) (one_nodes labels fault level (nodes_past n rest) behind last y v)

pub one_text : (all : List Item) (labels : LabelsSeen) (g : Graph) (text other : List ℕ) → IsGraphText all labels g text → IsGraphText all labels g other → text ≡ other
one_text all labels g text other a b =
    a.whole
    ∙ ap (λ (t : List ℕ). head_text ++ t ++ edges_text all g.nodes ++ end_text g.fault ++ codes "}\n") (one_nodes labels g.fault 1 g.nodes a.nodes b.nodes a.are_nodes b.are_nodes)
    ∙ sym b.whole
