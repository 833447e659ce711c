-- The lines of the edges, in the order of the nodes to which they lead. A task that stands on none hangs on its creator, if that is not main: so nothing below a task lies apart.
-- Read against: the edge to 0.1 from child 0 with the piece a[2:3] is `"0.0" -> "0.1" [label="a[2:3]", style=dashed];` where it is weak. A task 0.0.1 without an edge has `"0.0" -> "0.0.1" [color=gray, arrowhead=empty];`, and 0.1 without an edge
-- has no line. Of the pieces of a[0], a[2], a[4], a[6] and a[8] four are told, and `1 more cell`. With 101 edges, their cells are told as `tooltip="x"`.
use Rattle.std.specs.Prelude.{ℕ, ◌+◌, nat_lt, Bool, true, false, if◌then◌else◌, List, [], ◌∷◌, ◌++◌, length, codes}
use Rattle.std.specs.Fmt.{decimal}
use Rattle.std.specs.List.{flat_map}
use Rattle.oss_syntax.specs.declared.tree.program.Item.{Item}
use Rattle.oss_model.specs.Points.{text_of}
use Rattle.oss_pieces.specs.declared.piece.Piece.{Piece}
use Rattle.oss_pieces.specs.Names.{pieces_text}
use Rattle.oss_task_graph.specs.declared.graph.Edge.{Edge}
use Rattle.oss_task_graph.specs.declared.graph.Node.{Node}
use Rattle.oss_graph_text.specs.Points.{above, is_deep, quoted}

-- the name of another child of a task's creator
abbrev pub sibling_text : List ℕ → ℕ → List ℕ
sibling_text p k = codes "\"" ++ text_of (above p) ++ codes "." ++ decimal k ++ codes "\""

-- how an edge is drawn
abbrev pub style_text : Bool → List ℕ
style_text true = codes ", style=dashed"
style_text false = []

-- from which child to which task an edge leads
abbrev pub ends_text : List ℕ → ℕ → List ℕ
ends_text p k = codes "  " ++ sibling_text p k ++ codes " -> " ++ quoted p

-- the cells of an edge, told by this attribute
abbrev pub cells_text : List Item → List ℕ → List Piece → List ℕ
cells_text all attribute ps = codes " [" ++ attribute ++ codes "=\"" ++ pieces_text all 4 ps ++ codes "\""

-- an edge to the task with this point
abbrev pub edge_text : List Item → List ℕ → List ℕ → Edge → List ℕ
edge_text all attribute p e = ends_text p e.from ++ cells_text all attribute e.cells ++ style_text e.weak ++ codes "];\n"

-- the edge to a task from its creator
abbrev pub creation_text : List ℕ → List ℕ
creation_text p = codes "  " ++ quoted (above p) ++ codes " -> " ++ quoted p ++ codes " [color=gray, arrowhead=empty];\n"

-- the same, where the creator is not main
abbrev pub hanging_text : List ℕ → List ℕ
hanging_text p = if is_deep p then creation_text p else []

-- these edges to a task, or else that from its creator
abbrev pub edges_or_hanging : List Item → List ℕ → List ℕ → List Edge → List ℕ
edges_or_hanging all attribute p [] = hanging_text p
edges_or_hanging all attribute p (e ∷ more) = flat_map (edge_text all attribute p) (e ∷ more)

-- those to a node
abbrev pub edges_to : List Item → List ℕ → Node → List ℕ
edges_to all attribute n = edges_or_hanging all attribute n.task n.edges

-- how many edges nodes have
abbrev pub edge_count : List Node → ℕ
edge_count [] = 0
edge_count (n ∷ rest) = length n.edges + edge_count rest

-- Labels of so many edges hide the picture.
abbrev pub has_many : List Node → Bool
has_many ns = nat_lt 100 (edge_count ns)

-- by which attribute cells are told
abbrev pub told_by : List Node → List ℕ
told_by ns = if has_many ns then codes "tooltip" else codes "label"

-- all edges
abbrev pub edges_text : List Item → List Node → List ℕ
edges_text all ns = flat_map (edges_to all (told_by ns)) ns
