-- What the label of a node tells: the point of its task, the label of its pragma where it has one, the line of its creation, and the fault where it stands in the body of the task.
-- Read against: the task 0.2 with the label `all of m`, created on line 7, before OutOfRange on line 8, is `"0.2" [label="0.2\nall of m\nline 7\nOutOfRange at line 8", color=red];`, and 0.1 beside it, without a label, from line 5,
-- `"0.1" [label="0.1\nline 5"];`. The label `say "a"`, a newline, `and \b` is written `say \"a\"\nand \\b`.
use Rattle.std.specs.Prelude.{ℕ, ◌==◌, ◌||◌, if◌then◌else◌, List, [], ◌∷◌, ◌++◌, Option, Some, None, codes}
use Rattle.std.specs.Fmt.{decimal}
use Rattle.std.specs.List.{flat_map}
use Rattle.oss_model.specs.Points.{text_of}
use Rattle.oss_model.specs.Texts.{fault_word}
use Rattle.oss_task_graph.specs.declared.graph.Node.{Node}
use Rattle.oss_task_graph.specs.declared.graph.Stop.{Stop}
use Rattle.oss_graph_text.specs.Points.{quoted, same_point}

-- What is seen of the labels of a program: that of the task whose body begins with this instruction, if it has one.
abbrev pub LabelsSeen : Type 0
LabelsSeen = ℕ → Option (List ℕ)

-- A byte of a label between quotes: a newline is written `\n`, and a quote and a backslash have a backslash before them.
abbrev pub quoted_byte : ℕ → List ℕ
quoted_byte b = if b == 10 then codes "\\n" else (if b == 34 || b == 92 then 92 ∷ b ∷ [] else b ∷ [])

-- the label of a pragma, as a line of its own
abbrev pub label_text : Option (List ℕ) → List ℕ
label_text None = []
label_text (Some bytes) = codes "\\n" ++ flat_map quoted_byte bytes

-- a fault, as a line of its own
abbrev pub stop_text : Stop → List ℕ
stop_text s = codes "\\n" ++ fault_word s.kind ++ codes " at line " ++ decimal s.line

-- the fault, where it stands in the body of the task with this point
abbrev pub fault_text : Option Stop → List ℕ → List ℕ
fault_text None p = []
fault_text (Some s) p = if same_point s.task p then stop_text s else []

-- how the node of that task is drawn
abbrev pub colour_text : Option Stop → List ℕ → List ℕ
colour_text None p = []
colour_text (Some s) p = if same_point s.task p then codes ", color=red" else []

-- what the label of a node tells
abbrev pub told_text : Option (List ℕ) → Option Stop → List ℕ → ℕ → List ℕ
told_text label fault p line = text_of p ++ label_text label ++ codes "\\nline " ++ decimal line ++ fault_text fault p

-- the line of the node of the task with this point, without the blanks before it
abbrev pub line_text : Option (List ℕ) → Option Stop → List ℕ → ℕ → List ℕ
line_text label fault p line = quoted p ++ codes " [label=\"" ++ told_text label fault p line ++ codes "\"" ++ colour_text fault p ++ codes "];\n"

-- the same of a node
abbrev pub node_text : LabelsSeen → Option Stop → Node → List ℕ
node_text labels fault n = line_text (labels n.entry) fault n.task n.line
