-- The reply that draws the graph of a program's tasks.
-- Read against: where main has `task out(x) label(first) x = 5;` on the lines 3 and 4, `task in(x) out(y) y = x + 1;` on 5 and 6, and nothing behind it, the reply is Done; the output has the nodes 0.0, with the lines `first` and `line 3`, and 0.1, with `line 5`, and
-- the edge between them with x. Where main then prints y on line 7, without a wait, it is Fault: the output has the same lines, and below them main and Lent in red; the error output has Lent with line 7.
use Rattle.std.specs.Prelude.{◌≡◌, ℕ, List, Option, Some, None}
use Rattle.oss_syntax.specs.declared.tree.program.Item.{Item}
use Rattle.oss_syntax.specs.declared.tree.program.Program.{Program}
use Rattle.oss_model.specs.Texts.{fault_line}
use Rattle.oss_meaning.specs.Expressions.{TreeScript}
use Rattle.oss_meaning.specs.Meaning.{asks_of}
use Rattle.oss_meaning.specs.Results.{first_cells, main_of}
use Rattle.oss_lower_laws.specs.Lowered.{place_of}
use Rattle.oss_labels.specs.declared.labels.Labelled.{Labelled}
use Rattle.oss_labels.specs.Labels.{AreLabelsOf}
use Rattle.oss_labels.specs.Lists.{label_at}
use Rattle.oss_task_graph.specs.declared.graph.Graph.{Graph}
use Rattle.oss_task_graph.specs.declared.graph.Stop.{Stop}
use Rattle.oss_task_graph.specs.Graphs.{IsGraph}
use Rattle.oss_graph_text.specs.Text.{IsGraphText}
use Rattle.oss_top.specs.Forms.{done_reply, fault_reply}
use Rattle.oss_top.specs.declared.reply.Reply.{Reply}

-- The number by which a body is named: the place that the code of the program has for it. (No two bodies of a program have one place.)
abbrev pub entry_in : List Item → TreeScript → ℕ
entry_in all s = place_of all s.body

-- The sequential run of the program, each task with so much fuel, ends with this graph.
abbrev pub IsGraphOfProgram : ℕ → Program → Graph → Type 0
IsGraphOfProgram fuel program g = IsGraph (asks_of program.items) (entry_in program.items) (main_of program.items fuel) (first_cells program.items) program.items g

-- the reply with this text to a run that came to its end, or to this fault
abbrev pub drawn_reply : List ℕ → Option Stop → Reply
drawn_reply text None = done_reply text
drawn_reply text (Some s) = fault_reply text (fault_line s.kind s.line)

-- The reply for a program that breaks no rule: the text of its graph, with the labels of its pragmas, and the line of the fault to which it comes, if it comes to one.
pub record IsGraphReply (fuel : ℕ) (program : Program) (reply : Reply) : Type 0 where
  pub graph : Graph
  pub is_graph : IsGraphOfProgram fuel program graph
  pub labels : List Labelled
  pub are_labels : AreLabelsOf program.items labels
  pub text : List ℕ
  pub is_text : IsGraphText program.items (label_at labels) graph text
  pub is_reply : reply ≡ drawn_reply text graph.fault
