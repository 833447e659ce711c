-- The reply that explains the fault of a program.
-- Read against: of `long x; int main() { x = 1; }` the reply is Done with `no fault`. Where main has `task out(x) x = 5;` and then prints x without a wait, it is Fault: the output has the five lines of
-- the explanation, of which the first one tells that main reads x, and the error output has Lent with the line of the print. Of `long x = 64; int main() { x = 1 << x; }` on two lines the output
-- has `Main shifts by 64 at line 2.` and `A shift is by 0 to 63.`. Where the task has `label(first)`, the third line of the five is `Task 0.0 (first) was created at line 3 by main.`, if its directive stands on line 3.
use Rattle.std.specs.Prelude.{◌≡◌, ℕ, List, Option, None}
use Rattle.oss_syntax.specs.declared.tree.program.Program.{Program}
use Rattle.oss_model.specs.Texts.{fault_line}
use Rattle.oss_meaning.specs.Meaning.{asks_of}
use Rattle.oss_meaning.specs.Results.{first_cells, main_of}
use Rattle.oss_code.specs.declared.code.CodeParts.{CodeParts}
use Rattle.oss_machine.specs.declared.failure.Failure.{Failure}
use Rattle.oss_lower_laws.specs.Lowered.{IsLowered}
use Rattle.oss_explain.specs.declared.ending.Ending.{Ending}
use Rattle.oss_explain.specs.declared.ending.Ending.TheVariants as ending
use Rattle.oss_explain.specs.Endings.{IsEnding, IsFailureOf}
use Rattle.oss_explanation.specs.Labels.{LabelsSeen}
use Rattle.oss_explanation.specs.Text.{explanation_text}
use Rattle.oss_labels.specs.declared.labels.Labelled.{Labelled}
use Rattle.oss_labels.specs.Labels.{AreLabelsOf}
use Rattle.oss_labels.specs.Lists.{label_at}
use Rattle.oss_top.specs.Drawn.{entry_in}
use Rattle.oss_top.specs.Forms.{done_reply, fault_reply, no_fault_line}
use Rattle.oss_top.specs.declared.reply.Reply.{Reply}

-- The sequential run of the program, each task with so much fuel, ends so. Bodies are named by their places.
abbrev pub IsEndingOfProgram : ℕ → Program → Ending → Type 0
IsEndingOfProgram fuel program e = IsEnding (asks_of program.items) (entry_in program.items) (main_of program.items fuel) (first_cells program.items) program.items e

-- In the sequential run of the program, each task with so much fuel, this failed: the values of the instructions tell it to which the program is lowered.
pub record IsFailureOfProgram (fuel : ℕ) (program : Program) (failure : Option Failure) : Type 0 where
  pub code : CodeParts
  pub lowered : IsLowered program.items code
  pub is : IsFailureOf code fuel failure

-- This failed in a run that ends so: nothing in one that is done.
abbrev pub IsFailureOfEnding : ℕ → Program → Ending → Option Failure → Type 0
IsFailureOfEnding fuel program ending.Done failure = failure ≡ None
IsFailureOfEnding fuel program (ending.Fault kind line e) failure = IsFailureOfProgram fuel program failure

-- the reply to a run that ends so, of a program whose tasks have these labels, and in which this failed
abbrev pub ending_reply : Program → LabelsSeen → Ending → Option Failure → Reply
ending_reply program labels ending.Done failure = done_reply no_fault_line
ending_reply program labels (ending.Fault kind line e) failure = fault_reply (explanation_text program.items labels e failure) (fault_line kind line)

-- The reply for a program that breaks no rule: that it has no fault, or the explanation of its fault, with the labels of its pragmas, and the line of the fault.
pub record IsExplainReply (fuel : ℕ) (program : Program) (reply : Reply) : Type 0 where
  pub ending : Ending
  pub is_ending : IsEndingOfProgram fuel program ending
  pub failure : Option Failure
  pub is_failure : IsFailureOfEnding fuel program ending failure
  pub labels : List Labelled
  pub are_labels : AreLabelsOf program.items labels
  pub is_reply : reply ≡ ending_reply program (label_at labels) ending failure
