-- What the reply to `missing` says of the program's own run: it tells no line of a task exactly if that run comes to no fault of annotations.
-- Read against: a main creates a task with `out(x)`, which stores 1 into x, then waits and prints x. Its run ends with the output `1`, and the reply to `missing` is Done with `nothing is missing`. If the task divides by 0 on line 4 behind the store, the run stops there, and the reply is Fault with an
-- empty output and DivideByZero at line 4. With `in(x)` in place of `out(x)` the run stops before NoRight: then the reply tells that the task lacks `out(x)`, so its output is another one in either case.
use Rattle.std.specs.Prelude.{◌≡◌, ◌↔◌, ◌≤◌, ℕ, List, [], length, codes}
use Rattle.oss_syntax.specs.declared.fault.FaultKind.{FaultKind}
use Rattle.oss_syntax.specs.declared.tree.program.Program.{Program}
use Rattle.oss_grammar.specs.TaskLoops.{program_written}
use Rattle.oss_model.specs.Texts.{fault_line}
use Rattle.oss_model.specs.declared.answer.Answer.{Answer}
use Rattle.oss_model.specs.declared.answer.Answer.TheVariants as answers
use Rattle.oss_meaning.specs.Results.{IsOutcomeOf, Outcome}
use Rattle.oss_freed.specs.Freed.{IsOfAnnotations}
use Rattle.oss_command.specs.Commands.Command.{missing}
use Rattle.oss_top.specs.Forms.{done_reply, fault_reply, most_bytes}
use Rattle.oss_top.specs.ProgramTexts.{Accepts}
use Rattle.oss_top.specs.Reply.{IsFileReply}
use Rattle.oss_top.specs.declared.reply.Reply.{Reply}
use Rattle.oss_top.specs.declared.status.Status.TheVariants as status

-- the output that tells that nothing is missing
abbrev pub nothing_line : List ℕ
nothing_line = codes "nothing is missing\n"

-- By this answer main has ended.
abbrev pub IsEnd : Answer → Type 0
IsEnd (answers.Done output cells) = Unit {0}
IsEnd (answers.Fault kind line output) = ⊥

-- The answer is a fault that no clause and no wait would have prevented.
abbrev pub IsPlainFault : Answer → Type 0
IsPlainFault (answers.Done output cells) = ⊥
IsPlainFault (answers.Fault kind line output) = IsOfAnnotations kind → ⊥

-- The reply tells of no task exactly if the run with this answer comes to no fault of annotations.
pub record TellsNothingExactly (reply : Reply) (a : Answer) : Type 0 where
  -- it is that nothing is missing exactly if main has ended
  pub ended : (reply ≡ done_reply nothing_line) ↔ IsEnd a
  -- it is a fault and has no output exactly if the answer is such a fault
  pub failed : ((reply.status ≡ status.Fault) × (reply.out ≡ [])) ↔ IsPlainFault a
  -- and then it tells the kind and the line of that fault
  pub told : (kind : FaultKind) (line : ℕ) (output : List ℕ) → a ≡ answers.Fault kind line output → (IsOfAnnotations kind → ⊥) → reply ≡ fault_reply [] (fault_line kind line)

-- So does each reply to `missing` of an accepted text of at most 1,048,576 bytes, by the answer of the sequential run of its program with the same fuel, each task loop in it written out.
abbrev pub IsNothingMissing : List ℕ → Type 0
IsNothingMissing text = length text ≤ most_bytes → (p : Program) → Accepts text p → (file : List ℕ) (fuel : ℕ) (reply : Reply) → IsFileReply (missing file fuel) text reply
    → (o : Outcome) → IsOutcomeOf (program_written p).items fuel o → TellsNothingExactly reply o.answer
