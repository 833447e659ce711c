-- The forms of replies, and the lines that they have beside those of faults, refusals and replays.
-- Read against: the answer Done with the output `6` has a reply with that output and the status Done; a fault has one with the output before it, and with its line on the error output. A soak of
-- three tasks with that answer has the output `tasks 3`, a newline and `6`; a trace has all its lines on the output, whatever the answer is.
use Rattle.std.specs.Prelude.{ℕ, Bool, true, false, List, [], ◌∷◌, ◌++◌, codes}
use Rattle.std.specs.Fmt.{decimal}
use Rattle.oss_syntax.specs.declared.tree.program.Program.{Program}
use Rattle.oss_syntax.specs.declared.refusal.RefusedKind.TheVariants as refused
use Rattle.oss_model.specs.declared.answer.Answer.{Answer}
use Rattle.oss_model.specs.declared.answer.Answer.TheVariants.{Done, Fault}
use Rattle.oss_model.specs.Texts.{fault_line, refusal_line}
use Rattle.oss_report.specs.Dumps.{dump_text}
use Rattle.oss_top.specs.declared.reply.Reply.{Reply}
use Rattle.oss_top.specs.declared.status.Status.{Status}
use Rattle.oss_top.specs.declared.status.Status.TheVariants as status

-- the most bytes of a program text
abbrev pub most_bytes : ℕ
most_bytes = 1048576

abbrev pub accepted_line : List ℕ
accepted_line = codes "ok" ++ 10 ∷ []

abbrev pub no_fault_line : List ℕ
no_fault_line = codes "no fault" ++ 10 ∷ []

abbrev pub too_large_line : List ℕ
too_large_line = refusal_line refused.TooLarge 1

abbrev pub unread_line : List ℕ → List ℕ
unread_line file = codes "cannot read " ++ file ++ 10 ∷ []

-- the reply to a command that is done, with this output
abbrev pub done_reply : List ℕ → Reply
done_reply text = record { status = status.Done; out = text; err = [] }

-- a reply that has a line for the error output alone
abbrev pub error_reply : Status → List ℕ → Reply
error_reply s line = record { status = s; out = []; err = line }

-- what stands behind the output of a run that ended with these cells: what the globals hold, where a dump is asked for
abbrev pub dump_behind : Bool → Program → List ℕ → List ℕ
dump_behind false program cells = []
dump_behind true program cells = dump_text program.items cells

-- the reply to a command that came to a fault, with this output and the line of the fault
abbrev pub fault_reply : List ℕ → List ℕ → Reply
fault_reply text line = record { status = status.Fault; out = text; err = line }

-- the reply to a run of the program that has this answer, with a dump or without
abbrev pub answer_reply : Bool → Program → Answer → Reply
answer_reply dump program (Done text cells) = done_reply (text ++ dump_behind dump program cells)
answer_reply dump program (Fault kind line text) = fault_reply text (fault_line kind line)

-- the same with these lines behind the output, and the dump, of a program that came to its end
abbrev pub run_reply : Bool → Program → List ℕ → Answer → Reply
run_reply dump program lines (Done text cells) = done_reply ((text ++ dump_behind dump program cells) ++ lines)
run_reply dump program lines (Fault kind line text) = fault_reply text (fault_line kind line)

-- the reply to a trace with this text, of a program that has this answer
abbrev pub trace_reply : List ℕ → Answer → Reply
trace_reply trace (Done text cells) = done_reply trace
trace_reply trace (Fault kind line text) = fault_reply trace (fault_line kind line)

-- the reply that tells a text of a program's run to its end, and that of its fault alone
abbrev pub told_reply : List ℕ → Answer → Reply
told_reply told (Done text cells) = done_reply told
told_reply told (Fault kind line text) = fault_reply [] (fault_line kind line)

-- the line that tells how many tasks there were
abbrev pub tasks_line : ℕ → List ℕ
tasks_line count = codes "tasks " ++ decimal count ++ 10 ∷ []

-- the reply to a soak that had so many tasks and has this answer
abbrev pub soak_reply : ℕ → Answer → Reply
soak_reply count (Done text cells) = done_reply (tasks_line count ++ text)
soak_reply count (Fault kind line text) = fault_reply text (fault_line kind line)
