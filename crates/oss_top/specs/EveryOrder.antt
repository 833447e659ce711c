-- Whatever order the tasks of an accepted text run in, as far as the moves of the machine of tasks allow it: where no move is left there is an answer, and it is
-- that of the reply to `run`.
-- Read against: of a `main` that creates two tasks, with `out(x)` and `out(y)`, which print `1` and `2`, either task may run first; when both have ended and all
-- cells are given up, the answer is Done with the output `12`, and so is the reply to `run`.
use Rattle.std.specs.Prelude.{◌≡◌, ℕ, List}
use Rattle.oss_syntax.specs.declared.tree.program.Program.{Program}
use Rattle.oss_grammar.specs.TaskLoops.{program_written}
use Rattle.oss_model.specs.Answers.{IsAnswer, IsStopped}
use Rattle.oss_model.specs.Machine.{State}
use Rattle.oss_model.specs.Moves.{Reached}
use Rattle.oss_model.specs.declared.answer.Answer.{Answer}
use Rattle.oss_meaning.specs.Expressions.{TreeScript}
use Rattle.oss_meaning.specs.Meaning.{asks_of}
use Rattle.oss_meaning.specs.Results.{first_cells, main_of}
use Rattle.oss_command.specs.declared.options.Options.{Options}
use Rattle.oss_top.specs.ProgramTexts.{Accepts}
use Rattle.oss_top.specs.Forms.{run_reply}
use Rattle.oss_top.specs.Reply.{IsRunReply}
use Rattle.oss_top.specs.Workers.{AreLinesOf}
use Rattle.oss_top.specs.declared.reply.Reply.{Reply}

-- the state has an answer, and each answer of it has this reply, with the lines for which the options ask
pub record HasReply (options : Options) (program : Program) (s : State TreeScript) (reply : Reply) : Type 0 where
  pub some : (a : Answer) × IsAnswer (asks_of program.items) s a
  pub lines : List ℕ
  pub are_lines : AreLinesOf options program lines
  pub each : (a : Answer) → IsAnswer (asks_of program.items) s a → reply ≡ run_reply options.dump program lines a

-- Each state to which moves lead from the beginning of this program, and in which no move is left, has the reply to its run.
abbrev pub IsReplyInEveryOrder : Options → Program → Reply → Type 0
IsReplyInEveryOrder options program reply =
    (s : State TreeScript) → Reached (asks_of program.items) (main_of program.items options.fuel) (first_cells program.items) s
    → IsStopped (asks_of program.items) s → HasReply options program s reply

-- So it is with the program of each accepted text, each task loop in it written out.
abbrev pub IsRunInEveryOrder : List ℕ → Type 0
IsRunInEveryOrder text = (p : Program) → Accepts text p → (options : Options) (reply : Reply) → IsRunReply options (program_written p) reply
    → IsReplyInEveryOrder options (program_written p) reply
