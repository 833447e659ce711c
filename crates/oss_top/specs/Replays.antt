-- The reply to a replay: of a program and moves, and of the texts of a program and a schedule.
-- Read against: `int main() { return 7; }` has a tick and its end. Of the schedule `step 0 2` the reply is Done with nothing on the output; of `step 0 1` it is NotReplayed with
-- `1 tasks unfinished`; of `step 0 3`, and of `step 0.0 1`, it is NotReplayed with `move 1 is not enabled`; and of `step 00 2` it is TextRefused with `schedule refused at line 1`. Where
-- the program's text is refused, too, that is told, and not what is wrong with the schedule, but for one that is too long.
use Rattle.std.specs.Prelude.{◌≡◌, ◌≤◌, ◌<◌, ℕ, false, List, length}
use Rattle.oss_syntax.specs.declared.tree.program.Program.{Program}
use Rattle.oss_syntax.specs.declared.refusal.Refused.{Refused}
use Rattle.oss_model.specs.Answers.{IsStopped}
use Rattle.oss_model.specs.Machine.{State}
use Rattle.oss_model.specs.Moves.{opening}
use Rattle.oss_model.specs.Texts.{refusal_line}
use Rattle.oss_grammar.specs.TaskLoops.{program_written}
use Rattle.oss_meaning.specs.Expressions.{TreeScript}
use Rattle.oss_meaning.specs.Meaning.{asks_of}
use Rattle.oss_meaning.specs.Results.{IsOutcomeOf, Outcome, first_cells, main_of}
use Rattle.oss_core.specs.Stops.{HasUnfinished}
use Rattle.oss_sched.specs.Schedules.{IsFirstWrong, IsScheduleText, lines_of}
use Rattle.oss_sched.specs.declared.moves.TextMove.{TextMove}
use Rattle.oss_replay.specs.Replays.{IsStuckAt, Plays}
use Rattle.oss_report.specs.Replays.{not_enabled_line, schedule_line, unfinished_line}
use Rattle.oss_top.specs.Forms.{answer_reply, error_reply, most_bytes, too_large_line}
use Rattle.oss_top.specs.ProgramTexts.{Accepts, Refuses}
use Rattle.oss_top.specs.declared.reply.Reply.{Reply}
use Rattle.oss_top.specs.declared.status.Status.TheVariants as status

-- the most bytes of a schedule's text
abbrev pub most_schedule : ℕ
most_schedule = 16777216

-- the state of the machine of tasks at the beginning of a program, where each task has so much fuel
abbrev pub beginning : Program → ℕ → State TreeScript
beginning program fuel = opening (main_of program.items fuel) (first_cells program.items)

-- The reply to moves that are replayed on a program that breaks no rule, each task with so much fuel. Where all moves are made, one after the other, and none is left, it is that of
-- the answer of the program's sequential run. Else it tells of the first move that is not enabled at its turn, or how many tasks are not complete.
pub data IsReplayReply (program : Program) (fuel : ℕ) (moves : List TextMove) (reply : Reply) : Type 0 where
  ended : (n : State TreeScript) (o : Outcome) → Plays (asks_of program.items) (beginning program fuel) moves n → IsStopped (asks_of program.items) n
      → IsOutcomeOf program.items fuel o → reply ≡ answer_reply false program o.answer → IsReplayReply program fuel moves reply
  stuck : (number : ℕ) → IsStuckAt (asks_of program.items) (beginning program fuel) 1 moves number → reply ≡ error_reply status.NotReplayed (not_enabled_line number)
      → IsReplayReply program fuel moves reply
  unfinished : (n : State TreeScript) (count : ℕ) → Plays (asks_of program.items) (beginning program fuel) moves n → (IsStopped (asks_of program.items) n → ⊥)
      → HasUnfinished (asks_of program.items) n count → reply ≡ error_reply status.NotReplayed (unfinished_line count) → IsReplayReply program fuel moves reply

-- the reply to the text of a schedule on a program that breaks no rule
pub data IsScheduleReply (program : Program) (fuel : ℕ) (schedule : List ℕ) (reply : Reply) : Type 0 where
  wrong_line : (line : ℕ) → IsFirstWrong 1 (lines_of schedule) line → reply ≡ error_reply status.TextRefused (schedule_line line) → IsScheduleReply program fuel schedule reply
  replayed : (moves : List TextMove) → IsScheduleText schedule moves → IsReplayReply program fuel moves reply → IsScheduleReply program fuel schedule reply

-- the reply to two texts within their limits: that to the program with each task loop written out, where it is accepted
pub data IsTextsReply (fuel : ℕ) (text schedule : List ℕ) (reply : Reply) : Type 0 where
  accepted : (program : Program) → Accepts text program → IsScheduleReply (program_written program) fuel schedule reply → IsTextsReply fuel text schedule reply
  refused_text : (r : Refused) → Refuses text r → reply ≡ error_reply status.TextRefused (refusal_line r.kind r.line) → IsTextsReply fuel text schedule reply

-- the reply to two texts of any length
pub data IsFilesReply (fuel : ℕ) (text schedule : List ℕ) (reply : Reply) : Type 0 where
  too_large : most_bytes < length text → reply ≡ error_reply status.TextRefused too_large_line → IsFilesReply fuel text schedule reply
  too_long : length text ≤ most_bytes → most_schedule < length schedule → reply ≡ error_reply status.TextRefused (schedule_line 1) → IsFilesReply fuel text schedule reply
  fit : length text ≤ most_bytes → length schedule ≤ most_schedule → IsTextsReply fuel text schedule reply → IsFilesReply fuel text schedule reply
