-- What is replied once the file with the program has been read, where the command has one, by what is seen of the shelf from then on; and what comes of moves that are replayed, as a reply.
-- Read against: of a check the shelf is not asked again; of a replay it is asked for the schedule, and where it fails at its name, that is told.
use Rattle.std.specs.Prelude.{◌≡◌, ℕ, false, List, IfSome}
use Rattle.oss_io.specs.Spans.{ShelfSpan, ShelfFailed, ShelfQuiet}
use Rattle.oss_syntax.specs.declared.tree.program.Program.{Program}
use Rattle.oss_command.specs.Commands.{Command}
use Rattle.oss_command.specs.Commands.Command.{audit, explain, graph, missing, run, check, trace, replay, soak, span}
use Rattle.oss_gen.specs.Generated.{generated_text}
use Rattle.oss_report.specs.Replays.{not_enabled_line, unfinished_line}
use Rattle.oss_replay.specs.declared.replayed.Replayed.{Replayed}
use Rattle.oss_replay.specs.declared.replayed.Replayed.TheVariants.{Answered, NotEnabled, Unfinished}
use Rattle.oss_top.specs.Forms.{answer_reply, error_reply, unread_line}
use Rattle.oss_top.specs.Replays.{IsFilesReply}
use Rattle.oss_top.specs.Reply.{IsFileReply, IsTextReply}
use Rattle.oss_top.specs.declared.reply.Reply.{Reply}
use Rattle.oss_top.specs.declared.status.Status.TheVariants as status

-- The reply to a replay whose program has this text.
pub data IsScheduleRead (name : List ℕ) (fuel : ℕ) (text : List ℕ) (shelf : ShelfSpan) (reply : Reply) : Type 0 where
  schedule_unread : ShelfFailed shelf → shelf.after.last ≡ name → reply ≡ error_reply status.Unread (unread_line name) → IsScheduleRead name fuel text shelf reply
  by_schedule : (schedule : List ℕ) → ShelfQuiet shelf → IfSome (shelf.before.held name) (λ t. schedule ≡ t) → IsFilesReply fuel text schedule reply
      → IsScheduleRead name fuel text shelf reply

-- The reply to a command whose program has this text. That of a soak is generated.
abbrev pub IsReadReply : Command → List ℕ → ShelfSpan → Reply → Type 0
IsReadReply (run file options) text shelf reply = ShelfQuiet shelf × IsTextReply (run file options) text reply
IsReadReply (check file) text shelf reply = ShelfQuiet shelf × IsTextReply (check file) text reply
IsReadReply (trace file options) text shelf reply = ShelfQuiet shelf × IsTextReply (trace file options) text reply
IsReadReply (replay file schedule fuel) text shelf reply = IsScheduleRead schedule fuel text shelf reply
IsReadReply (soak number size options) text shelf reply = ShelfQuiet shelf × IsFileReply (soak number size options) (generated_text number size) reply
IsReadReply (audit file fuel) text shelf reply = ShelfQuiet shelf × IsTextReply (audit file fuel) text reply
IsReadReply (span file fuel) text shelf reply = ShelfQuiet shelf × IsTextReply (span file fuel) text reply
IsReadReply (explain file fuel) text shelf reply = ShelfQuiet shelf × IsTextReply (explain file fuel) text reply
IsReadReply (graph file fuel) text shelf reply = ShelfQuiet shelf × IsTextReply (graph file fuel) text reply
IsReadReply (missing file fuel) text shelf reply = ShelfQuiet shelf × IsTextReply (missing file fuel) text reply

-- The reply to what comes of moves.
abbrev pub replayed_reply : Program → Replayed → Reply
replayed_reply program (Answered answer) = answer_reply false program answer
replayed_reply program (NotEnabled number) = error_reply status.NotReplayed (not_enabled_line number)
replayed_reply program (Unfinished count) = error_reply status.NotReplayed (unfinished_line count)
