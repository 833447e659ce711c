-- What the top call replies: a status, the bytes for the output and those for the error output.
--
--     0  Done           the command is done              what it tells, as below          nothing
--     1  Fault          the program ran into a fault     what it tells of it, as below    fault: KIND at line N
--     2  WordsRefused   the words are refused            nothing                          the usage line
--     3  TextRefused    a text is refused                nothing                          refused: KIND at line N, or schedule refused at line N
--     4  Unread         a file could not be read         nothing                          cannot read FILE
--     5  Unwritten      a text could not be written      a prefix of it                   a prefix of it, behind the whole output alone
--     6  OutOfMemory    memory is wanting                nothing                          nothing
--     7  NotReplayed    a replay does not end            nothing                          move N is not enabled, or N tasks unfinished
--
-- What a command tells: `check` the line `ok`; `run`, `replay` and `soak` the program's output, and before a fault the output up to it; `run` after it the final cells, and
-- which worker began each task and in which order, if it is asked for these; `soak` before it the number of tasks, if there is no fault; `trace` the trace of the run by waves;
-- `span` and `audit` their lines, and nothing of a program with a fault; `explain` the explanation of the fault, or `no fault`; `graph` the graph of the tasks, with the fault marked
-- in it; `missing` all that the clauses of the tasks lack, up to the fault.
--
-- Read against: of `long x; int main() { x = 1; }` the reply to `check` is Done with `ok`, to `run` Done with nothing, and to `run --dump` Done with the line
-- `x = 1`; with `x = 1 / x;` in its place the reply to `run`, with a dump or without, is Fault with nothing on the output and DivideByZero at line 1; of the empty text
-- it is TextRefused with NoMain at line 1 to all three, to `trace`, `span`, `audit`, `explain`, `graph` and `missing`, and to a replay, whatever lines its schedule has; and of words that are refused, no file is read.
use Rattle.std.specs.Prelude.{◌≡◌, ◌≤◌, ◌<◌, ◌⊎◌, ℕ, List, [], length, Option, Some, None, IfSome}
use Rattle.oss_io.specs.Spans.{ShelfSpan, ShelfFailed, ShelfQuiet, SinkSpan, SinkFailed, TookWhole, TookPart, Untouched}
use Rattle.oss_syntax.specs.declared.tree.program.Program.{Program}
use Rattle.oss_syntax.specs.declared.refusal.Refused.{Refused}
use Rattle.oss_model.specs.Texts.{refusal_line}
use Rattle.oss_grammar.specs.TaskLoops.{program_written}
use Rattle.oss_meaning.specs.Results.{IsOutcomeOf, Outcome}
use Rattle.oss_command.specs.Commands.{Command, asked_of, file_of, schedule_of, usage_line}
use Rattle.oss_command.specs.Commands.Command.{audit, explain, graph, missing, run, check, trace, replay, soak, span}
use Rattle.oss_command.specs.declared.options.Options.{Options}
use Rattle.oss_gen.specs.Generated.{generated_text}
use Rattle.oss_top.specs.Audits.{IsAuditReply}
use Rattle.oss_top.specs.Drawn.{IsGraphReply}
use Rattle.oss_top.specs.Explained.{IsExplainReply}
use Rattle.oss_top.specs.Missed.{IsMissingReply}
use Rattle.oss_top.specs.Forms.{accepted_line, done_reply, run_reply, error_reply, most_bytes, too_large_line, unread_line}
use Rattle.oss_top.specs.ProgramTexts.{Accepts, Refuses}
use Rattle.oss_top.specs.Replays.{IsFilesReply}
use Rattle.oss_top.specs.Soaks.{IsSoakReply}
use Rattle.oss_top.specs.Spans.{IsSpanReply}
use Rattle.oss_top.specs.Statuses.{number_of}
use Rattle.oss_top.specs.Traces.{IsTraceReply}
use Rattle.oss_top.specs.Workers.{AreLinesOf}
use Rattle.oss_top.specs.declared.reply.Reply.{Reply}
use Rattle.oss_top.specs.declared.status.Status.TheVariants as status

-- The reply to a run of a program that breaks no rule, with these options: that of the answer of its sequential run, in which each task has so much fuel. If the program comes to its end, lines follow
-- that tell which worker began each task, and in which order they began, as far as they are asked for. All else is the same in each mode.
pub record IsRunReply (options : Options) (program : Program) (reply : Reply) : Type 0 where
  pub outcome : Outcome
  pub is_outcome : IsOutcomeOf program.items options.fuel outcome
  pub lines : List ℕ
  pub are_lines : AreLinesOf options program lines
  pub is_reply : reply ≡ run_reply options.dump program lines outcome.answer

-- The reply of a command with one text to a program that breaks no rule: a check accepts it, a run runs it, a trace tells of its run by waves, a soak runs it and counts its tasks, an
-- audit tells which cells its tasks name and never touch, a span how parallel it can be at best, an explanation why it comes to its fault, a graph which of its tasks wait for which, and what is missing
-- all that its clauses lack.
pub data IsProgramReply : Command → Program → Reply → Type 0 where
  checked : {file : List ℕ} {program : Program} {reply : Reply} → reply ≡ done_reply accepted_line → IsProgramReply (check file) program reply
  ran : {file : List ℕ} {options : Options} {program : Program} {reply : Reply} → IsRunReply options program reply → IsProgramReply (run file options) program reply
  traced : {file : List ℕ} {options : Options} {program : Program} {reply : Reply} → IsTraceReply options.fuel program reply → IsProgramReply (trace file options) program reply
  soaked : {number size : ℕ} {options : Options} {program : Program} {reply : Reply} → IsSoakReply options program reply → IsProgramReply (soak number size options) program reply
  audited : {file : List ℕ} {fuel : ℕ} {program : Program} {reply : Reply} → IsAuditReply fuel program reply → IsProgramReply (audit file fuel) program reply
  spanned : {file : List ℕ} {fuel : ℕ} {program : Program} {reply : Reply} → IsSpanReply fuel program reply → IsProgramReply (span file fuel) program reply
  explained : {file : List ℕ} {fuel : ℕ} {program : Program} {reply : Reply} → IsExplainReply fuel program reply → IsProgramReply (explain file fuel) program reply
  drawn : {file : List ℕ} {fuel : ℕ} {program : Program} {reply : Reply} → IsGraphReply fuel program reply → IsProgramReply (graph file fuel) program reply
  missed : {file : List ℕ} {fuel : ℕ} {program : Program} {reply : Reply} → IsMissingReply fuel program reply → IsProgramReply (missing file fuel) program reply

-- the reply of such a command to a text of at most 1,048,576 bytes: that to its program with each task loop written out, where it is accepted
pub data IsTextReply (c : Command) (text : List ℕ) (reply : Reply) : Type 0 where
  accepted : (program : Program) → Accepts text program → IsProgramReply c (program_written program) reply → IsTextReply c text reply
  refused_text : (r : Refused) → Refuses text r → reply ≡ error_reply status.TextRefused (refusal_line r.kind r.line) → IsTextReply c text reply

-- the reply of such a command to a text of any length
pub data IsFileReply (c : Command) (text : List ℕ) (reply : Reply) : Type 0 where
  too_large : most_bytes < length text → reply ≡ error_reply status.TextRefused too_large_line → IsFileReply c text reply
  fits : length text ≤ most_bytes → IsTextReply c text reply → IsFileReply c text reply

-- The texts of the files of a command: that of its program, which a soak has not, and that of its schedule, which a replay alone has.
pub record Texts : Type 0 where
  pub file : List ℕ
  pub schedule : List ℕ

-- The reply to a command by its texts.
abbrev pub IsCommandReply : Command → Texts → Reply → Type 0
IsCommandReply (run file options) texts reply = IsFileReply (run file options) texts.file reply
IsCommandReply (check file) texts reply = IsFileReply (check file) texts.file reply
IsCommandReply (trace file options) texts reply = IsFileReply (trace file options) texts.file reply
IsCommandReply (replay file schedule fuel) texts reply = IsFilesReply fuel texts.file texts.schedule reply
IsCommandReply (soak number size options) texts reply = IsFileReply (soak number size options) (generated_text number size) reply
IsCommandReply (audit file fuel) texts reply = IsFileReply (audit file fuel) texts.file reply
IsCommandReply (span file fuel) texts reply = IsFileReply (span file fuel) texts.file reply
IsCommandReply (explain file fuel) texts reply = IsFileReply (explain file fuel) texts.file reply
IsCommandReply (graph file fuel) texts reply = IsFileReply (graph file fuel) texts.file reply
IsCommandReply (missing file fuel) texts reply = IsFileReply (missing file fuel) texts.file reply

-- These are the texts that are told under the names of the files, as far as any are told.
abbrev pub AreShown : (List ℕ → Option (List ℕ)) → Command → Texts → Type 0
AreShown held (run file options) texts = IfSome (held file) (λ t. texts.file ≡ t)
AreShown held (check file) texts = IfSome (held file) (λ t. texts.file ≡ t)
AreShown held (trace file options) texts = IfSome (held file) (λ t. texts.file ≡ t)
AreShown held (soak number size options) texts = Unit {0}
AreShown held (audit file fuel) texts = IfSome (held file) (λ t. texts.file ≡ t)
AreShown held (span file fuel) texts = IfSome (held file) (λ t. texts.file ≡ t)
AreShown held (explain file fuel) texts = IfSome (held file) (λ t. texts.file ≡ t)
AreShown held (graph file fuel) texts = IfSome (held file) (λ t. texts.file ≡ t)
AreShown held (missing file fuel) texts = IfSome (held file) (λ t. texts.file ≡ t)
AreShown held (replay file schedule fuel) texts = IfSome (held file) (λ t. texts.file ≡ t) × IfSome (held schedule) (λ t. texts.schedule ≡ t)

-- The texts are told under the names of the files, and are these.
abbrev pub AreHeld : (List ℕ → Option (List ℕ)) → Command → Texts → Type 0
AreHeld held (run file options) texts = held file ≡ Some texts.file
AreHeld held (check file) texts = held file ≡ Some texts.file
AreHeld held (trace file options) texts = held file ≡ Some texts.file
AreHeld held (soak number size options) texts = Unit {0}
AreHeld held (audit file fuel) texts = held file ≡ Some texts.file
AreHeld held (span file fuel) texts = held file ≡ Some texts.file
AreHeld held (explain file fuel) texts = held file ≡ Some texts.file
AreHeld held (graph file fuel) texts = held file ≡ Some texts.file
AreHeld held (missing file fuel) texts = held file ≡ Some texts.file
AreHeld held (replay file schedule fuel) texts = (held file ≡ Some texts.file) × (held schedule ≡ Some texts.schedule)

-- The reply to a command, by what is seen of the shelf:
--   that a file could not be read, only where the shelf failed in this call, at the name of the file; that of a schedule is read behind a program's that is not too long;
--   else by the texts, which are those that the shelf holds under the names where it tells them, and the shelf has not failed.
pub data IsShelfReply (c : Command) (shelf : ShelfSpan) (reply : Reply) : Type 0 where
  unread : (file : List ℕ) → file_of c ≡ Some file → ShelfFailed shelf → shelf.after.last ≡ file → reply ≡ error_reply status.Unread (unread_line file) → IsShelfReply c shelf reply
  unread_schedule : (file schedule text : List ℕ) → file_of c ≡ Some file → schedule_of c ≡ Some schedule → IfSome (shelf.before.held file) (λ t. text ≡ t) → length text ≤ most_bytes
      → ShelfFailed shelf → shelf.after.last ≡ schedule → reply ≡ error_reply status.Unread (unread_line schedule) → IsShelfReply c shelf reply
  by_texts : (texts : Texts) → ShelfQuiet shelf → AreShown shelf.before.held c texts → IsCommandReply c texts reply → IsShelfReply c shelf reply

-- The reply to words:
--   their usage, exactly where they are refused, and then nothing is read;
--   else that to the command for which they ask;
--   or that memory is wanting, which may come at any time before something is written, and so nothing is.
pub data IsReply (words : List (List ℕ)) (shelf : ShelfSpan) (reply : Reply) : Type 0 where
  usage : asked_of words ≡ None → ShelfQuiet shelf → reply ≡ error_reply status.WordsRefused usage_line → IsReply words shelf reply
  of_command : (c : Command) → asked_of words ≡ Some c → IsShelfReply c shelf reply → IsReply words shelf reply
  no_memory : reply ≡ error_reply status.OutOfMemory [] → IsReply words shelf reply

-- What could not be written of a reply: the output, and then the error output is as it was; or the error output, behind the whole
-- output.
pub data IsUnwritten (out err : SinkSpan) (reply : Reply) : Type 0 where
  no_output : TookPart out reply.out → Untouched err → IsUnwritten out err reply
  no_errors : TookWhole out reply.out → TookPart err reply.err → IsUnwritten out err reply

-- What a call did that ended with this number: it wrote the whole of a reply to its words and ended with the number of its status, or
-- it could not, and then 5 is the number.
pub data IsOutcome (words : List (List ℕ)) (shelf : ShelfSpan) (out err : SinkSpan) (number : ℕ) : Type 0 where
  written : (reply : Reply) → IsReply words shelf reply → TookWhole out reply.out → TookWhole err reply.err
      → number ≡ number_of reply.status → IsOutcome words shelf out err number
  unwritten : (reply : Reply) → IsReply words shelf reply → IsUnwritten out err reply
      → number ≡ number_of status.Unwritten → IsOutcome words shelf out err number

-- Completeness: where nothing failed, a command whose files are given has the one reply of its texts; or memory is wanting.
abbrev pub IsComplete : List (List ℕ) → ShelfSpan → SinkSpan → SinkSpan → ℕ → Type 0
IsComplete words shelf out err number = ¬ ShelfFailed shelf → ¬ SinkFailed out → ¬ SinkFailed err
    → (c : Command) (texts : Texts) → asked_of words ≡ Some c → AreHeld shelf.before.held c texts
    → (reply : Reply) → IsCommandReply c texts reply → (number ≡ number_of reply.status) ⊎ (number ≡ number_of status.OutOfMemory)
