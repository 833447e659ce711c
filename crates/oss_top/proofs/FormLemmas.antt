-- The forms of replies, from what the calls below tell.
use Rattle.std.proofs.Common.{◌≡◌, ℕ, ◌+◌, ◌<◌, ◌≤◌, List, [], length, Option, Some, None, Result, Ok, Err, replicate, refl, sym, ap, ◌∙◌, subst, arith}
use Rattle.std.specs.Prelude.{IfOk, IfSome}
use Rattle.std.specs.Io.KnownBytes.{append_known}
use Rattle.std.proofs.lemmas.List.{append-nil, length-replicate}
use Rattle.oss_io.specs.Faults.{Rises}
use Rattle.oss_io.specs.Spans.{ShelfFailed, ShelfQuiet, ShelfSeen, ShelfSpan, SinkSpan, TookWhole}
use Rattle.oss_command.specs.Commands.{Command, file_of}
use Rattle.oss_command.specs.Commands.Command.{audit, check, explain, graph, missing, replay, run, soak, span, trace}
use Rattle.oss_report.specs.Replays.{schedule_line}
use Rattle.oss_top.specs.Forms.{error_reply, most_bytes, too_large_line}
use Rattle.oss_top.specs.Reads.{IsReadReply, IsScheduleRead}
use Rattle.oss_top.specs.Reads.IsScheduleRead.{by_schedule, schedule_unread}
use Rattle.oss_top.specs.Replays.{most_schedule}
use Rattle.oss_top.specs.Replays.IsFilesReply.{too_large as files_too_large, too_long}
use Rattle.oss_top.specs.Reply.{AreShown, IsCommandReply, IsOutcome, IsShelfReply, Texts}
use Rattle.oss_top.specs.Reply.IsFileReply.{fits, too_large}
use Rattle.oss_top.specs.Reply.IsOutcome.{written}
use Rattle.oss_top.specs.Reply.IsReply.{no_memory}
use Rattle.oss_top.specs.Reply.IsShelfReply.{by_texts, unread_schedule}
use Rattle.oss_top.specs.Statuses.{number_of}
use Rattle.oss_top.specs.declared.reply.Reply.{Reply}
use Rattle.oss_top.specs.declared.status.Status.TheVariants as status

pub if_ok : {A E : Type 0} {P Q : A → Type 0} (r : Result A E) → ((a : A) → P a → Q a) → IfOk r P → IfOk r Q
if_ok (Ok a) f p = f a p
if_ok (Err e) f p = p

longer : (n : ℕ) → (text : List ℕ) × (n < length text)
longer n = (replicate (n + 1) 0, subst (λ k. n < k) (sym (length-replicate (n + 1) 0)) (omega arith))

-- a text that is too long, in place of one that is not told
long_text : (most : ℕ) (given : Option (List ℕ)) → (text : List ℕ) × (most < length text) → IfSome given (λ t. most < length t) → (text : List ℕ) × IfSome given (λ t. text ≡ t) × (most < length text)
long_text most None (text, more) long = (text, tt, more)
long_text most (Some t) other long = (t, refl, long)

-- a text that is told, or any
shown : (given : Option (List ℕ)) → (text : List ℕ) × IfSome given (λ t. text ≡ t)
shown None = ([], tt)
shown (Some t) = (t, refl)

-- a text that is told under one name of a file is told under the other
at_name : (held : List ℕ → Option (List ℕ)) (file name text : List ℕ) → Some file ≡ Some name → IfSome (held name) (λ t. text ≡ t) → IfSome (held file) (λ t. text ≡ t)
at_name held file name text e same = let one : name ≡ file = cc in subst (λ (n : List ℕ). IfSome (held n) (λ t. text ≡ t)) one same

no_name : (name : List ℕ) → None ≡ Some name → ⊥
no_name name e = cc

long_command : (held : List ℕ → Option (List ℕ)) (c : Command) (file text : List ℕ) (reply : Reply) → file_of c ≡ Some file → IfSome (held file) (λ t. text ≡ t) → most_bytes < length text
    → reply ≡ error_reply status.TextRefused too_large_line → (texts : Texts) × AreShown held c texts × IsCommandReply c texts reply
long_command held (run file options) name text reply e same more is = (record { file = text; schedule = [] }, at_name held file name text e same, too_large more is)
long_command held (check file) name text reply e same more is = (record { file = text; schedule = [] }, at_name held file name text e same, too_large more is)
long_command held (trace file options) name text reply e same more is = (record { file = text; schedule = [] }, at_name held file name text e same, too_large more is)
long_command held (replay file schedule fuel) name text reply e same more is =
    let (listing, told) = shown (held schedule) in
    (record { file = text; schedule = listing }, (at_name held file name text e same, told), files_too_large more is)
long_command held (soak number size options) name text reply e same more is = absurd (no_name name e)
long_command held (audit file fuel) name text reply e same more is = (record { file = text; schedule = [] }, at_name held file name text e same, too_large more is)
long_command held (span file fuel) name text reply e same more is = (record { file = text; schedule = [] }, at_name held file name text e same, too_large more is)
long_command held (explain file fuel) name text reply e same more is = (record { file = text; schedule = [] }, at_name held file name text e same, too_large more is)
long_command held (graph file fuel) name text reply e same more is = (record { file = text; schedule = [] }, at_name held file name text e same, too_large more is)
long_command held (missing file fuel) name text reply e same more is = (record { file = text; schedule = [] }, at_name held file name text e same, too_large more is)

-- the reply to a file that is too long
pub long_replies : (shelf : ShelfSpan) (c : Command) (file : List ℕ) (reply : Reply) → file_of c ≡ Some file → ShelfQuiet shelf → IfSome (shelf.before.held file) (λ t. most_bytes < length t)
    → reply ≡ error_reply status.TextRefused too_large_line → IsShelfReply c shelf reply
long_replies shelf c file reply named still long is =
    let (text, same, more) = long_text most_bytes (shelf.before.held file) (longer most_bytes) long in
    let (texts, told, replies) = long_command shelf.before.held c file text reply named same more is in
    by_texts texts still told replies

-- the reply to a schedule that is too long
pub long_schedule : (name : List ℕ) (fuel : ℕ) (text : List ℕ) (shelf : ShelfSpan) (reply : Reply) → length text ≤ most_bytes → ShelfQuiet shelf
    → IfSome (shelf.before.held name) (λ t. most_schedule < length t) → reply ≡ error_reply status.TextRefused (schedule_line 1) → IsScheduleRead name fuel text shelf reply
long_schedule name fuel text shelf reply few still long is =
    let (schedule, same, more) = long_text most_schedule (shelf.before.held name) (longer most_schedule) long in
    by_schedule schedule still same (too_long few more is)

module _ (before mid after : ShelfSeen) (same : (name : List ℕ) → mid.held name ≡ before.held name) (still : mid.faults ≡ before.faults) where
  failed_whole : ShelfFailed (record { before = mid; after = after }) → ShelfFailed (record { before = before; after = after })
  failed_whole f = subst (λ n. Rises n after.faults) still f

  -- what is replied once the program has been read is the reply to the command
  pub read_replies : (c : Command) (name text : List ℕ) (reply : Reply) → file_of c ≡ Some name → IfSome (before.held name) (λ t. text ≡ t) → length text ≤ most_bytes
      → IsReadReply c text (record { before = mid; after = after }) reply → IsShelfReply c (record { before = before; after = after }) reply
  read_replies (run file options) name text reply e told few (quiet, is) =
      by_texts (record { file = text; schedule = [] }) (quiet ∙ still) (at_name before.held file name text e told) (fits few is)
  read_replies (check file) name text reply e told few (quiet, is) =
      by_texts (record { file = text; schedule = [] }) (quiet ∙ still) (at_name before.held file name text e told) (fits few is)
  read_replies (trace file options) name text reply e told few (quiet, is) =
      by_texts (record { file = text; schedule = [] }) (quiet ∙ still) (at_name before.held file name text e told) (fits few is)
  read_replies (soak number size options) name text reply e told few is = absurd (no_name name e)
  read_replies (audit file fuel) name text reply e told few (quiet, is) =
      by_texts (record { file = text; schedule = [] }) (quiet ∙ still) (at_name before.held file name text e told) (fits few is)
  read_replies (span file fuel) name text reply e told few (quiet, is) =
      by_texts (record { file = text; schedule = [] }) (quiet ∙ still) (at_name before.held file name text e told) (fits few is)
  read_replies (explain file fuel) name text reply e told few (quiet, is) =
      by_texts (record { file = text; schedule = [] }) (quiet ∙ still) (at_name before.held file name text e told) (fits few is)
  read_replies (graph file fuel) name text reply e told few (quiet, is) =
      by_texts (record { file = text; schedule = [] }) (quiet ∙ still) (at_name before.held file name text e told) (fits few is)
  read_replies (missing file fuel) name text reply e told few (quiet, is) =
      by_texts (record { file = text; schedule = [] }) (quiet ∙ still) (at_name before.held file name text e told) (fits few is)
  read_replies (replay file schedule fuel) name text reply e told few (schedule_unread failed last is) = unread_schedule name schedule text e refl told few (failed_whole failed) last is
  read_replies (replay file schedule fuel) name text reply e told few (by_schedule listing quiet shows is) =
      by_texts (record { file = text; schedule = listing }) (quiet ∙ still) (at_name before.held file name text e told, subst (λ o. IfSome o (λ t. listing ≡ t)) (same schedule) shows) is

-- the reply to a command without a file
pub unfiled_replies : (shelf : ShelfSpan) (c : Command) (reply : Reply) → file_of c ≡ None → IsReadReply c [] shelf reply → IsShelfReply c shelf reply
unfiled_replies shelf (run file options) reply e is = absurd (no_name file (sym e))
unfiled_replies shelf (check file) reply e is = absurd (no_name file (sym e))
unfiled_replies shelf (trace file options) reply e is = absurd (no_name file (sym e))
unfiled_replies shelf (replay file schedule fuel) reply e is = absurd (no_name file (sym e))
unfiled_replies shelf (audit file fuel) reply e is = absurd (no_name file (sym e))
unfiled_replies shelf (span file fuel) reply e is = absurd (no_name file (sym e))
unfiled_replies shelf (explain file fuel) reply e is = absurd (no_name file (sym e))
unfiled_replies shelf (graph file fuel) reply e is = absurd (no_name file (sym e))
unfiled_replies shelf (missing file fuel) reply e is = absurd (no_name file (sym e))
unfiled_replies shelf (soak number size options) reply e (quiet, is) = by_texts (record { file = []; schedule = [] }) quiet tt is

nothing_more : (known : Option (List ℕ)) → known ≡ append_known known []
nothing_more None = refl
nothing_more (Some xs) = ap Some (sym (append-nil xs))

-- nothing is written where memory is wanting
pub no_memory_outcome : (words : List (List ℕ)) (shelf : ShelfSpan) (out err : SinkSpan) (number : ℕ)
    → out.after ≡ out.before → err.after ≡ err.before → number ≡ number_of status.OutOfMemory → IsOutcome words shelf out err number
no_memory_outcome words shelf out err number o e is = written (error_reply status.OutOfMemory []) (no_memory refl) (nothing out o) (nothing err e) is where
  nothing : (sink : SinkSpan) → sink.after ≡ sink.before → TookWhole sink []
  nothing sink same = record { whole = ap (λ s. s.taken) same ∙ nothing_more sink.before.taken; quiet = ap (λ s. s.faults) same }
