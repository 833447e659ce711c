-- A text has one reply to a check, a run, a trace, a soak and an audit, and two texts have one to a replay: there is one, and two by their definition are equal in status, output and error output. To a
-- span a text has a reply, too, and two have one status, one error output and the same two numbers; which longest chain is told is free.
-- Read against: a text is accepted as one program or refused for one reason, since its grammar leaves no choice; and a text that is
-- too long is refused as that, whatever stands in it; and the sequential run of a program comes to its end, and to one, as its run by waves does. A schedule is one list of moves or has one first
-- wrong line; and its moves lead to one state, or one of them is the first that is not enabled. Of two tasks that wait for nothing and have one tick each, either may stand in the chain of a span.
use Rattle.std.specs.Prelude.{◌≡◌, ℕ, false, List, []}
use Rattle.oss_command.specs.Commands.{Command}
use Rattle.oss_command.specs.Commands.Command.{audit, explain, graph, missing, run, check, trace, replay, soak, span}
use Rattle.oss_span.specs.Reply.{span_text}
use Rattle.oss_span.specs.declared.link.Link.{Link}
use Rattle.oss_top.specs.Replays.{IsFilesReply}
use Rattle.oss_top.specs.Reply.{IsFileReply}
use Rattle.oss_top.specs.declared.reply.Reply.{Reply}

-- The command has the text of a program alone, read or generated, and its reply is one: status, output and error output. A run that tells which worker began each task is left out: which workers they
-- are is free.
abbrev pub IsOfOneText : Command → Type 0
IsOfOneText (run file options) = options.who ≡ false
IsOfOneText (check file) = Unit {0}
IsOfOneText (trace file options) = Unit {0}
IsOfOneText (replay file schedule fuel) = ⊥
IsOfOneText (audit file fuel) = Unit {0}
IsOfOneText (span file fuel) = ⊥
IsOfOneText (explain file fuel) = ⊥
IsOfOneText (graph file fuel) = ⊥
IsOfOneText (missing file fuel) = ⊥
IsOfOneText (soak number size options) = Unit {0}

-- A text has a reply to each such command, and two are one.
pub record IsReplied (text : List ℕ) : Type 0 where
  pub some : (c : Command) → IsOfOneText c → (reply : Reply) × IsFileReply c text reply
  pub one : (c : Command) → IsOfOneText c → (reply other : Reply) → IsFileReply c text reply → IsFileReply c text other → reply ≡ other

pub record IsRepliedOnce (text schedule : List ℕ) : Type 0 where
  pub some : (fuel : ℕ) → (reply : Reply) × IsFilesReply fuel text schedule reply
  pub one : (fuel : ℕ) (reply other : Reply) → IsFilesReply fuel text schedule reply → IsFilesReply fuel text schedule other → reply ≡ other

-- A text has at most one reply to an explanation. (That it has one is no law yet.)
abbrev pub IsExplainedOnce : List ℕ → Type 0
IsExplainedOnce text = (file : List ℕ) (fuel : ℕ) (reply other : Reply) → IsFileReply (explain file fuel) text reply → IsFileReply (explain file fuel) text other → reply ≡ other

-- A text has at most one reply with the graph of its tasks. (That it has one is no law yet.)
abbrev pub IsDrawnOnce : List ℕ → Type 0
IsDrawnOnce text = (file : List ℕ) (fuel : ℕ) (reply other : Reply) → IsFileReply (graph file fuel) text reply → IsFileReply (graph file fuel) text other → reply ≡ other

-- A text has at most one reply with what is missing of its clauses. (That it has one is no law yet.)
abbrev pub IsMissedOnce : List ℕ → Type 0
IsMissedOnce text = (file : List ℕ) (fuel : ℕ) (reply other : Reply) → IsFileReply (missing file fuel) text reply → IsFileReply (missing file fuel) text other → reply ≡ other

-- Two outputs of a span: both are empty, or both tell the same ticks and the same ticks of a longest chain, each with a chain of its own.
pub data TellOneSpan (out other : List ℕ) : Type 0 where
  nothing : out ≡ [] → other ≡ [] → TellOneSpan out other
  numbers : (work ticks : ℕ) (chain links : List Link) → out ≡ span_text work ticks chain → other ≡ span_text work ticks links → TellOneSpan out other

-- Two replies to a span differ in the chain alone.
pub record AreSpansAlike (reply other : Reply) : Type 0 where
  pub status : reply.status ≡ other.status
  pub out : TellOneSpan reply.out other.out
  pub err : reply.err ≡ other.err

-- A text has a reply to a span, and two are alike.
pub record IsSpanned (text : List ℕ) : Type 0 where
  pub some : (file : List ℕ) (fuel : ℕ) → (reply : Reply) × IsFileReply (span file fuel) text reply
  pub alike : (file : List ℕ) (fuel : ℕ) (reply other : Reply) → IsFileReply (span file fuel) text reply → IsFileReply (span file fuel) text other → AreSpansAlike reply other
