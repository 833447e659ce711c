-- Which words ask for a run by workers, and what is done with a reply.
-- Read against: `run a.c --mode=workers --workers=1` and `soak 7 9 --mode=workers --workers=1` ask for one; `run a.c` and `check a.c` do not, nor do words that are refused. A reply is written whole,
-- and the number is that of its status; or a sink fails, and the number is 5; or there was no memory for a reply, nothing is written, and the number is 6.
use Rattle.std.specs.Prelude.{◌≡◌, ℕ, true, List, Some, Result, Ok, Err}
use Rattle.std.specs.declared.alloc.AllocError.{AllocError}
use Rattle.oss_io.specs.Spans.{SinkSpan, TookWhole}
use Rattle.oss_command.specs.Commands.{Command, asked_of, runs_by_workers}
use Rattle.oss_top.specs.Reply.{IsUnwritten}
use Rattle.oss_top.specs.Statuses.{number_of}
use Rattle.oss_top.specs.declared.reply.Reply.{Reply}
use Rattle.oss_top.specs.declared.status.Status.TheVariants as status

-- The words ask for a command that runs a program by workers.
pub record AsksWorkers (words : List (List ℕ)) : Type 0 where
  pub command : Command
  pub asked : asked_of words ≡ Some command
  pub by_workers : runs_by_workers command ≡ true

-- They do not.
abbrev pub AsksNoWorkers : List (List ℕ) → Type 0
AsksNoWorkers words = AsksWorkers words → ⊥

-- What is done with a reply: both texts are written whole, and the number is that of its status; or not, and then it is that of Unwritten.
pub data IsReplyDelivered (reply : Reply) (out err : SinkSpan) (number : ℕ) : Type 0 where
  whole : TookWhole out reply.out → TookWhole err reply.err → number ≡ number_of reply.status → IsReplyDelivered reply out err number
  part : IsUnwritten out err reply → number ≡ number_of status.Unwritten → IsReplyDelivered reply out err number

-- The same of a reply, or of want of memory, of which nothing is written.
abbrev pub IsDelivery : Result Reply AllocError → SinkSpan → SinkSpan → ℕ → Type 0
IsDelivery (Ok reply) out err number = IsReplyDelivered reply out err number
IsDelivery (Err e) out err number = (out.after ≡ out.before) × (err.after ≡ err.before) × (number ≡ number_of status.OutOfMemory)
