-- What is done with a reply to words is an outcome of them.
use Rattle.std.proofs.Common.{ℕ, List, Result, Ok, Err}
use Rattle.std.specs.Prelude.{IfOk}
use Rattle.std.specs.declared.alloc.AllocError.{AllocError}
use Rattle.oss_io.specs.Spans.{ShelfSpan, SinkSpan}
use Rattle.oss_top.specs.Calls.{IsDelivery}
use Rattle.oss_top.specs.Calls.IsReplyDelivered.{part, whole}
use Rattle.oss_top.specs.Reply.{IsOutcome, IsReply}
use Rattle.oss_top.specs.Reply.IsOutcome.{unwritten, written}
use Rattle.oss_top.specs.declared.reply.Reply.{Reply}
use Rattle.oss_top.proofs.FormLemmas.{no_memory_outcome}

pub outcome_by : (words : List (List ℕ)) (shelf : ShelfSpan) (out err : SinkSpan) (number : ℕ) (told : Result Reply AllocError) → IfOk told (λ reply. IsReply words shelf reply) → IsDelivery told out err number
    → IsOutcome words shelf out err number
outcome_by words shelf out err number (Ok reply) is (whole o e n) = written reply is o e n
outcome_by words shelf out err number (Ok reply) is (part both n) = unwritten reply is both n
outcome_by words shelf out err number (Err error) is (o, e, n) = no_memory_outcome words shelf out err number o e n
