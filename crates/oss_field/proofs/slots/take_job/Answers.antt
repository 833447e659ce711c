use Rattle.std.proofs.Common.{◌≡◌, ap, ◌∙◌, ℕ}
use Rattle.oss_field.specs.Known.{Known}
use Rattle.oss_field.specs.Taking.{is_out, is_waiting, after_count, after_miss}
use Rattle.oss_field.proofs.SlotLemmas.{if_none, found_ready}
use Rattle.oss_field.proofs.slots.take_job.Goals as goal

pub returns-then-read_count-ne0-clause-none : goal.returns-then-read_count-ne0-clause-none
returns-then-read_count-ne0-clause-none c = is_waiting c.read_count.result c.if-read_count-ne0.true c.read_count.ensures.known

pub take_slot-requires-clause-ready : goal.take_slot-requires-clause-ready
take_slot-requires-clause-ready c = found_ready c.args.cells c.args.task c.read_count.result c.args.seat.now.me.0.known c.read_count.new.seat.me.0.known c.read_count.ensures.known c.if-read_count-ne0.false

pub returns-clause-none : goal.returns-clause-none
returns-clause-none c =
    let k : c.read_count.new.seat.me.0.known ≡ after_count c.args.cells c.args.task 0 c.args.seat.now.me.0.known = c.read_count.ensures.known ∙ ap (λ (n : ℕ). after_count c.args.cells c.args.task n c.args.seat.now.me.0.known) c.if-read_count-ne0.false in
    if_none c.take_slot.result (λ h. is_out h.0 h.1 (h.2 ∙ ap (λ (z : Known). after_miss c.args.cells c.args.task h.0 z) k)) c.take_slot.ensures.none
