use Rattle.std.proofs.Common.{sym, ◌∙◌, ap, List, ◌∷◌, [], ◌++◌, arith}
use lib.ListN.{get_elem?}
use Rattle.std.specs.Slots.{slots_filled, slots_items}
use Rattle.oss_field.specs.Table.{Slot}
use Rattle.oss_field.proofs.ApartLemmas.{full_after, take_next, taken_after}
use Rattle.oss_field.proofs.closing.move_jobs.Goals as goal

pub loop-place-preserved : goal.loop-place-preserved
loop-place-preserved c =
    let at = c.loop-place.invariant in
    let old = c.loop-place.closed.slots in
    let new = c.take-slot.new.self.slots in
    let o = c.take-slot.ensures.others in
    let value = ap (λ (z : List Slot). get_elem? z c.loop-place.place) (sym at.same) ∙ c.take-slot.ensures.value in
    record {
      slots = c.in-Ok.ensures.items ∙ (ap (λ (z : List Slot). z ++ c.take-slot.result ∷ []) at.slots ∙ sym (take_next (slots_items c.args.closed.slots) c.loop-place.place c.take-slot.result value));
      room = (let a = at.room in let b = c.push.ensures.capacity in omega (arith, a, b));
      same = o.0 ∙ at.same;
      size = o.2 ∙ at.size;
      full = full_after (slots_filled old) (slots_filled new) c.loop-place.place c.args.count o.1 at.full;
      taken = taken_after (slots_filled old) (slots_filled new) c.loop-place.place o.1 at.taken;
    }
