use Rattle.oss_slots.proofs.SlotLemmas.{housed_set}
use Rattle.oss_slots.proofs.table.Slots.take.Goals as goal

pub invariant_of-self : goal.invariant_of-self
invariant_of-self c = housed_set _ _ _ _ c.self.invariant
