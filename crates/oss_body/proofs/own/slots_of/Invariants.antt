use Rattle.std.proofs.Common.{◌≡◌, ℕ, drop, None}
use Rattle.oss_slots.specs.Slots.{slot_at}
use Rattle.oss_body.specs.Slots.{slot_from}
use Rattle.oss_body.proofs.own.slots_of.Given as goal

abbrev pub invariant-loop-access : goal.invariant-loop-access
invariant-loop-access l = (c : ℕ) → slot_from (drop l.access-index l.accesses) c (slot_at l.slots c) ≡ slot_from l.accesses c None
