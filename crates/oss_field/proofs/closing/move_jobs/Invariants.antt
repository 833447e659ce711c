use Rattle.std.proofs.Common.{◌≡◌, ◌≤◌, ◌<◌, ℕ, false, get_or, take}
use Rattle.std.specs.Prelude.{vec_capacity}
use Rattle.std.specs.Slots.{slots_filled, slots_items, slots_len}
use Rattle.std.specs.Mem.Slots.Ownership.{Filled}
use Rattle.oss_field.proofs.closing.move_jobs.Given as goal

abbrev pub invariant-loop-place : goal.invariant-loop-place
invariant-loop-place l = record {
  slots : l.slots.items ≡ take l.place (slots_items l.fn.closed.slots);
  room : l.count ≤ vec_capacity l.slots;
  same : slots_items l.closed.slots ≡ slots_items l.fn.closed.slots;
  size : slots_len l.closed.slots ≡ l.count;
  full : Filled (slots_filled l.closed.slots) l.place l.count;
  taken : (k : ℕ) → k < l.place → get_or (slots_filled l.closed.slots) k false ≡ false;
}
