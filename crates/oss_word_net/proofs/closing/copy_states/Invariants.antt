use Rattle.std.proofs.Common.{◌≡◌, ◌<◌, ◌≤◌, ◌+◌, ◌*◌, ℕ, length}
use Rattle.std.specs.Prelude.{slice_index, vec_capacity}
use Rattle.std.specs.Slots.{slots_items}
use Rattle.oss_word_net.proofs.closing.copy_states.Given as goal

abbrev pub invariant-loop-entry : goal.invariant-loop-entry
invariant-loop-entry l = record {
  size : length l.states.items ≡ l.entry;
  room : l.entries ≤ vec_capacity l.states;
  words : (e : ℕ) → e < l.entry → slice_index l.states.items e ≡ slice_index (slots_items l.closed.words) (1 + 2 * e);
}
