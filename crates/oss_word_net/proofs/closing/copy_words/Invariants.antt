use Rattle.std.proofs.Common.{◌≡◌, ◌<◌, ◌≤◌, ℕ, length}
use Rattle.std.specs.Prelude.{slice_index, vec_capacity}
use Rattle.std.specs.Slots.{slots_items}
use Rattle.oss_word_net.proofs.closing.copy_words.Given as goal

abbrev pub invariant-loop-at : goal.invariant-loop-at
invariant-loop-at l = record {
  size : length l.words.items ≡ l.at;
  room : l.count ≤ vec_capacity l.words;
  words : (i : ℕ) → i < l.at → slice_index l.words.items i ≡ slice_index (slots_items l.closed.words) i;
}
