use Rattle.std.proofs.Common.{◌≡◌, ◌≤◌, take}
use Rattle.std.specs.Prelude.{vec_capacity}
use Rattle.std.specs.Slots.{slots_items}
use Rattle.oss_field.proofs.closing.move_words.Given as goal

abbrev pub invariant-loop-place : goal.invariant-loop-place
invariant-loop-place l = record {
  words : l.words.items ≡ take l.place (slots_items l.closed.words);
  room : l.count ≤ vec_capacity l.words;
}
