-- A message in a list, and how often it is there.
-- Read against: (2, 3) is in the list (2, 4), (2, 3), (2, 3); the total of `only (2, 3)` over it is 2.
use Rattle.std.specs.Prelude.{◌≡◌, ℕ, ◌&&◌, ◌==◌, List, ◌∷◌}
use Rattle.oss_words.specs.declared.message.Message.{Message}
use Rattle.oss_words.specs.Sums.{num}

-- The message is in the list.
pub data Has (m : Message) : List Message → Type 0 where
  head : {x : Message} {xs : List Message} → x.entry ≡ m.entry → x.flag ≡ m.flag → Has m (x ∷ xs)
  tail : {x : Message} {xs : List Message} → Has m xs → Has m (x ∷ xs)

-- 1 for this message, 0 for others
abbrev pub only : Message → Message → ℕ
only m x = num ((x.flag == m.flag) && (x.entry == m.entry))
