-- Messages that a seat delivers one after the other, and the tasks whose counts became 0 by that.
-- Read against: a seat holds (12, 3) and (12, 5), both of entry 12 of task 11. It delivers (12, 3), by which the count of 11 becomes 0, and then (12, 5). Told is 11 alone. Of three
-- messages by which the counts of 7 and 9 become 0, told are 7 and 9, in this order.
use Rattle.std.specs.Prelude.{◌≡◌, ℕ, List, [], ◌∷◌, ◌++◌, Option, Some, None}
use Rattle.oss_field.specs.Folding.{Folded}
use Rattle.oss_field.specs.Known.{Known}
use Rattle.oss_field.specs.Messages.{Delivered}

-- What one delivery tells.
abbrev pub told_by : Option ℕ → List ℕ
told_by None = []
told_by (Some task) = task ∷ []

-- A seat that knew k has delivered messages and made joins, knows l since, and these tasks are told, in the order of the deliveries.
pub data Delivers (k : Known) : Known → List ℕ → Type 0 where
  nothing_yet : {l : Known} {told : List ℕ} → l ≡ k → told ≡ [] → Delivers k l told
  delivered_more : {l m : Known} {told before : List ℕ} (freed : Option ℕ) → Delivers k m before → Delivered m l freed → told ≡ before ++ told_by freed → Delivers k l told
  joined_more : {l m : Known} {told : List ℕ} (entry : ℕ) → Delivers k m told → Folded entry m l → Delivers k l told
