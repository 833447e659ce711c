-- What holds of the accesses to one cell, whatever keeps them: the laws speak of functions from the numbers of accesses to places and
-- flags, and of no table.
-- Read against: the accesses 1 to 5 of `Flags`, at each of the five moments that stand there.
use Rattle.std.specs.Prelude.{◌≡◌, ℕ, true}
use Rattle.oss_access_lists.specs.declared.marks.Marks.{Marks}
use Rattle.oss_access_lists.specs.Wires.{Wires, AreWired}
use Rattle.oss_access_lists.specs.Flags.{Flag, Means, AreSo, IsDue, Stands, AreAtRest, IsListed, IsExact, TellsOfAll, has}
use Rattle.oss_access_lists.specs.Steps.{IsBeginning, IsHung, IsGift, IsDelivered, AreFirstPosted, AreGiftPosted}

-- What is due by flags that are so is so.
abbrev pub DueIsSo : Type 0
DueIsSo = (w : Wires) (F : ℕ → Marks) → AreWired w → AreSo w F → (f : Flag) (v : ℕ) → IsDue w F f v → Means w f v

-- Where all that is due stands, and what stands is so, each flag stands exactly where what it says is so.
abbrev pub RestIsExact : Type 0
RestIsExact = (w : Wires) (F : ℕ → Marks) → AreAtRest w F → (f : Flag) (v : ℕ) → IsListed w v → IsExact w F f v

-- There the flags of the last access of a list tell exactly whether all accesses in it are done.
abbrev pub LastTellsOfAll : Type 0
LastTellsOfAll = (w : Wires) (F : ℕ → Marks) → AreAtRest w F → (p v : ℕ) → w.last p ≡ v → (v ≡ 0 → ⊥) → TellsOfAll w F p v

-- Where nothing waits, all that is due stands.
abbrev pub QuietIsAtRest : Type 0
QuietIsAtRest = (w : Wires) (F P : ℕ → Marks) → Stands w F P → ((f : Flag) (v : ℕ) → has f (P v) ≡ true → ⊥) → AreAtRest w F

-- At the beginning all that is due stands or waits, and what stands or waits is so.
abbrev pub BeginningsStand : Type 0
BeginningsStand = (w : Wires) (F P : ℕ → Marks) → IsBeginning w F P → Stands w F P

-- An opening keeps it that all that is due stands or waits, and that what stands or waits is so.
abbrev pub OpeningsKeep : Type 0
OpeningsKeep = (w n : Wires) (p e : ℕ) (F P Q : ℕ → Marks) → IsHung w n p e → AreFirstPosted n F P Q e → Stands w F P → Stands n F Q

-- So does a gift.
abbrev pub GiftsKeep : Type 0
GiftsKeep = (w n : Wires) (g : ℕ) (F P Q : ℕ → Marks) → IsGift w n g → AreGiftPosted w n F P Q g → Stands w F P → Stands n F Q

-- And a delivery.
abbrev pub DeliveriesKeep : Type 0
DeliveriesKeep = (w : Wires) (F P G Q : ℕ → Marks) (t : ℕ) → IsDelivered w F P G Q t → Stands w F P → Stands w G Q

-- What is so of an access stays so at an opening of another one.
abbrev pub OpeningsStay : Type 0
OpeningsStay = (w n : Wires) (p e : ℕ) → AreWired w → IsHung w n p e → (f : Flag) (v : ℕ) → (v ≡ e → ⊥) → Means w f v → Means n f v

-- And at a gift.
abbrev pub GiftsStay : Type 0
GiftsStay = (w n : Wires) (g : ℕ) → IsGift w n g → (f : Flag) (v : ℕ) → Means w f v → Means n f v
