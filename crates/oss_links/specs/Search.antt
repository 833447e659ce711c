-- How to find what an access waits for, by the flags along the lists: from one access to the one before it, and from the first of a list
-- to the one above. The numbers of the accesses fall on the way, so a search ends.
-- Read against: the accesses 1 to 5 of `Wires`, before anything is given up. 5 is a read without its flag. Before it stands 4, a reduction
-- that is not over, which a read may not pass: 4 stands in the way. Once 4 is over, and 1 and 2 are, the search goes from 5 past 4 to 3 and
-- ends there. A read behind a read that is not over goes past it too. A child below 5 has none before it, so the search goes up from it to 5.
-- The search for an access in main's list that is not done begins at 5, the last, and ends there; once 5 is over, it goes on to 4.
use Rattle.std.specs.Prelude.{◌≡◌, ℕ, ◌⊎◌, ◌||◌, Bool, true, false}
use Rattle.oss_syntax.specs.declared.access.Mode.{Mode}
use Rattle.oss_syntax.specs.declared.access.Mode.TheVariants.{Read, Write, Fold}
use Rattle.oss_access_lists.specs.declared.marks.Marks.{Marks}
use Rattle.oss_access_lists.specs.Wires.{Place, Wires, IsBelow, IsBefore}
use Rattle.oss_access_lists.specs.Flags.{is_over, is_read, is_whole}
use Rattle.oss_links.specs.Readings.{is_let}

-- What waits in this mode may pass an earlier access of the other mode that has these flags.
abbrev pub passes : Mode → Mode → Marks → Bool
passes Read m x = is_read m || is_over x
passes Write m x = is_over x
passes (Fold op) m x = true

-- y is v, or an access above it, and not main's.
pub data IsAbove (place : ℕ → Place) (v : ℕ) : ℕ → Type 0 where
  itself : IsAbove place v v
  upwards : {p y : ℕ} → (p ≡ 0 → ⊥) → IsBelow place p y → IsAbove place v y → IsAbove place v p

-- The search from v in this mode has come to x: it is on the way, in the list of v or of an access above, and its flag does not stand.
pub record IsStopped (w : Wires) (F : ℕ → Marks) (m : Mode) (v x : ℕ) : Type 0 where
  pub level : ℕ
  pub above : IsAbove w.place v level
  pub behind : (x ≡ level) ⊎ IsBefore w.place x level
  pub not_main : x ≡ 0 → ⊥
  pub lacks : is_let m (F x) ≡ false

-- u stands in the way of v, which waits in this mode: it stands before v or before an access above v, and may not be passed.
pub record IsInTheWay (w : Wires) (F : ℕ → Marks) (m : Mode) (v u : ℕ) : Type 0 where
  pub level : ℕ
  pub above : IsAbove w.place v level
  pub before : IsBefore w.place u level
  pub stops : passes m (w.mode u) (F u) ≡ false

-- The search for an access in the list of p that is not done has come to x: it, or one before it, is not done.
pub record IsUndoneUpTo (w : Wires) (F : ℕ → Marks) (p x : ℕ) : Type 0 where
  pub below : IsBelow w.place p x
  pub lacks : is_whole (F x) ≡ false
