-- What a dependency system is seen as, and how each call changes it.
-- Read against: opening task 1 with `0..4`, which makes the cuts 0 and 4; preparing `0..1`, which makes the cut 1; and giving up
-- `0..1` for task 1, after which it has given up cell 0 and no other.
use Rattle.std.specs.Prelude.{◌≡◌, ℕ, ◌≤◌, ◌<◌, ◌⊎◌, ◌==◌, ◌&&◌, ◌||◌, nat_le, nat_lt, Bool, true, false, List, [], ◌∷◌, ◌++◌, Option, Some, None}
use Rattle.oss_syntax.specs.declared.access.Access.{Access}
use Rattle.oss_syntax.specs.declared.access.Range.{Range}
use Rattle.oss_deps.specs.declared.opened.Open.{Open}
use Rattle.oss_deps.specs.Opens.{HasCover, HasOpened, IsKnown, IsNested, IsOpened, IsRising, names}

pub record Seen : Type 0 where
  -- the tasks that were opened, the oldest first
  pub opens : List Open
  -- the task has given up the cell
  pub given : ℕ → ℕ → Bool
  -- a range that is given may end at the cell
  pub cut : ℕ → Bool
  -- the next open with these accesses cannot fail
  pub reserved : Option (List Access)

-- Nothing was done yet.
pub record IsNew (s : Seen) : Type 0 where
  pub opens : s.opens ≡ []
  pub given : (t c : ℕ) → s.given t c ≡ false
  pub cuts : (k : ℕ) → s.cut k ≡ false
  pub reserved : s.reserved ≡ None

-- Both are seen alike.
pub record IsSame (old new : Seen) : Type 0 where
  pub opens : new.opens ≡ old.opens
  pub given : (t c : ℕ) → new.given t c ≡ old.given t c
  pub cuts : (k : ℕ) → new.cut k ≡ old.cut k
  pub reserved : new.reserved ≡ old.reserved

-- The cell is one of the range.
abbrev pub in_range : Range → ℕ → Bool
in_range r c = nat_le r.lo c && nat_lt c r.hi

-- The range begins or ends at the cell.
abbrev pub is_end : Range → ℕ → Bool
is_end r k = (k == r.lo) || (k == r.hi)

-- An access begins or ends at the cell.
abbrev pub is_access_end : List Access → ℕ → Bool
is_access_end [] k = false
is_access_end (a ∷ rest) k = is_end a.range k || is_access_end rest k

-- The accesses are the reserved ones.
pub record Reserves (accesses : List Access) (old new : Seen) : Type 0 where
  pub opens : new.opens ≡ old.opens
  pub given : (t c : ℕ) → new.given t c ≡ old.given t c
  pub cuts : (k : ℕ) → new.cut k ≡ old.cut k
  pub reserved : new.reserved ≡ Some accesses

-- A task was opened behind all others, and nothing is reserved any more.
pub record Opens (o : Open) (old new : Seen) : Type 0 where
  pub opens : new.opens ≡ old.opens ++ o ∷ []
  pub given : (t c : ℕ) → new.given t c ≡ old.given t c
  pub cuts : (k : ℕ) → new.cut k ≡ (old.cut k || is_access_end o.accesses k)
  pub reserved : new.reserved ≡ None

-- The ends of a range are cuts, and nothing is reserved any more.
pub record Prepares (range : Range) (old new : Seen) : Type 0 where
  pub opens : new.opens ≡ old.opens
  pub given : (t c : ℕ) → new.given t c ≡ old.given t c
  pub cuts : (k : ℕ) → new.cut k ≡ (old.cut k || is_end range k)
  pub reserved : new.reserved ≡ None

-- The task has given up the cells of a range.
pub record Gives (task : ℕ) (range : Range) (old new : Seen) : Type 0 where
  pub opens : new.opens ≡ old.opens
  pub given : (t c : ℕ) → new.given t c ≡ (old.given t c || ((task == t) && in_range range c))
  pub cuts : (k : ℕ) → new.cut k ≡ old.cut k
  pub reserved : new.reserved ≡ old.reserved

-- The creator has an access to the cell that covers that of the entry, and has not given the cell up.
pub record HasHeldCover (s : Seen) (c : ℕ) (o : Open) : Type 0 where
  pub cover : HasCover s.opens c o
  pub held : s.given o.parent c ≡ false

-- The task may be opened.
pub record CanOpen (s : Seen) (o : Open) : Type 0 where
  pub not_main : o.task ≡ 0 → ⊥
  pub fresh : IsOpened s.opens o.task → ⊥
  pub parent : IsKnown s.opens o.parent
  pub shallow : (depth : ℕ) × IsNested s.opens o.parent depth × (depth < 64)
  pub rising : IsRising o.accesses
  pub covered : (c : ℕ) → names c o ≡ true → (o.parent ≡ 0) ⊎ HasHeldCover s c o

-- The task may give up the cells of a range.
pub record CanGive (task : ℕ) (range : Range) (s : Seen) : Type 0 where
  pub begins : s.cut range.lo ≡ true
  pub ends : s.cut range.hi ≡ true
  pub named : (c : ℕ) → range.lo ≤ c → c < range.hi → HasOpened s.opens c task
  pub held : (c : ℕ) → range.lo ≤ c → c < range.hi → s.given task c ≡ false
