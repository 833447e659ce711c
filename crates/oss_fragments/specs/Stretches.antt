-- The fragments lie side by side, and hold all cells.
-- Read against: the fragments `0..4` and `4..1048576` are divided at 0, at 4 and behind all cells, and at no other cell. The access in(a[0;4])
-- may be added without memory where the first of them has room.
use Rattle.std.specs.Prelude.{◌≡◌, ℕ, ◌<◌, ◌≤◌, ◌⊎◌, List, [], length, slice_get, vec_capacity, Some}
use Rattle.oss_syntax.specs.declared.access.Access.{Access}
use Rattle.oss_model.specs.Order.{IsIn}
use Rattle.oss_ranges.specs.declared.piece.Piece.{Piece}
use Rattle.oss_ranges.specs.Cells.{value_at}
use Rattle.oss_access_lists.specs.Kept.{HasRoom as LineHasRoom}
use Rattle.oss_fragments.specs.declared.fragment.Fragment.{Fragment}
use Rattle.oss_fragments.specs.Here.{here_of, AreEntries}

-- A fragment has cells of the program, all flags of its accesses stand, and each access is that of one task.
pub record IsFragment (a : Fragment) : Type 0 where
  pub some : a.lo < a.hi
  pub within : a.hi ≤ 1048576
  pub settled : a.line.head ≡ 0
  pub entries : AreEntries (here_of a)

-- Each cell is in the one fragment of its place, or there is no fragment.
pub record AreFragments (pieces : List (Piece ℕ)) (fragments : List Fragment) : Type 0 where
  pub here : (c i : ℕ) → value_at pieces c ≡ Some i → (a : Fragment) × (slice_get fragments i ≡ Some a) × (a.lo ≤ c) × (c < a.hi)
  pub there : (i : ℕ) (a : Fragment) (c : ℕ) → slice_get fragments i ≡ Some a → a.lo ≤ c → c < a.hi → value_at pieces c ≡ Some i
  pub right : (i : ℕ) (a : Fragment) → slice_get fragments i ≡ Some a → IsFragment a
  pub whole : (fragments ≡ []) ⊎ ((c : ℕ) → c < 1048576 → (i : ℕ) × (value_at pieces c ≡ Some i))

-- No fragment has both this cell and the one before it.
abbrev pub IsDivided : List Fragment → ℕ → Type 0
IsDivided fragments k = (i : ℕ) (a : Fragment) → slice_get fragments i ≡ Some a → (k ≤ a.lo) ⊎ (a.hi ≤ k)

-- A fragment has room for one more access.
pub record HasRoom (a : Fragment) : Type 0 where
  pub line : LineHasRoom a.line
  pub tasks : length a.tasks.items < vec_capacity a.tasks

-- Each fragment in a range has.
abbrev pub HaveRoom : List Fragment → ℕ → ℕ → Type 0
HaveRoom fragments lo hi = (i : ℕ) (a : Fragment) → slice_get fragments i ≡ Some a → lo < a.hi → a.lo < hi → HasRoom a

-- An access to the cells of a range can be added without memory.
pub record IsReady (fragments : List Fragment) (lo hi : ℕ) : Type 0 where
  pub begins : IsDivided fragments lo
  pub ends : IsDivided fragments hi
  pub room : HaveRoom fragments lo hi

-- These accesses can.
pub record AreReady (accesses : List Access) (fragments : List Fragment) : Type 0 where
  pub some : fragments ≡ [] → ⊥
  pub each : (a : Access) → IsIn a accesses → IsReady fragments a.range.lo a.range.hi
