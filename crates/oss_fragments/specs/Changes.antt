-- How the fragments change: accesses on which nothing depends any more are left out of one, one is divided, begins become cuts, or the fragments
-- of a range change one after the other.
-- Read against: `0..8` divided at 4 gives `0..4` in its place and `4..8` behind all others, with the same accesses; a walk from 0 up to 4
-- changes the first and not the second. Where task 1 has given up the cells 0 to 7 and is done there, `0..8` with main and task 1 is left with
-- main alone before it is divided.
use Rattle.std.specs.Prelude.{◌≡◌, ℕ, ◌+◌, ◌<◌, ◌≤◌, ◌⊎◌, false, List, [], length, set, slice_get, Some}
use Rattle.oss_syntax.specs.declared.access.Mode.{Mode}
use Rattle.oss_ranges.specs.declared.piece.Piece.{Piece}
use Rattle.oss_ranges.specs.Cells.{Assigns}
use Rattle.oss_fragments.specs.declared.fragment.Fragment.{Fragment}
use Rattle.oss_fragments.specs.Here.{here_of, IsLess, IsOpened, IsGivenUp}
use Rattle.oss_fragments.specs.Kept.{here_by, is_asked}
use Rattle.oss_fragments.specs.Stretches.{AreFragments, IsFragment, IsDivided, HasRoom, HaveRoom}

-- The fragments tell the same as before: at most, some were divided or have got room, and accesses on which nothing depends any more are left out.
pub record IsFiner (pieces : List (Piece ℕ)) (fragments : List Fragment) (new_pieces : List (Piece ℕ)) (new : List Fragment) : Type 0 where
  pub are : AreFragments pieces fragments → AreFragments new_pieces new
  pub here : AreFragments pieces fragments → (c : ℕ) → IsLess (here_by pieces fragments c) (here_by new_pieces new c)
  pub asked : (k : ℕ) → is_asked new k ≡ is_asked fragments k
  pub divided : (fragments ≡ [] → ⊥) → (k : ℕ) → IsDivided fragments k → IsDivided new k
  pub room : (fragments ≡ [] → ⊥) → (lo hi : ℕ) → HaveRoom fragments lo hi → HaveRoom new lo hi
  pub some : (fragments ≡ [] → ⊥) → new ≡ [] → ⊥

-- A fragment was divided at a cell.
pub record IsDividedAt (pieces : List (Piece ℕ)) (fragments : List Fragment) (new_pieces : List (Piece ℕ)) (new : List Fragment) (at cell : ℕ) : Type 0 where
  pub old : Fragment
  pub old_is : slice_get fragments at ≡ Some old
  pub begins : old.lo < cell
  pub ends : cell < old.hi
  pub size : length new ≡ length fragments + 1
  pub front : slice_get new at ≡ Some (record old { hi = cell })
  pub back : Fragment
  pub back_is : slice_get new (length fragments) ≡ Some back
  pub back_lo : back.lo ≡ cell
  pub back_hi : back.hi ≡ old.hi
  pub back_asked : back.asked ≡ false
  pub back_settled : back.line.head ≡ old.line.head
  pub back_here : here_of back ≡ here_of old
  pub back_room : HasRoom back
  pub other : (i : ℕ) → (i ≡ at → ⊥) → i < length fragments → slice_get new i ≡ slice_get fragments i
  pub map : Assigns cell old.hi (Some (length fragments)) pieces new_pieces

-- At most, the begins of fragments have become cuts.
pub record AreSameButAsked (old new : List Fragment) : Type 0 where
  pub size : length new ≡ length old
  pub each : (i : ℕ) (a : Fragment) → slice_get old i ≡ Some a → (b : Fragment) × (slice_get new i ≡ Some b) × (b ≡ record a { asked = b.asked })

-- The fragment begins in a part of the cells, and has changed so; or it does not, and is as before.
abbrev pub IsWalked : (Fragment → Fragment → Type 0) → ℕ → ℕ → Fragment → Fragment → Type 0
IsWalked R lo cell a b = ((lo ≤ a.lo) × (a.lo < cell) × R a b) ⊎ ((lo ≤ a.lo → a.lo < cell → ⊥) × (a ≡ b))

-- The fragment has the same cells, and its begin is a cut if it was one.
pub record HasSameEdges (a b : Fragment) : Type 0 where
  pub lo : b.lo ≡ a.lo
  pub hi : b.hi ≡ a.hi
  pub asked : b.asked ≡ a.asked

-- The fragments that begin in a part of the cells have changed so, each on its own, and no others.
pub record AreWalked (R : Fragment → Fragment → Type 0) (lo cell : ℕ) (old new : List Fragment) : Type 0 where
  pub size : length new ≡ length old
  pub each : (i : ℕ) (a : Fragment) → slice_get old i ≡ Some a → (b : Fragment) × (slice_get new i ≡ Some b) × HasSameEdges a b × IsWalked R lo cell a b

-- The fragment has at most got room.
pub record IsRoomier (a b : Fragment) : Type 0 where
  pub here : here_of b ≡ here_of a
  pub settled : b.line.head ≡ a.line.head
  pub room : HasRoom a → HasRoom b

-- At most, accesses on which nothing depends any more are left out of the fragment. If it had room, it has.
pub record IsThinner (a b : Fragment) : Type 0 where
  pub here : IsLess (here_of a) (here_of b)
  pub right : IsFragment b
  pub room : HasRoom a → HasRoom b

-- At most, such accesses are left out of the fragment at this place, and all others are as before.
pub record IsThinnedAt (old new : List Fragment) (at : ℕ) : Type 0 where
  pub one : Fragment
  pub one_is : slice_get old at ≡ Some one
  pub less : Fragment
  pub edges : HasSameEdges one less
  pub thinner : IsThinner one less
  pub all : new ≡ set old at less

-- It has room now.
pub record HasGotRoom (a b : Fragment) : Type 0 where
  pub roomier : IsRoomier a b
  pub got : HasRoom b

-- A task was opened there.
pub record IsOpenedIn (number parent : ℕ) (mode : Mode) (a b : Fragment) : Type 0 where
  pub opened : IsOpened number parent mode (here_of a) (here_of b)
  pub right : IsFragment b

-- A task has given up its cells.
pub record IsGivenIn (number : ℕ) (a b : Fragment) : Type 0 where
  pub given : IsGivenUp number (here_of a) (here_of b)
  pub right : IsFragment b
  pub room : HasRoom a → HasRoom b
