-- When the lists of all stretches stand for what was opened and given up.
-- Read against: weakinout(a) as task 1, of four cells, with the children out(a[0;2]) as task 2 and out(a[2;2]) as task 3, and in(a[0]) as task 4. Cuts are at
-- 1, 2 and 4. Behind main's frame the stretch from 0 has those of 1, 2 and 4, that from 1 those of 1 and 2, that from 2 those of 1 and 3, and that from 4 none.
use Rattle.std.specs.Prelude.{◌≡◌, ℕ, ◌+◌, ◌≤◌, ◌<◌, ◌⊎◌, true, false, List, [], length, slice_get, vec_capacity, Option, Some, None}
use Rattle.oss_syntax.specs.declared.access.Access.{Access}
use Rattle.oss_syntax.specs.declared.access.Mode.TheVariants.{Write}
use Rattle.oss_model.specs.Order.{IsIn}
use Rattle.oss_ranges.specs.declared.piece.Piece.{Piece}
use Rattle.oss_ranges.specs.Cells.{Assigns, value_at}
use Rattle.oss_deps.specs.declared.opened.Open.{Open}
use Rattle.oss_deps.specs.declared.frame.Frame.{Frame}
use Rattle.oss_deps.specs.declared.column.Column.{Column}
use Rattle.oss_deps.specs.declared.want.Want.{Want}
use Rattle.oss_deps.specs.declared.want.Want.TheVariants.{ToWrite, ToRead, ToJoin}
use Rattle.oss_deps.specs.Opens.{AreOpens, mode_at, names}
use Rattle.oss_deps.specs.Kept.{given_at, is_asked}
use Rattle.oss_deps.specs.Places.{AreLinked, AreMarked}

-- The entry is the one of its number, counted from 1.
abbrev pub IsNumber : List Open → ℕ → Open → Type 0
IsNumber opens n o = (i : ℕ) × (n ≡ i + 1) × (slice_get opens i ≡ Some o)

-- The task whose access stands at a place; main's stands at 0.
abbrev pub IsTaskAt : List Frame → ℕ → ℕ → Type 0
IsTaskAt frames k t = (k ≡ 0 → t ≡ 0) × ((k ≡ 0 → ⊥) → (f : Frame) × (slice_get frames k ≡ Some f) × (f.task ≡ t))

-- A frame is that of an entry's access to the cell.
pub record IsFrameOf (opens : List Open) (c : ℕ) (frames : List Frame) (f : Frame) : Type 0 where
  pub entry : Open
  pub is : IsNumber opens f.number entry
  pub task : entry.task ≡ f.task
  pub named : names c entry ≡ true
  pub mode : mode_at c entry ≡ f.mode
  pub parent : IsTaskAt frames f.up entry.parent

-- An entry's access to a cell stands in the list.
pub record IsShown (frames : List Frame) (n : ℕ) : Type 0 where
  pub place : ℕ
  pub not_main : place ≡ 0 → ⊥
  pub frame : Frame
  pub is : slice_get frames place ≡ Some frame
  pub number : frame.number ≡ n

-- A list has the accesses to the cell.
pub record AreShown (opens : List Open) (c : ℕ) (frames : List Frame) : Type 0 where
  pub main : (f : Frame) → slice_get frames 0 ≡ Some f → f.task ≡ 0
  pub frame : (k : ℕ) (f : Frame) → slice_get frames k ≡ Some f → (k ≡ 0 → ⊥) → IsFrameOf opens c frames f
  pub all : (o : Open) (n : ℕ) → IsNumber opens n o → names c o ≡ true → IsShown frames n

-- The list of a stretch that has the cell is right.
pub record IsColumn (opens : List Open) (c : ℕ) (column : Column) : Type 0 where
  pub linked : AreLinked column.frames.items
  pub marked : AreMarked column.frames.items column.marks.items None
  pub shown : AreShown opens c column.frames.items

-- The stretches, and which one each cell is in.
pub record AreStretches (pieces : List (Piece ℕ)) (columns : List Column) : Type 0 where
  pub here : (c i : ℕ) → value_at pieces c ≡ Some i → (column : Column) × (slice_get columns i ≡ Some column) × (column.lo ≤ c) × (c < column.hi)
  pub there : (i : ℕ) (column : Column) (c : ℕ) → slice_get columns i ≡ Some column → column.lo ≤ c → c < column.hi → value_at pieces c ≡ Some i
  pub some : (i : ℕ) (column : Column) → slice_get columns i ≡ Some column → (column.lo < column.hi) × (column.hi ≤ 1048576)
  -- there are none, or each cell is in one
  pub whole : (columns ≡ []) ⊎ ((c : ℕ) → c < 1048576 → (i : ℕ) × (value_at pieces c ≡ Some i))

-- The lists stand for what was opened.
pub record AreColumns (opens : List Open) (pieces : List (Piece ℕ)) (columns : List Column) : Type 0 where
  pub stretches : AreStretches pieces columns
  pub right : (i : ℕ) (column : Column) (c : ℕ) → slice_get columns i ≡ Some column → column.lo ≤ c → c < column.hi → IsColumn opens c column
  pub none : columns ≡ [] → opens ≡ []

-- No stretch has both this cell and the one before it.
abbrev pub IsDivided : List Column → ℕ → Type 0
IsDivided columns k = (i : ℕ) (column : Column) → slice_get columns i ≡ Some column → (k ≤ column.lo) ⊎ (column.hi ≤ k)

-- A stretch has room for one more access.
abbrev pub HasRoom : Column → Type 0
HasRoom column = (length column.frames.items < vec_capacity column.frames) × (length column.marks.items < vec_capacity column.marks)

-- Each stretch of a range has.
abbrev pub HaveRoom : List Column → ℕ → ℕ → Type 0
HaveRoom columns lo hi = (i : ℕ) (column : Column) → slice_get columns i ≡ Some column → lo < column.hi → column.lo < hi → HasRoom column

-- An access may be added to each stretch of a range, and to no other.
pub record IsReady (columns : List Column) (lo hi : ℕ) : Type 0 where
  pub begins : IsDivided columns lo
  pub ends : IsDivided columns hi
  pub room : HaveRoom columns lo hi

-- The reserved accesses may be added without memory.
abbrev pub AreReady : Option (List Access) → List Column → Type 0
AreReady None columns = Unit {0}
AreReady (Some accesses) columns = ((columns ≡ []) → ⊥) × ((a : Access) → IsIn a accesses → IsReady columns a.range.lo a.range.hi)

-- The number of a task: 0 for main, and else that of its entry.
abbrev pub IsNumberOf : List Open → ℕ → ℕ → Type 0
IsNumberOf opens n t = ((n ≡ 0) × (t ≡ 0)) ⊎ ((o : Open) × IsNumber opens n o × (o.task ≡ t))

-- The task was opened as the one of its number.
abbrev pub IsInOrder : List Open → ℕ → Type 0
IsInOrder opens t = (o : Open) × IsNumber opens t o × (o.task ≡ t)

-- The access with a number stands at the place.
abbrev pub IsPlaceOf : List Frame → ℕ → ℕ → Type 0
IsPlaceOf frames n k = (f : Frame) × (slice_get frames k ≡ Some f) × (f.number ≡ n)

-- The lists are right, and hold what the reserved accesses need.
pub record AreRight (opens : List Open) (capacity : ℕ) (pieces : List (Piece ℕ)) (columns : List Column) (reserved : Option (List Access)) : Type 0 where
  pub opens_are : AreOpens opens
  pub columns_are : AreColumns opens pieces columns
  pub ready : AreReady reserved columns
  pub room : (accesses : List Access) → reserved ≡ Some accesses → length opens < capacity

-- A read or a write is wanted.
abbrev pub IsPlain : Want → Type 0
IsPlain ToWrite = Unit {0}
IsPlain ToRead = Unit {0}
IsPlain (ToJoin op) = ⊥

-- The entry of a number has an access to each cell of a range.
pub record IsNamedOver (opens : List Open) (n lo hi : ℕ) : Type 0 where
  pub entry : Open
  pub is : IsNumber opens n entry
  pub named : (c : ℕ) → lo ≤ c → c < hi → names c entry ≡ true

-- The stretches stand for the same as before: at most, some were divided, or have got room.
pub record IsFiner (pieces : List (Piece ℕ)) (columns : List Column) (new_pieces : List (Piece ℕ)) (new_columns : List Column) : Type 0 where
  pub stretches : AreStretches pieces columns → AreStretches new_pieces new_columns
  pub columns_are : (opens : List Open) → AreColumns opens pieces columns → AreColumns opens new_pieces new_columns
  pub given : AreStretches pieces columns → (t c : ℕ) → given_at new_pieces new_columns t c ≡ given_at pieces columns t c
  pub asked : (k : ℕ) → is_asked new_columns k ≡ is_asked columns k
  pub divided : (columns ≡ [] → ⊥) → (k : ℕ) → IsDivided columns k → IsDivided new_columns k
  pub room : (columns ≡ [] → ⊥) → (lo hi : ℕ) → HaveRoom columns lo hi → HaveRoom new_columns lo hi
  pub some : (columns ≡ [] → ⊥) → new_columns ≡ [] → ⊥

-- A stretch was divided at a cell.
pub record IsDividedAt (pieces : List (Piece ℕ)) (columns : List Column) (new_pieces : List (Piece ℕ)) (new_columns : List Column) (at cell : ℕ) : Type 0 where
  pub old : Column
  pub old_is : slice_get columns at ≡ Some old
  pub begins : old.lo < cell
  pub ends : cell < old.hi
  pub size : length new_columns ≡ length columns + 1
  pub front : slice_get new_columns at ≡ Some (record old { hi = cell })
  pub back : Column
  pub back_is : slice_get new_columns (length columns) ≡ Some back
  pub back_lo : back.lo ≡ cell
  pub back_hi : back.hi ≡ old.hi
  pub back_asked : back.asked ≡ false
  pub back_frames : back.frames.items ≡ old.frames.items
  pub back_marks : back.marks.items ≡ old.marks.items
  pub back_room : HasRoom back
  pub other : (i : ℕ) → (i ≡ at → ⊥) → i < length columns → slice_get new_columns i ≡ slice_get columns i
  pub map : Assigns cell old.hi (Some (length columns)) pieces new_pieces

-- Main's access, which each list has.
abbrev pub root : Frame
root = record { number = 0; task = 0; up = 0; mode = Write; last = None; next = None }

-- At most, the begins of stretches have become cuts.
pub record AreSameButAsked (old new : List Column) : Type 0 where
  pub size : length new ≡ length old
  pub each : (i : ℕ) (a : Column) → slice_get old i ≡ Some a → (b : Column) × (slice_get new i ≡ Some b) × (b ≡ record a { asked = b.asked })
