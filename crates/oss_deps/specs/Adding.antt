-- The accesses of a new task are added to the stretches that they name.
-- Read against: task 1 of main with out(a[0;4]), and cuts at 0, 2 and 4. Each of the stretches 0 to 2 and 2 to 4 has main's frame and that of task 1. Task 2
-- below it, with out(a[0;2]), gets a frame in the first, at place 2, with that of task 1 above it; the second stretch stays as it is.
use Rattle.std.specs.Prelude.{◌≡◌, ℕ, ◌≤◌, ◌<◌, ◌⊎◌, List, [], length, slice_get, slice_index_or, Some, None}
use Rattle.oss_syntax.specs.declared.access.Access.{Access}
use Rattle.oss_syntax.specs.declared.access.Mode.{Mode}
use Rattle.oss_ranges.specs.declared.piece.Piece.{Piece}
use Rattle.oss_deps.specs.declared.column.Column.{Column}
use Rattle.oss_deps.specs.Opens.{access_at}
use Rattle.oss_deps.specs.Places.{AreGrown, AreLinked, AreMarksGrown, blank}
use Rattle.oss_deps.specs.Columns.{AreStretches, HasRoom, IsDivided, IsPlaceOf}

-- A stretch has got the access of a task with a number, below that of its creator with another number.
pub record IsGrown (number task parent : ℕ) (mode : Mode) (old new : Column) : Type 0 where
  pub lo : new.lo ≡ old.lo
  pub hi : new.hi ≡ old.hi
  pub asked : new.asked ≡ old.asked
  pub up : ℕ
  pub up_is : IsPlaceOf old.frames.items parent up
  pub frames : AreGrown old.frames.items new.frames.items up (slice_index_or old.frames.items up blank).last (record { number = number; task = task; up = up; mode = mode; last = None; next = None })
  pub marks : AreMarksGrown old.marks.items new.marks.items up

-- A stretch may get one.
pub record IsAddable (parent : ℕ) (column : Column) : Type 0 where
  pub linked : AreLinked column.frames.items
  pub same : length column.marks.items ≡ length column.frames.items
  pub room : HasRoom column
  pub up : ℕ
  pub up_is : IsPlaceOf column.frames.items parent up

-- The stretches that begin in a part of the cells have got it, and no others.
pub record AreGrownTo (number task parent : ℕ) (mode : Mode) (lo cell : ℕ) (old new : List Column) : Type 0 where
  pub size : length new ≡ length old
  pub each : (i : ℕ) (a : Column) → slice_get old i ≡ Some a → (b : Column) × (slice_get new i ≡ Some b) × (((lo ≤ a.lo) × (a.lo < cell) × IsGrown number task parent mode a b) ⊎ ((lo ≤ a.lo → a.lo < cell → ⊥) × (a ≡ b)))

-- Each stretch of a range may get one.
pub record AreAddable (pieces : List (Piece ℕ)) (columns : List Column) (parent lo hi : ℕ) : Type 0 where
  pub stretches : AreStretches pieces columns
  pub some : columns ≡ [] → ⊥
  pub begins : IsDivided columns lo
  pub ends : IsDivided columns hi
  pub each : (i : ℕ) (a : Column) → slice_get columns i ≡ Some a → lo ≤ a.lo → a.lo < hi → IsAddable parent a

-- The stretches that the accesses name have got one each, of its mode, and no others.
pub data IsGrownBy (number task parent : ℕ) (accesses : List Access) (a b : Column) : Type 0 where
  got : (x : Access) → access_at accesses a.lo ≡ Some x → IsGrown number task parent x.mode a b → IsGrownBy number task parent accesses a b
  kept : access_at accesses a.lo ≡ None → a ≡ b → IsGrownBy number task parent accesses a b

pub record AreAllGrown (number task parent : ℕ) (accesses : List Access) (old new : List Column) : Type 0 where
  pub size : length new ≡ length old
  pub each : (i : ℕ) (a : Column) → slice_get old i ≡ Some a → (b : Column) × (slice_get new i ≡ Some b) × IsGrownBy number task parent accesses a b
