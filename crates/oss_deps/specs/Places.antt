-- The accesses to one stretch of cells as a list, and the forest that its links make. An access goes by its place in the list;
-- main's stands at place 0.
-- Read against: main at 0, task 1 at 1 with the children 2 and 3, and task 4 at 4. The first children not done are 1 for main and 2
-- for task 1; once 2 is done, 3 is; once 3 is done and task 1 has given up its cells, 4 is for main.
use Rattle.std.specs.Prelude.{◌≡◌, ℕ, ◌≤◌, ◌<◌, ◌+◌, ◌&&◌, not, is_some, Bool, true, false, List, length, slice_get, slice_set, slice_index_or, Option, Some, None}
use Rattle.oss_syntax.specs.declared.access.Mode.{Mode}
use Rattle.oss_syntax.specs.declared.access.Mode.TheVariants.{Read}
use Rattle.oss_model.specs.Rights.{covers}
use Rattle.oss_model.specs.Forest.{Forest}
use Rattle.oss_deps.specs.declared.frame.Frame.{Frame}
use Rattle.oss_deps.specs.declared.frame.Mark.{Mark}

-- The access is done: its cells are given up, and no child has one that is not done.
abbrev pub is_closed : Mark → Bool
is_closed m = m.given && not (is_some m.first)

abbrev pub closed_mark : Option Mark → Bool
closed_mark None = false
closed_mark (Some m) = is_closed m

-- The access at the place is done.
abbrev pub closed_at : List Mark → ℕ → Bool
closed_at marks k = closed_mark (slice_get marks k)

abbrev pub given_mark : Option Mark → Bool
given_mark None = false
given_mark (Some m) = m.given

abbrev pub first_mark : Option Mark → Option ℕ
first_mark None = None
first_mark (Some m) = m.first

-- The first child of the access at the place that is not done.
abbrev pub first_at : List Mark → ℕ → Option ℕ
first_at marks k = first_mark (slice_get marks k)

abbrev pub mode_of_frame : Option Frame → Mode
mode_of_frame None = Read
mode_of_frame (Some f) = f.mode

-- The mode of the access at the place.
abbrev pub mode_at_place : List Frame → ℕ → Mode
mode_at_place frames k = mode_of_frame (slice_get frames k)

-- The access at the second place is that of a child of the task whose access stands at the first.
pub record IsBelow (frames : List Frame) (up at : ℕ) : Type 0 where
  pub frame : Frame
  pub is : slice_get frames at ≡ Some frame
  pub not_main : at ≡ 0 → ⊥
  pub up_is : frame.up ≡ up

-- The access at the first place is that of an earlier sibling.
pub record IsSibling (frames : List Frame) (u v : ℕ) : Type 0 where
  pub creator : ℕ
  pub before : IsBelow frames creator u
  pub after : IsBelow frames creator v
  pub order : u < v

-- The forest of the accesses by their places.
abbrev pub place_forest : List Frame → List Mark → Forest ℕ
place_forest frames marks = record {
  Top = IsBelow frames 0;
  Child = λ u v. (u ≡ 0 → ⊥) × IsBelow frames u v;
  Earlier = IsSibling frames;
  mode = mode_at_place frames;
  Given = λ v. given_mark (slice_get marks v) ≡ true;
}

-- The newest child of the access at the place, if there is one.
abbrev pub IsLast : List Frame → ℕ → Option ℕ → Type 0
IsLast frames k None = (j : ℕ) → IsBelow frames k j → ⊥
IsLast frames k (Some l) = IsBelow frames k l × ((j : ℕ) → IsBelow frames k j → j ≤ l)

-- The next sibling of the access at the place, where `up` is that of the creator.
abbrev pub IsNext : List Frame → ℕ → ℕ → Option ℕ → Type 0
IsNext frames up k None = (j : ℕ) → IsBelow frames up j → j ≤ k
IsNext frames up k (Some l) = IsBelow frames up l × (k < l) × ((j : ℕ) → IsBelow frames up j → k < j → l ≤ j)

-- The first child of the access at the place that is not done. One child may be left out: it is done, and this was not noted yet.
abbrev pub IsFirst : List Frame → List Mark → Option ℕ → ℕ → Option ℕ → Type 0
IsFirst frames marks hole k None = (j : ℕ) → IsBelow frames k j → closed_at marks j ≡ true
IsFirst frames marks hole k (Some l) = IsBelow frames k l × (closed_at marks l ≡ true → hole ≡ Some l) × ((j : ℕ) → IsBelow frames k j → j < l → closed_at marks j ≡ true)

-- The links of a list are right.
pub record AreLinked (frames : List Frame) : Type 0 where
  pub main : (f : Frame) × (slice_get frames 0 ≡ Some f) × (f.number ≡ 0)
  pub above : (k : ℕ) (f : Frame) → slice_get frames k ≡ Some f → (k ≡ 0 → ⊥) → f.up < k
  pub rising : (j k : ℕ) (f g : Frame) → slice_get frames j ≡ Some f → slice_get frames k ≡ Some g → j < k → f.number < g.number
  pub last : (k : ℕ) (f : Frame) → slice_get frames k ≡ Some f → IsLast frames k f.last
  pub next : (k : ℕ) (f : Frame) → slice_get frames k ≡ Some f → (k ≡ 0 → ⊥) → IsNext frames f.up k f.next

-- The marks of a list are right.
pub record AreMarked (frames : List Frame) (marks : List Mark) (hole : Option ℕ) : Type 0 where
  pub same : length marks ≡ length frames
  pub main : (m : Mark) → slice_get marks 0 ≡ Some m → m.given ≡ false
  pub first : (k : ℕ) (m : Mark) → slice_get marks k ≡ Some m → IsFirst frames marks hole k m.first

-- Each access is covered by that of the creator, unless this is main.
abbrev pub AreModesCovered : List Frame → Type 0
AreModesCovered frames = (k : ℕ) (f g : Frame) → slice_get frames k ≡ Some f → (k ≡ 0 → ⊥) → (f.up ≡ 0 → ⊥) → slice_get frames f.up ≡ Some g → covers g.mode f.mode ≡ true

-- The place is one of the list, and not main's.
abbrev pub IsWithin : List Frame → ℕ → Type 0
IsWithin frames k = (0 < k) × (k < length frames)

-- The first access that is not done of those of siblings behind a place, where `up` is that of the creator.
abbrev pub IsNextOpen : List Frame → List Mark → ℕ → ℕ → Option ℕ → Type 0
IsNextOpen frames marks up at None = (j : ℕ) → IsBelow frames up j → at < j → closed_at marks j ≡ true
IsNextOpen frames marks up at (Some l) = IsBelow frames up l × (at < l) × (closed_at marks l ≡ false) × ((j : ℕ) → IsBelow frames up j → at < j → j < l → closed_at marks j ≡ true)

-- An access further up has come to be done, or none has.
abbrev pub IsPassed : List Frame → List Mark → ℕ → Option ℕ → Type 0
IsPassed frames marks at None = Unit {0}
IsPassed frames marks at (Some up) = IsWithin frames up × (up < at) × (closed_at marks up ≡ true)

-- What a read of a list gives where there is nothing.
abbrev pub blank : Frame
blank = record { number = 0; task = 0; up = 0; mode = Read; last = None; next = None }

abbrev pub unmarked : Mark
unmarked = record { given = false; first = None }

-- The frames, where the last sibling has got a next one.
abbrev pub with_next : Option ℕ → ℕ → List Frame → List Frame
with_next None new frames = frames
with_next (Some last) new frames = slice_set frames last (record (slice_index_or frames last blank) { next = Some new })

-- The first one that is not done, where there is one more behind all others.
abbrev pub first_or : Option ℕ → ℕ → Option ℕ
first_or None new = Some new
first_or (Some l) new = Some l

-- What becomes of a frame where an access is added at a place: its own links alone change.
pub record IsOldFrame (new up : ℕ) (last : Option ℕ) (k : ℕ) (old : Frame) (now : Option Frame) : Type 0 where
  pub frame : Frame
  pub is : now ≡ Some frame
  pub number : frame.number ≡ old.number
  pub task : frame.task ≡ old.task
  pub up_is : frame.up ≡ old.up
  pub mode : frame.mode ≡ old.mode
  pub last_here : k ≡ up → frame.last ≡ Some new
  pub last_other : (k ≡ up → ⊥) → frame.last ≡ old.last
  pub next_here : last ≡ Some k → frame.next ≡ Some new
  pub next_other : (last ≡ Some k → ⊥) → frame.next ≡ old.next

-- And of a mark.
pub record IsOldMark (new up : ℕ) (k : ℕ) (old : Mark) (now : Option Mark) : Type 0 where
  pub mark : Mark
  pub is : now ≡ Some mark
  pub given : mark.given ≡ old.given
  pub first_some : (l : ℕ) → old.first ≡ Some l → mark.first ≡ Some l
  pub first_here : k ≡ up → old.first ≡ None → mark.first ≡ Some new
  pub first_other : (k ≡ up → ⊥) → mark.first ≡ old.first

-- A list has one access more, behind all others: it has this frame, and stands below the one at `up`.
pub record AreGrown (old new : List Frame) (up : ℕ) (last : Option ℕ) (added : Frame) : Type 0 where
  pub size : length new ≡ length old + 1
  pub here : slice_get new (length old) ≡ Some added
  pub frame : (k : ℕ) (f : Frame) → slice_get old k ≡ Some f → IsOldFrame (length old) up last k f (slice_get new k)

-- The same of its marks.
pub record AreMarksGrown (old new : List Mark) (up : ℕ) : Type 0 where
  pub size : length new ≡ length old + 1
  pub here : slice_get new (length old) ≡ Some (record { given = false; first = None })
  pub mark : (k : ℕ) (m : Mark) → slice_get old k ≡ Some m → IsOldMark (length old) up k m (slice_get new k)

-- The task of the first child's access that is not done.
pub record IsFirstOf (frames : List Frame) (marks : List Mark) (k t : ℕ) : Type 0 where
  pub place : ℕ
  pub first_is : first_at marks k ≡ Some place
  pub frame : Frame
  pub is : slice_get frames place ≡ Some frame
  pub task : frame.task ≡ t
