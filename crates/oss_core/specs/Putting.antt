-- What a core keeps after a whole part of a task was put into it: the body has come where the part has left it, each new task stands behind all others, and memory and
-- prints have what the acts of the part wrote.
-- Read against: main, whose part creates out(x) and in(x) and stops before its wait. Behind it there are three tasks, of which the second owes x by a let and the third too; the
-- tree has the points 0, 0.0 and 0.1; the dependency system has two entries, both with creator 0; and nothing is printed, and no cell is written.
use Rattle.std.specs.Prelude.{◌≡◌, ◌<◌, ◌≤◌, ℕ, suc, false, if◌then◌else◌, List, [], ◌∷◌, ◌++◌, length, map, Option, Some, None, slice_get, slice_index, slice_set}
use Rattle.oss_judge.specs.Joined.{IsRising, held_right}
use Rattle.oss_model.specs.Bodies.{Start}
use Rattle.oss_model.specs.Context.{right_of}
use Rattle.oss_model.specs.Rights.{right_from}
use Rattle.oss_ranges.specs.declared.piece.Piece.{Piece}
use Rattle.oss_ranges.specs.Cells.{is_within, value_at}
use Rattle.oss_code.specs.declared.code.CodeParts.{CodeParts}
use Rattle.oss_machine.specs.Frames.{CodeScript}
use Rattle.oss_body.specs.declared.body.Body.{Body}
use Rattle.oss_body.specs.Relation.{IsBody, has_wait, is_over}
use Rattle.oss_tree.specs.declared.output.Print.{Print}
use Rattle.oss_tree.specs.declared.task.Task.{Task as TreeTask}
use Rattle.oss_tree.specs.Tasks.{MayCreate, grown}
use Rattle.oss_deps.specs.declared.opened.Open.{Open}
use Rattle.oss_deps.specs.Opens.{access_at}
use Rattle.oss_deps.specs.Seen.{CanOpen, IsSame, Opens, Seen}
use Rattle.oss_kept_tasks.specs.declared.held.Held.{Held}
use Rattle.oss_core.specs.declared.creating.Newborn.{Newborn}
use Rattle.oss_core.specs.Changes.{noted, noted_new, owed_by_access}
use Rattle.oss_core.specs.Kept.{Kept}

-- The number, or else this one.
abbrev pub or_value : Option ℕ → ℕ → ℕ
or_value None before = before
or_value (Some n) before = n

-- The task that is to be added has this body, at its start, and its cells.
pub record IsNewborn (x : Newborn) (child : Body) : Type 0 where
  pub body : x.held.body ≡ child
  pub rights : (code : CodeParts) (start : Start CodeScript) (found : List ℕ) → IsBody code start found child → (c : ℕ) → right_from false x.accesses c ≡ held_right (right_of start.context c)
  pub rising : IsRising x.accesses
  pub owed : (c : ℕ) → value_at x.held.owed.pieces c ≡ owed_by_access (access_at x.accesses c)

-- The same, of each of several tasks.
abbrev pub AreNewborns : List Newborn → List Body → Type 0
AreNewborns [] [] = Unit {0}
AreNewborns (x ∷ xs) (b ∷ bs) = IsNewborn x b × AreNewborns xs bs
AreNewborns [] (b ∷ bs) = ⊥
AreNewborns (x ∷ xs) [] = ⊥

-- The entry of a new task with this number.
abbrev pub entry_of : ℕ → ℕ → Newborn → Open
entry_of m creator x = record { task = m; parent = creator; accesses = x.accesses }

-- The tree behind the creation of a task.
abbrev pub with_newborn : ℕ → Newborn → List TreeTask → List TreeTask
with_newborn creator x tasks = noted_new x.accesses (length tasks) (grown tasks creator (has_wait x.held.body))

-- The tree behind the creations of all these, one after the other.
abbrev pub with_newborns : ℕ → List Newborn → List TreeTask → List TreeTask
with_newborns creator [] tasks = tasks
with_newborns creator (x ∷ xs) tasks = with_newborns creator xs (with_newborn creator x tasks)

-- Each of these, with numbers from this one on, was opened, one after the other.
abbrev pub OpensAll : ℕ → ℕ → List Newborn → Seen → Seen → Type 0
OpensAll creator m [] old new = IsSame old new
OpensAll creator m (x ∷ xs) old new = (mid : Seen) × Opens (entry_of m creator x) old mid × OpensAll creator (suc m) xs mid new

-- Each of these may be created and opened at its turn.
abbrev pub MayAdd : ℕ → ℕ → List Newborn → List TreeTask → Seen → Type 0
MayAdd creator m [] tasks seen = Unit {0}
MayAdd creator m (x ∷ xs) tasks seen = MayCreate tasks creator × CanOpen seen (entry_of m creator x) × ((mid : Seen) → Opens (entry_of m creator x) seen mid → MayAdd creator (suc m) xs (with_newborn creator x tasks) mid)

-- What is kept of new tasks.
abbrev pub held_of : List Newborn → List Held
held_of xs = map (λ x. x.held) xs

-- The tasks of a core, of which one has come to this body, and these are new.
abbrev pub with_tasks : ℕ → Held → List Newborn → List Held → List Held
with_tasks v after xs tasks = slice_set tasks v after ++ held_of xs

-- The new tasks stand behind all others, and the tree and the dependency system know them.
pub record AreAdded (creator : ℕ) (xs : List Newborn) (old new : Kept) : Type 0 where
  pub tasks : new.tasks ≡ old.tasks ++ held_of xs
  pub more : length old.tree.tasks ≤ length new.tree.tasks
  pub tree : new.tree.tasks ≡ with_newborns creator xs old.tree.tasks
  pub prints : new.tree.prints ≡ old.tree.prints
  pub seen : OpensAll creator (length old.tasks) xs old.seen new.seen
  pub cells : new.cells ≡ old.cells

-- A part is put in: the body has come where the part has left it, its new tasks stand behind all others, and what it printed behind all that was printed.
pub record IsPut (v : ℕ) (xs : List Newborn) (body : Body) (prints : List Print) (old new : Kept) : Type 0 where
  pub before : Held
  pub was : slice_get old.tasks v ≡ Some before
  pub after : Held
  pub body_is : after.body ≡ body
  pub owed : after.owed.pieces ≡ before.owed.pieces
  pub tasks : new.tasks ≡ with_tasks v after xs old.tasks
  pub tree : new.tree.tasks ≡ noted v (is_over body) (with_newborns v xs old.tree.tasks)
  pub prints_are : new.tree.prints ≡ old.tree.prints ++ prints
  pub seen : OpensAll v (length old.tasks) xs old.seen new.seen

-- The body of one task is this one now, and what it owes is as before.
pub record HasBody (v : ℕ) (body : Body) (old new : List Held) : Type 0 where
  pub before : Held
  pub was : slice_get old v ≡ Some before
  pub after : Held
  pub body_is : after.body ≡ body
  pub owed : after.owed.pieces ≡ before.owed.pieces
  pub tasks : new ≡ slice_set old v after

-- The cells of a run get this number, and no other cell changes.
pub record IsRunPut (from to : ℕ) (value : Option ℕ) (old new : List ℕ) : Type 0 where
  pub size : length new ≡ length old
  pub cells : (c : ℕ) → c < length old → slice_index new c ≡ (if is_within from to c then or_value value (slice_index old c) else slice_index old c)

-- Each cell has what was written to it, or what it had.
pub record IsWritten (writes : List (Piece ℕ)) (old new : List ℕ) : Type 0 where
  pub size : length new ≡ length old
  pub cells : (c : ℕ) → c < length old → slice_index new c ≡ or_value (value_at writes c) (slice_index old c)
