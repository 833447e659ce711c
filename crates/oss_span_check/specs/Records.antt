-- What a record of a run tells of a state: each act that others may wait for, or that waits, once; and each task that was created.
-- Read against: behind main's creation of 0.0, the end of 0.0 and a tick of main the notes are `0.0, act 0, End` and `0, act 1, Tick`, and the one task made is 0.0, by main's act 0. The creation itself has no note.
use Rattle.std.specs.Prelude.{◌≡◌, ℕ, false, List, [], ◌∷◌, Option, Some, None}
use Rattle.oss_syntax.specs.declared.access.Access.{Access}
use Rattle.oss_model.specs.Bodies.{Act, Order, Program}
use Rattle.oss_model.specs.Bodies.Act.{Ticked, Created, Awaited, Waited, WaitedOn, Releases, Ended}
use Rattle.oss_model.specs.Context.{right_of}
use Rattle.oss_model.specs.Machine.{At, State, Task}
use Rattle.oss_model.specs.Order.{IsIn, written}
use Rattle.oss_model.specs.Rights.{Right, NoRight, Holds}
use Rattle.oss_meaning.specs.Clauses.{waited_for}
use Rattle.oss_meaning.specs.Sections.{declared_on}
use Rattle.oss_chain_laws.specs.Happenings.{Does}
use Rattle.oss_span_check.specs.declared.note.Made.{Made}
use Rattle.oss_span_check.specs.declared.note.Note.{Note}
use Rattle.oss_span_check.specs.declared.note.What.{What}
use Rattle.oss_span_check.specs.declared.note.What.TheVariants as what
use Rattle.oss_span_check.specs.declared.record.Record.{Record}
use Rattle.oss_span_check.specs.Queries.{access_in}

-- This is noted of the act.
abbrev pub IsSeen : {S : Type 0} → What → Act S → Type 0
IsSeen what.Tick a = a ≡ Ticked
IsSeen what.Wait a = a ≡ Waited
IsSeen what.Await a = a ≡ Awaited
IsSeen (what.WaitOn ranges) a = a ≡ WaitedOn (declared_on waited_for ranges)
IsSeen (what.Release clauses) a = a ≡ Releases clauses false
IsSeen what.End a = a ≡ Ended

-- The act is one that is noted.
abbrev pub IsNoted : {S : Type 0} → Act S → Type 0
IsNoted Ticked = Unit {0}
IsNoted Waited = Unit {0}
IsNoted Awaited = Unit {0}
IsNoted (WaitedOn named) = Unit {0}
IsNoted (Releases clauses false) = Unit {0}
IsNoted Ended = Unit {0}
IsNoted _ = ⊥

-- The note is of an act that is done.
pub record IsNoteSo {S : Type 0} (P : Program S) (s : State S) (x : Note) : Type 0 where
  pub path : List ℕ
  pub created : ℕ
  pub act : Act S
  pub point : x.point ≡ written path
  pub does : Does P s path x.number created act
  pub seen : IsSeen x.what act

-- There is a note of the act with this number of the task at this path.
pub record HasNote (notes : List Note) (p : List ℕ) (n : ℕ) : Type 0 where
  pub note : Note
  pub listed : IsIn note notes
  pub point : note.point ≡ written p
  pub number : note.number ≡ n

-- The notes are of two acts.
abbrev pub AreTwo : Note → Note → Type 0
AreTwo x y = x.point ≡ y.point → x.number ≡ y.number → ⊥

-- Each act has one note at most.
abbrev pub AreOnce : List Note → Type 0
AreOnce [] = Unit {0}
AreOnce (x ∷ xs) = ((y : Note) → IsIn y xs → AreTwo x y) × AreOnce xs

-- The right that an access gives.
abbrev pub right_by : Option Access → Right
right_by None = NoRight
right_by (Some a) = Holds a.mode a.strong

-- What a task has to a cell at its start: what this access says.
abbrev pub IsRight : Right → Option Access → Type 0
IsRight (Holds mode strong) access = right_by access ≡ Holds mode strong
IsRight _ access = access ≡ None

-- What is noted of a task is so.
pub record IsMadeSo {S : Type 0} (P : Program S) (s : State S) (m : Made) : Type 0 where
  pub number : ℕ
  pub path : List ℕ
  pub task : Task S
  pub order : Order S
  pub point : m.point ≡ written (number ∷ path)
  pub at_ : At s (number ∷ path) task
  pub does : Does P s path m.number number (Created order false)
  pub wait : m.wait ≡ task.body.start.order.wait
  pub rights : (c : ℕ) → IsRight (right_of task.body.start.context c) (access_in m.accesses c)

-- There is a note of the task at this path.
pub record HasMade (made : List Made) (p : List ℕ) : Type 0 where
  pub item : Made
  pub listed : IsIn item made
  pub point : item.point ≡ written p

-- The record tells of this state.
pub record IsRecord {S : Type 0} (P : Program S) (s : State S) (r : Record) : Type 0 where
  pub notes_so : (x : Note) → IsIn x r.notes → IsNoteSo P s x
  pub noted : (p : List ℕ) (n k : ℕ) (a : Act S) → Does P s p n k a → IsNoted a → HasNote r.notes p n
  pub once : AreOnce r.notes
  pub made_so : (m : Made) → IsIn m r.made → IsMadeSo P s m
  pub made : (k : ℕ) (p : List ℕ) (t : Task S) → At s (k ∷ p) t → HasMade r.made (k ∷ p)
