-- The rule of a field: how its words, slots and views stand for one state of the machine, between any two steps of all seats.
-- Read against: main's job is held by a seat, whose view bears 0 with no path, and stands before the creation of the task 7 of `Roles`, which
-- the same seat makes. Until it is opened, the state has main alone; the entries 7, 8 and 9 have roles and are linked one after the other, and
-- the count of 7 is 1 more than what it waits for. The count down that opens it is the machine's step: the state has the task 0 ∷ [] then,
-- whose job stands in slot 7, and main's body has one answer more.
use Rattle.std.specs.Prelude.{◌≡◌, ◌≢◌, ◌⊎◌, ◌<◌, ◌+◌, ℕ, Bool, true, false, ◌==◌, List, [], ◌∷◌, map, slice_index, Option, Some, None}
use mathlib.Core.Option as maybe
use lib.ListN.{get_elem?}
use Rattle.oss_syntax.specs.declared.access.Mode.{Mode}
use Rattle.oss_syntax.specs.declared.access.Mode.TheVariants.{Fold}
use Rattle.oss_syntax.specs.declared.access.Op.{Op}
use Rattle.oss_model.specs.Agreement.{Setting}
use Rattle.oss_model.specs.Bodies.{Order, Program, Start, Body}
use Rattle.oss_model.specs.Bodies.Act.{Created, Folded}
use Rattle.oss_model.specs.Context.{right_of}
use Rattle.oss_model.specs.Machine.{Task, State, At, HasGiven, IsReady}
use Rattle.oss_model.specs.Moves.{act_now, created_now, is_ended, slot_of, new_task, WaitClause, Reached}
use Rattle.oss_model.specs.Rights.{Holds}
use Rattle.oss_words.specs.declared.entry.EntryState.{EntryState}
use Rattle.oss_words.specs.declared.entry.EntryInfo.{EntryInfo}
use Rattle.oss_words.specs.Grown.{Grown}
use Rattle.oss_words.specs.Members.{Has}
use Rattle.oss_words.specs.Net.{Net, apart}
use Rattle.oss_words.specs.Rule.{Kept}
use Rattle.oss_words.specs.Sums.{total, num}
use Rattle.oss_words.specs.Views.{View, Seen, Among}
use Rattle.oss_roles.specs.Counting.{AreCounts}
use Rattle.oss_roles.specs.Numbers.{entry_number}
use Rattle.oss_roles.specs.Roles.{Role, Site, itself, on, AreRoles, AreFiled, AreGiven}
use Rattle.oss_roles.specs.Sights.{Bearing, Making, Noted, Fixed, Sight, Telling}

-- The words of a field apart from where they lie: of each entry, and the cells of the program.
pub record Parts (J : Type 0) : Type 0 where
  pub states : ℕ → EntryState
  pub infos : ℕ → EntryInfo
  -- the value that is left for a join, and the number of the cell
  pub values : ℕ → ℕ
  pub cell_of : ℕ → ℕ
  pub counts : ℕ → ℕ
  -- 0: the slot is at home and empty; 1: at home with a job; 2: out
  pub bodies : ℕ → ℕ
  -- the job that stands in a slot at home
  pub jobs : ℕ → Option J
  pub cells : List ℕ

-- What the rule of the words reads of the views.
abbrev pub words_of : {S : Type 0} → List (Sight S) → List View
words_of = map (λ v. v.words)

-- The seat of this number has this view.
abbrev pub Sits : {S : Type 0} → List (Sight S) → ℕ → Sight S → Type 0
Sits sights id v = get_elem? sights id ≡ maybe.some v

-- The seat holds this job, at this place.
abbrev pub Bears : {S : Type 0} → Sight S → ℕ → Bearing S → Type 0
Bears v i b = get_elem? v.bears i ≡ maybe.some b

-- How often a number stands in a list.
abbrev pub times : ℕ → List ℕ → ℕ
times t [] = 0
times t (x ∷ xs) = num (x == t) + times t xs

-- How many count downs of the task are owed.
abbrev pub owed_by_all : {S : Type 0} → List (Sight S) → ℕ → ℕ
owed_by_all sights t = total (λ v. times t v.owes) sights

-- The numbers of the tasks whose jobs these are.
abbrev pub numbers_of : {S : Type 0} → List (Bearing S) → List ℕ
numbers_of = map (λ b. b.number)

-- How often the job of a task is held.
abbrev pub held_by_all : {S : Type 0} → List (Sight S) → ℕ → ℕ
held_by_all sights t = total (λ v. times t (numbers_of v.bears)) sights

-- Some seat has joined the slot of the entry, and has not given it up yet.
pub data IsJoined {S : Type 0} (sights : List (Sight S)) (e : ℕ) : Type 0 where
  is_joined : (id : ℕ) (v : Sight S) → Sits sights id v → Among e v.joined → IsJoined sights e

-- Some seat is making the task.
pub data IsMaking {S : Type 0} (sights : List (Sight S)) (t : ℕ) : Type 0 where
  is_making : (id : ℕ) (v : Sight S) → Sits sights id v → (m : Making) → Among m v.makes → m.task ≡ t → IsMaking sights t

-- The number and the path are those of one task: main's are 0 and none.
pub data IsNumberOf (role : ℕ → Option Role) : ℕ → List ℕ → Type 0 where
  of_main : IsNumberOf role 0 []
  of_entry : {t : ℕ} {p : List ℕ} (r : Role) → role t ≡ Some r → r.site ≡ itself → r.path ≡ p → IsNumberOf role t p

-- The last children that are told of a task are the last that hang, but for a task that is being made.
pub record AreLast {S : Type 0} (sights : List (Sight S)) (net : Net) (role : ℕ → Option Role) (p : List ℕ) (last : Site → Option ℕ)
    : Type 0 where
  pub some : (y : Site) (o : ℕ) → last y ≡ Some o
      → (r : Role) × (k : ℕ) × (role o ≡ Some r) × (net.place o ≢ apart) × (r.path ≡ k ∷ p) × (r.site ≡ y)
      × ((f : ℕ) (q : Role) (j : ℕ) → role f ≡ Some q → net.place f ≢ apart → q.path ≡ j ∷ p → q.site ≡ y → (IsMaking sights q.task → ⊥)
      → (f ≡ o) ⊎ (j < k))
  pub none : (y : Site) → last y ≡ None
      → (f : ℕ) (q : Role) (j : ℕ) → role f ≡ Some q → net.place f ≢ apart → q.path ≡ j ∷ p → q.site ≡ y → IsMaking sights q.task

-- Where the job of a task of the state stands: at home, or with one seat.
pub data IsSomewhere {S J : Type 0} (is_job : Telling S J) (k : Parts J) (sights : List (Sight S)) (net : Net) (role : ℕ → Option Role)
    (t : ℕ) (p : List ℕ) (b : Body S) : Type 0 where
  at_home : (j : J) (last : Site → Option ℕ) → k.bodies t ≡ 1 → k.jobs t ≡ Some j → is_job j t b last → AreLast sights net role p last
      → held_by_all sights t ≡ 0 → IsSomewhere is_job k sights net role t p b
  is_out : k.bodies t ≡ 2 → k.jobs t ≡ None → held_by_all sights t ≡ 1 → IsSomewhere is_job k sights net role t p b

-- What a seat that holds a job knows of its task.
pub record IsBorne {S : Type 0} (s : State S) (sights : List (Sight S)) (net : Net) (role : ℕ → Option Role) (b : Bearing S) : Type 0 where
  pub number : IsNumberOf role b.number b.path
  pub task : Task S
  pub at_ : At s b.path task
  pub body : task.body ≡ b.body
  pub ready : IsReady s b.path b.body.start.context
  pub last : AreLast sights net role b.path b.last

-- Where the job of a task stands while it is being made.
pub data IsPut {S J : Type 0} (is_job : Telling S J) (k : Parts J) (m : Making) (b : Body S) : Type 0 where
  not_put : m.stage ≡ 0 → k.bodies m.task ≡ 0 → k.jobs m.task ≡ None → IsPut is_job k m b
  going : m.stage ≡ 1 → k.bodies m.task ≡ 2 → k.jobs m.task ≡ None → IsPut is_job k m b
  is_put : (j : J) → m.stage ≡ 2 → k.bodies m.task ≡ 1 → k.jobs m.task ≡ Some j → is_job j m.task b (λ y. None)
      → IsPut is_job k m b

-- A new task that is being made: the creation is the next act of its creator, whose job the seat holds; its entries have their roles; it is
-- not there yet.
pub record IsMade {S J : Type 0} (P : Program S) (is_job : Telling S J) (k : Parts J) (net : Net) (role : ℕ → Option Role)
    (opened : ℕ → Bool) (v : Sight S) (m : Making) : Type 0 where
  pub creator : Bearing S
  pub place : ℕ
  pub held : Bears v place creator
  pub by : creator.number ≡ m.by
  pub order : Order S
  pub act : act_now P creator.body ≡ Created order false
  pub closed : opened m.task ≡ false
  pub own : (r : Role) × (role m.task ≡ Some r) × (r.path ≡ created_now P creator.body ∷ creator.path) × (r.site ≡ itself)
      × (r.task ≡ m.task)
  pub access : (c : ℕ) (mode : Mode) (strong : Bool) → right_of (new_task P creator.body order).body.start.context c ≡ Holds mode strong
      → (e : ℕ) × (r : Role) × (role e ≡ Some r) × (r.path ≡ created_now P creator.body ∷ creator.path) × (r.site ≡ on c)
      × (r.task ≡ m.task) × (r.mode ≡ mode) × (r.strong ≡ strong)
      × (e ≡ entry_number m.task (right_of (new_task P creator.body order).body.start.context) c)
  pub job : IsPut is_job k m (new_task P creator.body order).body

-- A reduction that was left: its task has ended and may give up the cell, and the value beside the word is that of the task's slot.
pub record IsLeft {S : Type 0} (P : Program S) (s : State S) (values : ℕ → ℕ) (e : ℕ) (r : Role) : Type 0 where
  pub cell : ℕ
  pub site : r.site ≡ on cell
  pub op : Op
  pub task : Task S
  pub at_ : At s r.path task
  pub right : right_of task.body.start.context cell ≡ Holds (Fold op) true
  pub ended : is_ended P task.body ≡ true
  pub wait : WaitClause P s r.path task
  pub value : values e ≡ slot_of P task.body.start cell op task.body.found

-- The fold into a cell that stands next in a job which its seat holds: the cell is as its last load found it.
pub record IsPending {S : Type 0} (P : Program S) (cells : List ℕ) (v : Sight S) (x : Noted) : Type 0 where
  pub bearing : Bearing S
  pub place : ℕ
  pub held : Bears v place bearing
  pub number : bearing.number ≡ x.name
  pub cell : ℕ
  pub op : Op
  pub operand : ℕ
  pub act : act_now P bearing.body ≡ Folded cell op operand false
  pub value : slice_index cells cell ≡ x.value

-- What was read of an entry of a job that the seat holds is still so: whether its value is left, and but for a strong reduction that is left
-- whether it is given up; and so is the value beside it.
pub record IsStill {S : Type 0} (role : ℕ → Option Role) (states : ℕ → EntryState) (values : ℕ → ℕ) (v : Sight S) (x : Fixed) : Type 0 where
  pub bearing : Bearing S
  pub place : ℕ
  pub held : Bears v place bearing
  pub it : Role
  pub is : role x.entry ≡ Some it
  pub path : it.path ≡ bearing.path
  pub left : (states x.entry).left ≡ x.state.left
  pub given : ((op : Op) → it.mode ≡ Fold op → it.strong ≡ true → x.state.left ≡ true → ⊥) → (states x.entry).given ≡ x.state.given
  pub value : (z : ℕ) → x.value ≡ Some z → values x.entry ≡ z

-- The entry is that of a cell which its task has given up.
pub record IsTaken {S : Type 0} (s : State S) (role : ℕ → Option Role) (e : ℕ) : Type 0 where
  pub it : Role
  pub is : role e ≡ Some it
  pub cell : ℕ
  pub site : it.site ≡ on cell
  pub given : HasGiven s cell it.path

-- The rule, of n entries, of what stands in the table and of the views of all seats: of the links and gives, of the entries' roles, and of the
-- state for which they stand.
pub record Field {S J : Type 0} (P : Program S) (main : Start S) (first : List ℕ) (is_job : Telling S J) (n : ℕ) (k : Parts J)
    (sights : List (Sight S)) : Type 0 where
  pub net : Net
  pub gave : ℕ → Bool
  pub role : ℕ → Option Role
  pub opened : ℕ → Bool
  pub state : State S
  -- the entry words keep their rule
  pub words : Kept n net gave k.states k.infos (words_of sights)
  pub gave_hangs : (e : ℕ) → gave e ≡ true → net.place e ≢ apart
  -- the slot of an entry that has no role is empty
  pub unused : (e : ℕ) → e ≢ 0 → role e ≡ None → (k.bodies e ≡ 0) × (k.jobs e ≡ None)
  -- they stand for the state
  pub roles : AreRoles net k.infos role
  pub filed : AreFiled state net role
  pub given : AreGiven P state net role gave (IsJoined sights)
  pub counts : AreCounts state n net role k.states opened (owed_by_all sights) k.counts
  pub cells : state.cells ≡ k.cells
  -- a role is that of a task which is there, or is being made
  pub planned : (e : ℕ) (r : Role) → role e ≡ Some r → ((u : Task S) × At state r.path u) ⊎ IsMaking sights r.task
  -- the job of each task stands somewhere; what seats hold is so, and what they make
  pub somewhere : (t : ℕ) (p : List ℕ) (u : Task S) → IsNumberOf role t p → At state p u → IsSomewhere is_job k sights net role t p u.body
  pub borne : (id : ℕ) (v : Sight S) → Sits sights id v → (i : ℕ) (b : Bearing S) → Bears v i b → IsBorne state sights net role b
  pub made : (id : ℕ) (v : Sight S) → Sits sights id v → (m : Making) → Among m v.makes → IsMade P is_job k net role opened v m
  -- a value that is left for a join
  pub left : (e : ℕ) (r : Role) → role e ≡ Some r → (k.states e).left ≡ true → IsLeft P state k.values e r
  -- the cell word of a linked entry
  pub numbered : (e c : ℕ) (r : Role) → role e ≡ Some r → net.place e ≢ apart → r.site ≡ on c → k.cell_of e ≡ c
  -- what seats have begun, and what they have read
  pub loaded : (id : ℕ) (v : Sight S) → Sits sights id v → (x : Noted) → Among x v.loaded → IsPending P k.cells v x
  pub joined : (id : ℕ) (v : Sight S) → Sits sights id v → (e : ℕ) → Among e v.joined → Has (record { entry = e; flag = 0 }) v.words.held
  pub joined_given : (id : ℕ) (v : Sight S) → Sits sights id v → (e : ℕ) → Among e v.joined → IsTaken state role e
  pub ready : (id : ℕ) (v : Sight S) → Sits sights id v → (t : ℕ) → Among t v.ready
      → (p : List ℕ) × (u : Task S) × IsNumberOf role t p × At state p u × IsReady state p u.body.start.context
  pub seen : (id : ℕ) (v : Sight S) → Sits sights id v → (x : Seen) → Among x v.seen → Grown x.state (k.states x.entry)
  pub still : (id : ℕ) (v : Sight S) → Sits sights id v → (x : Fixed) → Among x v.still → IsStill role k.states k.values v x
  -- the state is one of a run
  pub setting : Setting main first
  pub reached : Reached P main first state

-- The rule with this net, these gives and these roles: what is so after a step.
pub record FieldAt {S J : Type 0} (P : Program S) (main : Start S) (first : List ℕ) (is_job : Telling S J) (n : ℕ) (net : Net)
    (gave : ℕ → Bool) (role : ℕ → Option Role) (k : Parts J) (sights : List (Sight S)) : Type 0 where
  pub field : Field P main first is_job n k sights
  pub same_net : field.net ≡ net
  pub same_gave : field.gave ≡ gave
  pub same_role : field.role ≡ role
