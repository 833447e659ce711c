-- The laws of the rule of a field: it holds at the start and at rest, each kind of step keeps it, and what it gives. A step that is one of the
-- machine takes the field to another state of the same run; all others leave the state as it is, but that a job given to them may go on.
-- Read against: the task 7 of `Roles`. Main makes it, and its count is read as 0 after a delivery and a count down; it is taken, loads 5, ends,
-- gives up 8, 9 and then 7, and its job is put back. Each of the steps is a case of one claim here, and after each the words stand for a state
-- that the machine can reach.
use Rattle.std.specs.Prelude.{◌≡◌, ◌≢◌, ◌<◌, ◌≤◌, ℕ, Bool, false, List, [], ◌∷◌, ◌++◌, set, slice_index, slice_set, Option, Some, None}
use Rattle.oss_syntax.specs.declared.access.Mode.{Mode}
use Rattle.oss_syntax.specs.declared.access.Op.{Op}
use Rattle.oss_model.specs.Agreement.{Setting}
use Rattle.oss_model.specs.Bodies.{Order, Program, Start, Body}
use Rattle.oss_model.specs.Bodies.Act.{Created}
use Rattle.oss_model.specs.Context.{right_of}
use Rattle.oss_model.specs.Machine.{Task, State, At, IsReady}
use Rattle.oss_model.specs.Moves.{combine, act_now, created_now, new_task, Reached}
use Rattle.oss_model.specs.Rights.{Holds}
use Rattle.oss_words.specs.declared.entry.EntryState.{EntryState}
use Rattle.oss_words.specs.declared.entry.EntryInfo.{EntryInfo}
use Rattle.oss_words.specs.declared.message.Message.{Message}
use Rattle.oss_words.specs.Net.{Net, bare}
use Rattle.oss_words.specs.Views.{View, Among}
use Rattle.oss_roles.specs.Alone.{GoesAlone}
use Rattle.oss_roles.specs.Field.{Parts, Field, FieldAt, Sits, Bears, held_by_all, IsNumberOf}
use Rattle.oss_roles.specs.JobSteps.{Loads, Stores, GoesOn, GivesCell, GivesOwn, WritesValue, LeavesValue}
use Rattle.oss_roles.specs.MakeSteps.{FillsEntry, PlansTask, LinksEntry, OpensTask}
use Rattle.oss_roles.specs.Numbers.{entry_number}
use Rattle.oss_roles.specs.Passing.{MayGo}
use Rattle.oss_roles.specs.Rest.{idle, AtRest, StandsAtHome}
use Rattle.oss_roles.specs.Roles.{Role, Site, itself, on, Filed}
use Rattle.oss_roles.specs.Sights.{Bearing, Making, Sight, Telling}
use Rattle.oss_roles.specs.SlotSteps.{Takes, Taken, Puts, FirstPuts}
use Rattle.oss_roles.specs.Starts.{IsFirst, first_sight}
use Rattle.oss_roles.specs.WordSteps.{IsEmpty, HoldsAsBefore, ReadsCount, ReadsWord, DeliversFlag, CountsDown, LinksLast, JoinsCell, GivesJoined}

-- The rule holds at the start, if main's job stands in slot 0.
abbrev pub StartsKeep : (S J : Type 0) → Telling S J → Type 0
StartsKeep S J is_job = (P : Program S) (main : Start S) (first : List ℕ) (n : ℕ) (k : Parts J) (j : J)
    → Setting main first
    → 0 < n → n ≤ 16777216
    → is_job j 0 (record { start = main; found = [] }) (λ y. None)
    → IsFirst n k j first
    → FieldAt P main first is_job n bare (λ e. false) (λ e. None) k (first_sight ∷ [])

-- It holds at any state of a run, if the words and slots are at rest there.
abbrev pub RestsKeep : (S J : Type 0) → Telling S J → Type 0
RestsKeep S J is_job = (P : Program S) (main : Start S) (first : List ℕ) (n : ℕ) (net : Net) (gave : ℕ → Bool) (role : ℕ → Option Role)
    (k : Parts J) (v : View) (s : State S)
    → Setting main first
    → Reached P main first s
    → AtRest P is_job n net gave role k v s
    → FieldAt P main first is_job n net gave role k (idle v ∷ [])

-- If no seat holds a job, each task of the state stands in its slot, with its body and its last children.
abbrev pub AllStandAtHome : (S J : Type 0) → Telling S J → Type 0
AllStandAtHome S J is_job = (P : Program S) (main : Start S) (first : List ℕ) (n : ℕ) (k : Parts J) (sights : List (Sight S))
    (f : Field P main first is_job n k sights) (p : List ℕ) (u : Task S)
    → ((t : ℕ) → held_by_all sights t ≡ 0)
    → At f.state p u
    → StandsAtHome is_job k f.role p u

-- A field whose one seat knows of nothing but the words is at rest, if no value is left.
abbrev pub IdleFieldsRest : (S J : Type 0) → Telling S J → Type 0
IdleFieldsRest S J is_job = (P : Program S) (main : Start S) (first : List ℕ) (n : ℕ) (k : Parts J) (v : View)
    (f : Field P main first is_job n k (idle v ∷ []))
    → ((e : ℕ) → (k.states e).left ≡ false)
    → AtRest P is_job n f.net f.gave f.role k v f.state

-- A step by which a seat holds what it held and knows no more.
abbrev pub QuietStepsKeep : (S J : Type 0) → Telling S J → Type 0
QuietStepsKeep S J is_job = (P : Program S) (main : Start S) (first : List ℕ) (n : ℕ) (k : Parts J) (sights : List (Sight S))
    (f : Field P main first is_job n k sights) (id : ℕ) (v w : Sight S)
    → Sits sights id v
    → HoldsAsBefore v w
    → FieldAt P main first is_job n f.net f.gave f.role k (set sights id w)

-- A seat more, with a view that holds and knows nothing.
abbrev pub NewSeatsKeep : (S J : Type 0) → Telling S J → Type 0
NewSeatsKeep S J is_job = (P : Program S) (main : Start S) (first : List ℕ) (n : ℕ) (k : Parts J) (sights : List (Sight S))
    (f : Field P main first is_job n k sights) (x : Sight S)
    → IsEmpty x
    → FieldAt P main first is_job n f.net f.gave f.role k (sights ++ x ∷ [])

-- A read of a count that is 0.
abbrev pub CountReadsKeep : (S J : Type 0) → Telling S J → Type 0
CountReadsKeep S J is_job = (P : Program S) (main : Start S) (first : List ℕ) (n : ℕ) (k : Parts J) (sights : List (Sight S))
    (f : Field P main first is_job n k sights) (id : ℕ) (v w : Sight S) (t : ℕ)
    → ReadsCount f id v w t
    → FieldAt P main first is_job n f.net f.gave f.role k (set sights id w)

-- A read of the word of an entry.
abbrev pub WordReadsKeep : (S J : Type 0) → Telling S J → Type 0
WordReadsKeep S J is_job = (P : Program S) (main : Start S) (first : List ℕ) (n : ℕ) (k : Parts J) (sights : List (Sight S))
    (f : Field P main first is_job n k sights) (id : ℕ) (v w : Sight S) (e : ℕ)
    → ReadsWord f id v w e
    → FieldAt P main first is_job n f.net f.gave f.role k (set sights id w)

-- A job is taken.
abbrev pub TakesKeep : (S J : Type 0) → Telling S J → Type 0
TakesKeep S J is_job = (P : Program S) (main : Start S) (first : List ℕ) (n : ℕ) (k : Parts J) (sights : List (Sight S))
    (f : Field P main first is_job n k sights) (id : ℕ) (v : Sight S) (t : ℕ) (bodies' : ℕ → ℕ) (jobs' : ℕ → Option J)
    → Takes f id v t bodies' jobs'
    → Taken f id v t bodies' jobs'

-- A job is put back.
abbrev pub PutsKeep : (S J : Type 0) → Telling S J → Type 0
PutsKeep S J is_job = (P : Program S) (main : Start S) (first : List ℕ) (n : ℕ) (k : Parts J) (sights : List (Sight S))
    (f : Field P main first is_job n k sights)
    (id : ℕ) (v w : Sight S) (d : Bearing S) (j : J) (bodies' : ℕ → ℕ) (jobs' : ℕ → Option J)
    → Puts f id v w d j bodies' jobs'
    → FieldAt P main first is_job n f.net f.gave f.role (record k { bodies = bodies'; jobs = jobs' }) (set sights id w)

-- A step of the first put of a new job.
abbrev pub FirstPutsKeep : (S J : Type 0) → Telling S J → Type 0
FirstPutsKeep S J is_job = (P : Program S) (main : Start S) (first : List ℕ) (n : ℕ) (k : Parts J) (sights : List (Sight S))
    (f : Field P main first is_job n k sights)
    (id : ℕ) (v w : Sight S) (i : ℕ) (b : Bearing S) (order : Order S) (m m' : Making) (bodies' : ℕ → ℕ)
    (jobs' : ℕ → Option J)
    → FirstPuts f id v w i b order m m' bodies' jobs'
    → FieldAt P main first is_job n f.net f.gave f.role (record k { bodies = bodies'; jobs = jobs' }) (set sights id w)

-- The fill of a new task's count, by which its entries have their roles.
abbrev pub PlansKeep : (S J : Type 0) → Telling S J → Type 0
PlansKeep S J is_job = (P : Program S) (main : Start S) (first : List ℕ) (n : ℕ) (k : Parts J) (sights : List (Sight S))
    (f : Field P main first is_job n k sights)
    (id : ℕ) (v w : Sight S) (i : ℕ) (b : Bearing S) (order : Order S) (t : ℕ) (role' : ℕ → Option Role) (m : Making)
    (counts' : ℕ → ℕ)
    → PlansTask f id v w i b order t role' m counts'
    → FieldAt P main first is_job n f.net f.gave role' (record k { counts = counts' }) (set sights id w)

-- A fill of words of an entry that hangs nowhere.
abbrev pub FillsKeep : (S J : Type 0) → Telling S J → Type 0
FillsKeep S J is_job = (P : Program S) (main : Start S) (first : List ℕ) (n : ℕ) (k : Parts J) (sights : List (Sight S))
    (f : Field P main first is_job n k sights)
    (e : ℕ) (states' : ℕ → EntryState) (infos' : ℕ → EntryInfo) (cell_of' : ℕ → ℕ)
    → FillsEntry f e states' infos' cell_of'
    → FieldAt P main first is_job n f.net f.gave f.role (record k { states = states'; infos = infos'; cell_of = cell_of' }) sights

-- The link of an entry of a new task.
abbrev pub LinksKeep : (S J : Type 0) → Telling S J → Type 0
LinksKeep S J is_job = (P : Program S) (main : Start S) (first : List ℕ) (n : ℕ) (k : Parts J) (sights : List (Sight S))
    (f : Field P main first is_job n k sights)
    (id : ℕ) (v w : Sight S) (i : ℕ) (b : Bearing S) (m : Making) (e : ℕ) (r : Role) (net' : Net) (states' : ℕ → EntryState)
    → LinksEntry f id v w i b m e r net' states'
    → FieldAt P main first is_job n net' f.gave f.role (record k { states = states' }) (set sights id w)

-- The count down that opens a task: the machine's step of the creation.
abbrev pub OpeningsKeep : (S J : Type 0) → Telling S J → Type 0
OpeningsKeep S J is_job = (P : Program S) (main : Start S) (first : List ℕ) (n : ℕ) (k : Parts J) (sights : List (Sight S))
    (f : Field P main first is_job n k sights)
    (id : ℕ) (v w : Sight S) (i : ℕ) (b c : Bearing S) (m : Making) (counts' : ℕ → ℕ)
    → OpensTask f id v w i b c m counts'
    → FieldAt P main first is_job n f.net f.gave f.role (record k { counts = counts' }) (set sights id w)

-- A load: the machine's step.
abbrev pub LoadsKeep : (S J : Type 0) → Telling S J → Type 0
LoadsKeep S J is_job = (P : Program S) (main : Start S) (first : List ℕ) (n : ℕ) (k : Parts J) (sights : List (Sight S))
    (f : Field P main first is_job n k sights)
    (id : ℕ) (v w : Sight S) (i : ℕ) (b c : Bearing S) (x : Body S) (cell : ℕ)
    → Loads f id v w i b c x cell
    → FieldAt P main first is_job n f.net f.gave f.role k (set sights id w)

-- A store, or the second half of a fold into a cell: the machine's step.
abbrev pub StoresKeep : (S J : Type 0) → Telling S J → Type 0
StoresKeep S J is_job = (P : Program S) (main : Start S) (first : List ℕ) (n : ℕ) (k : Parts J) (sights : List (Sight S))
    (f : Field P main first is_job n k sights)
    (id : ℕ) (v w : Sight S) (i : ℕ) (b c : Bearing S) (x : Body S) (cells' : List ℕ)
    → Stores f id v w i b c x cells'
    → FieldAt P main first is_job n f.net f.gave f.role (record k { cells = cells' }) (set sights id w)

-- Own acts of a job alone.
abbrev pub OwnActsKeep : (S J : Type 0) → Telling S J → Type 0
OwnActsKeep S J is_job = (P : Program S) (main : Start S) (first : List ℕ) (n : ℕ) (k : Parts J) (sights : List (Sight S))
    (f : Field P main first is_job n k sights) (id : ℕ) (v w : Sight S) (i : ℕ) (b c : Bearing S) (x : Body S)
    → GoesOn f id v w i b c x
    → FieldAt P main first is_job n f.net f.gave f.role k (set sights id w)

-- The give of a cell: the machine lets it go.
abbrev pub GivesKeep : (S J : Type 0) → Telling S J → Type 0
GivesKeep S J is_job = (P : Program S) (main : Start S) (first : List ℕ) (n : ℕ) (k : Parts J) (sights : List (Sight S))
    (f : Field P main first is_job n k sights)
    (id : ℕ) (v w : Sight S) (i : ℕ) (b c : Bearing S) (x : Body S)
    (e : ℕ) (r : Role) (states' : ℕ → EntryState) (gave' : ℕ → Bool) (cell : ℕ) (mode : Mode) (strong : Bool)
    → GivesCell f id v w i b c x e r states' gave' cell mode strong
    → FieldAt P main first is_job n f.net gave' f.role (record k { states = states' }) (set sights id w)

-- The give of a task's own entry.
abbrev pub OwnGivesKeep : (S J : Type 0) → Telling S J → Type 0
OwnGivesKeep S J is_job = (P : Program S) (main : Start S) (first : List ℕ) (n : ℕ) (k : Parts J) (sights : List (Sight S))
    (f : Field P main first is_job n k sights)
    (id : ℕ) (v w : Sight S) (i : ℕ) (b c : Bearing S) (x : Body S)
    (e : ℕ) (r : Role) (states' : ℕ → EntryState) (gave' : ℕ → Bool)
    → GivesOwn f id v w i b c x e r states' gave'
    → FieldAt P main first is_job n f.net gave' f.role (record k { states = states' }) (set sights id w)

-- The second step of a give.
abbrev pub LastLinksKeep : (S J : Type 0) → Telling S J → Type 0
LastLinksKeep S J is_job = (P : Program S) (main : Start S) (first : List ℕ) (n : ℕ) (k : Parts J) (sights : List (Sight S))
    (f : Field P main first is_job n k sights) (id : ℕ) (v w : Sight S) (e : ℕ) (states' : ℕ → EntryState)
    → LinksLast f id v w e states'
    → FieldAt P main first is_job n f.net f.gave f.role (record k { states = states' }) (set sights id w)

-- A value is written beside the word of an entry.
abbrev pub ValuesKeep : (S J : Type 0) → Telling S J → Type 0
ValuesKeep S J is_job = (P : Program S) (main : Start S) (first : List ℕ) (n : ℕ) (k : Parts J) (sights : List (Sight S))
    (f : Field P main first is_job n k sights)
    (id : ℕ) (v w : Sight S) (i : ℕ) (b c : Bearing S) (x : Body S)
    (e : ℕ) (r : Role) (value : ℕ) (values' : ℕ → ℕ)
    → WritesValue f id v w i b c x e r value values'
    → FieldAt P main first is_job n f.net f.gave f.role (record k { values = values' }) (set sights id w)

-- The value of a reduction is left for a join.
abbrev pub LeavesKeep : (S J : Type 0) → Telling S J → Type 0
LeavesKeep S J is_job = (P : Program S) (main : Start S) (first : List ℕ) (n : ℕ) (k : Parts J) (sights : List (Sight S))
    (f : Field P main first is_job n k sights)
    (id : ℕ) (v w : Sight S) (i : ℕ) (b c : Bearing S) (x : Body S)
    (e : ℕ) (r : Role) (states' : ℕ → EntryState) (cell : ℕ) (op : Op)
    → LeavesValue f id v w i b c x e r states' cell op
    → FieldAt P main first is_job n f.net f.gave f.role (record k { states = states' }) (set sights id w)

-- A value that was left is joined into its cell: the machine's join.
abbrev pub JoinsKeep : (S J : Type 0) → Telling S J → Type 0
JoinsKeep S J is_job = (P : Program S) (main : Start S) (first : List ℕ) (n : ℕ) (k : Parts J) (sights : List (Sight S))
    (f : Field P main first is_job n k sights) (id : ℕ) (v w : Sight S) (e cell : ℕ) (op : Op)
    → JoinsCell f id v w e cell op
    → FieldAt P main first is_job n f.net f.gave f.role
    (record k { cells = slice_set k.cells cell (combine op (slice_index k.cells cell) (k.values e)) }) (set sights id w)

-- The entry whose value was joined is given up.
abbrev pub JoinedGivesKeep : (S J : Type 0) → Telling S J → Type 0
JoinedGivesKeep S J is_job = (P : Program S) (main : Start S) (first : List ℕ) (n : ℕ) (k : Parts J) (sights : List (Sight S))
    (f : Field P main first is_job n k sights)
    (id : ℕ) (v w : Sight S) (e : ℕ) (states' : ℕ → EntryState) (gave' : ℕ → Bool)
    → GivesJoined f id v w e states' gave'
    → FieldAt P main first is_job n f.net gave' f.role (record k { states = states' }) (set sights id w)

-- A delivery.
abbrev pub DeliveriesKeep : (S J : Type 0) → Telling S J → Type 0
DeliveriesKeep S J is_job = (P : Program S) (main : Start S) (first : List ℕ) (n : ℕ) (k : Parts J) (sights : List (Sight S))
    (f : Field P main first is_job n k sights)
    (id : ℕ) (v w : Sight S) (m : Message) (rest : List Message) (states' : ℕ → EntryState)
    → DeliversFlag f id v w m rest states'
    → FieldAt P main first is_job n f.net f.gave f.role (record k { states = states' }) (set sights id w)

-- A count down that is owed.
abbrev pub CountDownsKeep : (S J : Type 0) → Telling S J → Type 0
CountDownsKeep S J is_job = (P : Program S) (main : Start S) (first : List ℕ) (n : ℕ) (k : Parts J) (sights : List (Sight S))
    (f : Field P main first is_job n k sights) (id : ℕ) (v w : Sight S) (t : ℕ) (counts' : ℕ → ℕ)
    → CountsDown f id v w t counts'
    → FieldAt P main first is_job n f.net f.gave f.role (record k { counts = counts' }) (set sights id w)

-- What the rule gives. A count that is 0 is that of a task which is in the state, and ready.
abbrev pub NoCountIsReady : (S J : Type 0) → Telling S J → Type 0
NoCountIsReady S J is_job = (P : Program S) (main : Start S) (first : List ℕ) (n : ℕ) (k : Parts J) (sights : List (Sight S))
    (f : Field P main first is_job n k sights) (t : ℕ)
    → t < n → k.counts t ≡ 0
    → (p : List ℕ) × (u : Task S) × IsNumberOf f.role t p × At f.state p u × IsReady f.state p u.body.start.context

-- What a job has done by itself, with its waits seen to be met, is a run of the machine.
abbrev pub WhatMayGoGoes : (S J : Type 0) → Telling S J → Type 0
WhatMayGoGoes S J is_job = (P : Program S) (main : Start S) (first : List ℕ) (n : ℕ) (k : Parts J) (sights : List (Sight S))
    (f : Field P main first is_job n k sights) (id i : ℕ) (v : Sight S) (b : Bearing S) (x : Body S)
    → Sits sights id v → Bears v i b → MayGo P v b x
    → GoesAlone P f.state b.path b.body x

-- If the seat makes no task by a job, no entry has a role with the path of the next task.
abbrev pub NewPathsAreFree : (S J : Type 0) → Telling S J → Type 0
NewPathsAreFree S J is_job = (P : Program S) (main : Start S) (first : List ℕ) (n : ℕ) (k : Parts J) (sights : List (Sight S))
    (f : Field P main first is_job n k sights) (id i : ℕ) (v : Sight S) (b : Bearing S) (e : ℕ) (r : Role)
    → Sits sights id v → Bears v i b → ((a : Making) → Among a v.makes → a.by ≢ b.number)
    → f.role e ≡ Some r
    → r.path ≢ created_now P b.body ∷ b.path

-- A task is made by one seat.
abbrev pub TasksHaveOneMaker : (S J : Type 0) → Telling S J → Type 0
TasksHaveOneMaker S J is_job = (P : Program S) (main : Start S) (first : List ℕ) (n : ℕ) (k : Parts J) (sights : List (Sight S))
    (f : Field P main first is_job n k sights) (id j : ℕ) (v x : Sight S) (m a : Making)
    → Sits sights id v → Among m v.makes → Sits sights j x → Among a x.makes → a.task ≡ m.task
    → j ≡ id

-- While a job stands before a creation, the entries of its task for the cells that the new task names are not given up.
abbrev pub ParentsAreOpen : (S J : Type 0) → Telling S J → Type 0
ParentsAreOpen S J is_job = (P : Program S) (main : Start S) (first : List ℕ) (n : ℕ) (k : Parts J) (sights : List (Sight S))
    (f : Field P main first is_job n k sights)
    (id i : ℕ) (v : Sight S) (b : Bearing S) (order : Order S) (c : ℕ) (mode : Mode) (strong : Bool)
    → Sits sights id v → Bears v i b → act_now P b.body ≡ Created order false
    → right_of (new_task P b.body order).body.start.context c ≡ Holds mode strong → (up : Filed f.net f.role b.path (on c))
    → (k.states up.entry).given ≡ false

-- Nor is its own entry.
abbrev pub CreatorsAreOpen : (S J : Type 0) → Telling S J → Type 0
CreatorsAreOpen S J is_job = (P : Program S) (main : Start S) (first : List ℕ) (n : ℕ) (k : Parts J) (sights : List (Sight S))
    (f : Field P main first is_job n k sights) (id i : ℕ) (v : Sight S) (b : Bearing S) (order : Order S)
    → Sits sights id v → Bears v i b → act_now P b.body ≡ Created order false → (up : Filed f.net f.role b.path itself)
    → (k.states up.entry).given ≡ false

-- The last child that a job tells is the last of the net, if the seat makes no task by the job.
abbrev pub LastChildrenAreLast : (S J : Type 0) → Telling S J → Type 0
LastChildrenAreLast S J is_job = (P : Program S) (main : Start S) (first : List ℕ) (n : ℕ) (k : Parts J) (sights : List (Sight S))
    (f : Field P main first is_job n k sights) (id i : ℕ) (v : Sight S) (b : Bearing S) (y : Site) (o : ℕ)
    → Sits sights id v → Bears v i b → ((a : Making) → Among a v.makes → a.by ≢ b.number)
    → b.last y ≡ Some o → (up : Filed f.net f.role b.path y)
    → f.net.last up.entry ≡ o

-- The entries of a task whose job a seat holds follow each other: that on each of its cells has the number that its cells give it.
abbrev pub EntriesFollow : (S J : Type 0) → Telling S J → Type 0
EntriesFollow S J is_job = (P : Program S) (main : Start S) (first : List ℕ) (n : ℕ) (k : Parts J) (sights : List (Sight S))
    (f : Field P main first is_job n k sights)
    (id i : ℕ) (v : Sight S) (b : Bearing S) (j c : ℕ) (p : List ℕ) (mode : Mode) (strong : Bool)
    → Sits sights id v → Bears v i b → b.path ≡ j ∷ p → right_of b.body.start.context c ≡ Holds mode strong
    → (x : Filed f.net f.role b.path (on c)) × (x.it.mode ≡ mode) × (x.it.strong ≡ strong)
    × (x.entry ≡ entry_number b.number (right_of b.body.start.context) c)
