-- What steps with a job ask of their seat, and what they tell.
-- Read against: a seat that bears the job of task 7 before a tick, a print and the load of cell 4. Meanwhile its worker has advanced the job over the
-- tick and the print. It is given to the load: the job is that of 7 with two answers more, none of which needed a wait, and its next act is the load.
-- The load finds 5, and the seat knows three answers more, of which the last is 5.
use Rattle.std.specs.Prelude.{◌≡◌, ◌≢◌, ◌<◌, ◌+◌, ◌*◌, ℕ, Bool, true, false, List, Some}
use mathlib.Core.Option as maybe
use lib.ListN.{get_elem?}
use Rattle.atomic_table.specs.Seated.{TableId}
use Rattle.oss_code.specs.declared.code.CodeParts.{CodeParts}
use Rattle.oss_jobs.specs.declared.job.Job.{Job}
use Rattle.oss_jobs.specs.Jobs.{IsJob}
use Rattle.oss_machine.specs.Frames.{CodeScript}
use Rattle.oss_machine.specs.Machines.{asks}
use Rattle.oss_model.specs.Bodies.{Act, Body}
use Rattle.oss_model.specs.Bodies.Act.{Load, Store, Folded}
use Rattle.oss_model.specs.Context.{right_of}
use Rattle.oss_model.specs.Moves.{act_now, combine}
use Rattle.oss_model.specs.Rights.{Holds}
use Rattle.oss_syntax.specs.declared.access.Mode.{Mode}
use Rattle.oss_syntax.specs.declared.access.Op.{Op}
use Rattle.oss_words.specs.Views.{Among}
use Rattle.oss_roles.specs.Numbers.{entry_number}
use Rattle.oss_roles.specs.Passing.{MayGo}
use Rattle.oss_roles.specs.Roles.{Site}
use Rattle.oss_field.specs.Known.{Holding, Known, bearing_of, last_of, sight_of}
use Rattle.oss_field.specs.Moves.{answered, noted, touched}
use Rattle.oss_field.specs.Layout.{cell_word}

-- The seat that knows k holds a job, at the place i among those that it holds, as h. This is that job, which has gone on by itself to the body x: by
-- acts that change the body alone, and by waits that the seat has seen to be met.
pub record IsGiven (code : CodeParts) (job : Job) (k : Known) (i : ℕ) (h : Holding) (x : Body CodeScript) : Type 0 where
  pub holds : get_elem? k.bears i ≡ maybe.some h
  pub may : MayGo (asks code) (sight_of k) (bearing_of h) x
  pub is : IsJob code h.before job h.number x (last_of h)

-- The same, and the body stands before this act.
pub record StandsBefore (code : CodeParts) (job : Job) (k : Known) (next : Act CodeScript) : Type 0 where
  pub place : ℕ
  pub holding : Holding
  pub body : Body CodeScript
  pub given : IsGiven code job k place holding body
  pub act : act_now (asks code) body ≡ next

-- The seat holds one job of this number, and no other place has one.
abbrev pub HoldsOnce : Known → ℕ → ℕ → Type 0
HoldsOnce k number place = (j : ℕ) (g : Holding) → get_elem? k.bears j ≡ maybe.some g → g.number ≡ number → j ≡ place

-- A load of a cell found this value: the body that stood before it has the value as its answer.
pub record Loaded (code : CodeParts) (job : Job) (cell : ℕ) (value : ℕ) (k l : Known) : Type 0 where
  pub at_load : StandsBefore code job k (Load cell)
  pub once : HoldsOnce k at_load.holding.number at_load.place
  pub known : l ≡ touched (cell_word cell) value (answered at_load.place at_load.holding at_load.body value k)

-- A load of a cell before a fold into it found this value, which is kept until the fold is stored.
pub record LoadedForFold (code : CodeParts) (job : Job) (cell : ℕ) (op : Op) (operand : ℕ) (value : ℕ) (k l : Known) : Type 0 where
  pub at_fold : StandsBefore code job k (Folded cell op operand false)
  pub once : HoldsOnce k at_fold.holding.number at_fold.place
  pub known : l ≡ touched (cell_word cell) value (noted at_fold.place at_fold.holding at_fold.body value k)

-- A store of a cell: the body that stood before it has its answer.
pub record Stored (code : CodeParts) (job : Job) (cell : ℕ) (value : ℕ) (k l : Known) : Type 0 where
  pub at_store : StandsBefore code job k (Store cell value)
  pub once : HoldsOnce k at_store.holding.number at_store.place
  pub known : l ≡ touched (cell_word cell) value (answered at_store.place at_store.holding at_store.body 0 k)

-- The seat may store a fold into a cell: the body stands before it, the seat keeps what the first half found there, and the value is what the fold
-- makes of that.
pub record StandsBeforeFold (code : CodeParts) (job : Job) (cell : ℕ) (op : Op) (operand value : ℕ) (k : Known) : Type 0 where
  pub at_fold : StandsBefore code job k (Folded cell op operand false)
  pub found : ℕ
  pub loaded : Among (record { name = at_fold.holding.number; value = found }) k.loaded
  pub value_is : value ≡ combine op found operand

-- The second half of a fold into a cell: the body that stood before it has its answer.
pub record StoredFold (code : CodeParts) (job : Job) (cell : ℕ) (op : Op) (operand value : ℕ) (k l : Known) : Type 0 where
  pub before : StandsBeforeFold code job cell op operand value k
  pub once : HoldsOnce k before.at_fold.holding.number before.at_fold.place
  pub known : l ≡ touched (cell_word cell) value (answered before.at_fold.place before.at_fold.holding before.at_fold.body 0 k)

-- A load of the cell, or a fold into it, stands next in a job that the seat holds.
pub data MayLoad (code : CodeParts) (job : Job) (cell : ℕ) (k : Known) : Type 0 where
  to_load : StandsBefore code job k (Load cell) → MayLoad code job cell k
  to_fold : (op : Op) (operand : ℕ) → StandsBefore code job k (Folded cell op operand false) → MayLoad code job cell k

-- What the seat knows after it.
pub data IsLoaded (code : CodeParts) (job : Job) (cell value : ℕ) (k l : Known) : Type 0 where
  has_loaded : Loaded code job cell value k l → IsLoaded code job cell value k l
  has_noted : (op : Op) (operand : ℕ) → LoadedForFold code job cell op operand value k l → IsLoaded code job cell value k l

-- The store of this value in the cell stands next in a job that the seat holds, or a fold into the cell, which makes this value of what was found there.
pub data MayStore (code : CodeParts) (job : Job) (cell value : ℕ) (k : Known) : Type 0 where
  to_store : StandsBefore code job k (Store cell value) → MayStore code job cell value k
  to_store_fold : (op : Op) (operand : ℕ) → StandsBeforeFold code job cell op operand value k → MayStore code job cell value k

-- What the seat knows after it.
pub data IsStored (code : CodeParts) (job : Job) (cell value : ℕ) (k l : Known) : Type 0 where
  has_stored : Stored code job cell value k l → IsStored code job cell value k l
  has_folded : (op : Op) (operand : ℕ) → StoredFold code job cell op operand value k l → IsStored code job cell value k l

-- The number of a held task is that of a slot of the table, the cells to which it has a right are cells of the table, a final one has strong rights alone, and its entries and its last
-- children are entries of the table.
pub record IsInside (d : TableId) (h : Holding) : Type 0 where
  pub number : h.number < d.slots
  pub inside : (c : ℕ) (mode : Mode) (strong : Bool) → right_of h.body.start.context c ≡ Holds mode strong → 1 + c + 6 * d.slots < d.words
  pub strongly : (c : ℕ) (mode : Mode) (strong : Bool) → h.body.start.context.final ≡ true → right_of h.body.start.context c ≡ Holds mode strong → strong ≡ true
  -- of a task but main, its entries; and the last children of any
  pub entries : h.number ≢ 0 → (c : ℕ) (mode : Mode) (strong : Bool) → right_of h.body.start.context c ≡ Holds mode strong → entry_number h.number (right_of h.body.start.context) c < d.slots
  pub lasts : (y : Site) (o : ℕ) → last_of h y ≡ Some o → o < d.slots

-- All tasks whose jobs are held.
abbrev pub AreInside : TableId → List Holding → Type 0
AreInside d held = (h : Holding) → Among h held → IsInside d h
