-- What a job is: it goes with one task of the machine, whose number, body, prints and last children it tells.
-- Read against: main has created the task 7 on the cells 4 and 5 and the task 10 on cell 5, has printed `x` between the two, and stands before a
-- wait. Its job tells the number 0, a body whose next act is the wait, and one print, `x` at 0.1. Its last child on cell 4 is 8, on cell 5 it is 11,
-- on every other cell there is none, and its last child is 10. A job that is made of this body now has the number 0, and no print until the next
-- one has happened.
use Rattle.std.specs.Prelude.{◌≡◌, ◌≤◌, ◌<◌, ◌+◌, ◌*◌, ℕ, List, [], ◌∷◌, ◌++◌, length, Option, Some, None}
use Rattle.oss_body.specs.declared.body.Body.{Body}
use Rattle.oss_body.specs.Relation.{IsBody}
use Rattle.oss_code.specs.declared.code.CodeParts.{CodeParts}
use Rattle.oss_machine.specs.Frames.{CodeScript}
use Rattle.oss_machine.specs.Machines.{asks}
use Rattle.oss_model.specs.Bodies.{Body as Meant, Program, Start, stage_act}
use Rattle.oss_model.specs.Context.{right_of}
use Rattle.oss_model.specs.Rights.{Right}
use Rattle.oss_ranges.specs.Cells.{value_at}
use Rattle.oss_syntax.specs.declared.access.Access.{Access}
use Rattle.oss_roles.specs.Numbers.{cells_below, entry_on}
use Rattle.oss_roles.specs.Roles.{Site, itself, on}
use Rattle.oss_segment.specs.Made.{printed_by}
use Rattle.oss_tree.specs.declared.output.Print.{Print}
use Rattle.oss_jobs.specs.declared.job.Job.{Job}
use Rattle.oss_jobs.specs.Entries.{entry_told, moved}

-- The task's number.
abbrev pub task_of : Job → ℕ
task_of j = j.task

-- How many cells the task has, as the job tells it.
abbrev pub cells_of : Job → ℕ
cells_of j = j.cells

-- Its body.
abbrev pub body_of : Job → Body
body_of j = j.body

-- What it has printed since the job was made.
abbrev pub prints_of : Job → List Print
prints_of j = j.prints.items

-- Its entry on a cell.
abbrev pub entry_at : Job → ℕ → Option ℕ
entry_at j c = moved j.task (entry_told (value_at j.entries.pieces c) c)

-- The entry of the last child that was noted on a cell.
abbrev pub last_at : Job → ℕ → Option ℕ
last_at j c = entry_told (value_at j.lasts.pieces c) c

-- The last child that was noted.
abbrev pub last_child_of : Job → Option ℕ
last_child_of j = j.last_child

-- What a body prints while it finds these answers, the newest first, after those before.
abbrev pub printed_since : {S : Type 0} → Program S → Start S → List ℕ → List ℕ → List Print
printed_since P start before [] = []
printed_since P start before (v ∷ since) = printed_since P start before since ++ printed_by (stage_act P start (since ++ before))

-- The first, if there is one, and else the second.
abbrev pub or_else : Option ℕ → Option ℕ → Option ℕ
or_else (Some entry) other = Some entry
or_else None other = other

-- The last children after a new one with this number and these rights: it is the last, and its entries are the last ones on its cells.
abbrev pub noted : ℕ → (ℕ → Right) → (Site → Option ℕ) → Site → Option ℕ
noted child own last itself = Some child
noted child own last (on c) = or_else (entry_on child own c) (last (on c))

-- A task with these rights has so many cells, each of which stands below 1,048,576.
pub record HasCells (n : ℕ) (own : ℕ → Right) : Type 0 where
  pub few : (c : ℕ) → cells_below own c ≤ n
  pub all : (c : ℕ) → 1048576 ≤ c → cells_below own c ≡ n

-- The job is that of the task with this number, with this body and these last children; it was made when the body had found the answers before.
pub record IsJob (code : CodeParts) (before : List ℕ) (j : Job) (t : ℕ) (b : Meant CodeScript) (last : Site → Option ℕ) : Type 0 where
  pub task : task_of j ≡ t
  pub body : IsBody code b.start b.found (body_of j)
  -- the answers that the body has found since
  pub since : List ℕ
  pub found : b.found ≡ since ++ before
  pub prints : prints_of j ≡ printed_since (asks code) b.start before since
  -- how many cells the task has; there are numbers for their entries
  pub cells : HasCells (cells_of j) (right_of b.start.context)
  pub numbers : t + cells_of j < 16777216
  -- the task's own entries, and the last ones of its children
  pub entries : (c : ℕ) → entry_at j c ≡ entry_on t (right_of b.start.context) c
  pub lasts : (c : ℕ) → last_at j c ≡ last (on c)
  pub last_child : last_child_of j ≡ last itself

-- There is room to note a child with these accesses.
abbrev pub HasRoom : List Access → Job → Type 0
HasRoom accesses j = 3 * length accesses ≤ j.lasts.spares

-- The last children of a job are as before, and there is as much room for more.
pub record SameLasts (old new : Job) : Type 0 where
  pub lasts : (c : ℕ) → last_at new c ≡ last_at old c
  pub last_child : last_child_of new ≡ last_child_of old
  pub room : (accesses : List Access) → HasRoom accesses old → HasRoom accesses new

-- The number, the entries and the last children of a job are as before; its body may have gone on, and printed.
pub record SameBeside (old new : Job) : Type 0 where
  pub task : task_of new ≡ task_of old
  pub cells : cells_of new ≡ cells_of old
  pub entries : (c : ℕ) → entry_at new c ≡ entry_at old c
  pub last : SameLasts old new

-- All that a job tells is as before.
pub record SameJob (old new : Job) : Type 0 where
  pub beside : SameBeside old new
  pub body : body_of new ≡ body_of old
  pub prints : prints_of new ≡ prints_of old
