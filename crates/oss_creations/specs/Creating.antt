-- A creation, from the count of the new task to its opening: what the seat knows between its calls.
-- Read against: main stands before the creation of a task of the cells 4 and 5, and its seat has drawn 7, 8 and 9. Once the count of 7 is filled, the seat is making 7: the entries 7, 8 and 9 are not
-- linked. It links 7 and delivers what follows, and 8 and 9 are not linked. When 9 is linked too, none is left up to 10, which is no entry of the task. The job of 7 is put, and the count down opens 7.
use Rattle.std.specs.Prelude.{◌≡◌, ◌<◌, ◌≤◌, ◌+◌, ◌-◌, ℕ, suc, Bool, false, List, [], ◌∷◌, length, min, Option, None}
use Rattle.oss_body.specs.Relation.{IsBody}
use Rattle.oss_code.specs.declared.code.CodeParts.{CodeParts}
use Rattle.oss_jobs.specs.declared.job.Job.{Job}
use Rattle.oss_jobs.specs.Jobs.{IsJob, body_of, task_of}
use Rattle.oss_machine.specs.Frames.{CodeScript}
use Rattle.oss_machine.specs.Machines.{asks}
use Rattle.oss_model.specs.Bodies.{Body, Order, Start, stage_act}
use Rattle.oss_model.specs.Bodies.Act.{Created}
use Rattle.oss_model.specs.Moves.{act_now, new_task}
use Rattle.oss_model.specs.Rights.{Right}
use Rattle.oss_syntax.specs.declared.access.Mode.{Mode}
use Rattle.oss_words.specs.declared.entry.EntryInfo.{EntryInfo}
use Rattle.oss_words.specs.Views.{Among}
use Rattle.oss_field.specs.Drawing.{IsAbove}
use Rattle.oss_field.specs.Known.{Holding, Known, last_of}
use Rattle.oss_field.specs.Linking.{unlinked_beside}
use Rattle.oss_field.specs.Making.{unlinked_from}
use Rattle.oss_field.specs.Plans.{new_rights}
use Rattle.oss_creations.specs.Accesses.{parent_told}
use Rattle.oss_acts.specs.Working.{IsOfProgram, Works}

-- What the job tells of the task whose creation stands next in it, for each start and all answers of which its body is kept

-- This is so of the new task's rights.
abbrev pub OfNew : CodeParts → Job → ((ℕ → Right) → Type 0) → Type 0
OfNew code job P = (start : Start CodeScript) (found : List ℕ) (order : Order CodeScript) → IsBody code start found (body_of job) → stage_act (asks code) start found ≡ Created order false
    → P (new_rights code (record { start = start; found = found }) order)

-- The other job is that of the new task, at its beginning, with no child.
abbrev pub IsChild : CodeParts → Job → Job → Type 0
IsChild code job new = (start : Start CodeScript) (found : List ℕ) (order : Order CodeScript) → IsBody code start found (body_of job) → stage_act (asks code) start found ≡ Created order false
    → IsJob code [] new (task_of new) (new_task (asks code) (record { start = start; found = found }) order).body (λ y. None)

-- The info is that of an entry of a new child of the job's task, with this mode, on this cell or its own.
pub record IsInfo (job : Job) (mode : Mode) (strong : Bool) (t : ℕ) (cell : Option ℕ) (i : EntryInfo) : Type 0 where
  pub mode_is : i.mode ≡ mode
  pub strong_is : i.strong ≡ strong
  pub parent : i.parent ≡ parent_told job cell
  pub task : i.task ≡ t
  pub depth : (code : CodeParts) (start : Start CodeScript) (found : List ℕ) → IsBody code start found (body_of job) → i.depth ≡ min (suc (length start.path)) 127

-- What the seat knows

-- The seat works with the job, holds no message, and has drawn a number for a new task, above the job's and its last children, and so many entries from it on.
pub record HasDrawn (code : CodeParts) (n : ℕ) (job : Job) (t count : ℕ) (k : Known) : Type 0 where
  pub body : Body CodeScript
  pub works : Works code job body k
  pub above : IsAbove t works.holding
  pub drawn : (e : ℕ) → t ≤ e → e < t + count → Among e k.drawn
  pub inside : t + count ≤ n
  pub held : k.words.held ≡ []

-- The seat is making the task t of this job, with its slot at this stage. Of its entries those from next up to stop are not linked.
pub record IsMaking (code : CodeParts) (n : ℕ) (job : Job) (t stage next stop : ℕ) (k : Known) : Type 0 where
  pub holding : Holding
  pub order : Order CodeScript
  pub bears : k.bears ≡ holding ∷ []
  pub makes : k.makes ≡ record { by = holding.number; task = t; stage = stage } ∷ []
  pub plans : k.plans ≡ record { task = t; holding = holding; order = order } ∷ []
  pub unlinked : k.unlinked ≡ unlinked_from t next (stop - next)
  pub inside : stop ≤ n
  pub number : t < n
  pub held : k.words.held ≡ []
  pub act : act_now (asks code) holding.body ≡ Created order false
  pub above : IsAbove t holding
  pub is : IsJob code holding.before job holding.number holding.body (last_of holding)
  pub of_program : IsOfProgram code holding.body

-- The fill of the count has begun the task, and nothing of it is linked. The job had come to the body with which the seat makes it.
pub record HasBegunTask (code : CodeParts) (n : ℕ) (job : Job) (t stop : ℕ) (k l : Known) : Type 0 where
  pub making : IsMaking code n job t 0 t stop l
  pub before : Works code job making.holding.body k
  pub failed : l.words.failed ≡ k.words.failed

-- The seat has linked one entry, or the entries from one up to another, of the task t, and holds no message again.
pub record HasLinkedOne (e : ℕ) (k l : Known) : Type 0 where
  pub bears : l.bears ≡ k.bears
  pub makes : l.makes ≡ k.makes
  pub plans : l.plans ≡ k.plans
  pub unlinked : l.unlinked ≡ unlinked_beside e k.unlinked
  pub failed : l.words.failed ≡ k.words.failed
  pub held : l.words.held ≡ []

pub record HasLinked (t from to : ℕ) (k l : Known) : Type 0 where
  pub bears : l.bears ≡ k.bears
  pub makes : l.makes ≡ k.makes
  pub plans : l.plans ≡ k.plans
  pub unlinked : (stop : ℕ) → to ≤ stop → k.unlinked ≡ unlinked_from t from (stop - from) → l.unlinked ≡ unlinked_from t to (stop - to)
  pub failed : l.words.failed ≡ k.words.failed
  pub held : l.words.held ≡ []
