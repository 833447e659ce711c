-- What a seat knows while its worker goes on with one job, between any two acts of it.
-- Read against: a seat that holds nothing takes the job of task 7 and works with it: it holds that job alone, and makes no task. The job does a tick and a print by itself, and the seat works
-- with it still, at a body with two answers more. It delivers messages meanwhile: of its work nothing changes by that.
use Rattle.std.specs.Prelude.{◌≡◌, ◌<◌, ◌≤◌, ℕ, Bool, List, [], ◌∷◌, length}
use Rattle.atomic_table.specs.Seated.{TableId}
use Rattle.oss_code.specs.declared.code.CodeParts.{CodeParts}
use Rattle.oss_jobs.specs.declared.job.Job.{Job}
use Rattle.oss_machine.specs.Frames.{CodeScript}
use Rattle.oss_model.specs.Bodies.{Body}
use Rattle.oss_model.specs.Context.{right_of}
use Rattle.oss_model.specs.Rights.{Holds}
use Rattle.oss_syntax.specs.declared.access.Mode.{Mode}
use Rattle.oss_roles.specs.Alone.{with_answer}
use Rattle.oss_field.specs.Asks.{IsGiven}
use Rattle.oss_field.specs.Known.{Holding, Known}
use Rattle.oss_field.specs.Standing.{Fielded}

-- The seat of this table is one of the field, which has no more entries than a field may have.
abbrev pub IsAt : Fielded → TableId → Type 0
IsAt field table = (table ≡ field.table) × (field.entries ≤ 16777216)

-- A task of the program: its rights are to cells of the program, and it stands as deep as its path is long.
pub record IsOfProgram (code : CodeParts) (b : Body CodeScript) : Type 0 where
  pub inside : (c : ℕ) (mode : Mode) (strong : Bool) → right_of b.start.context c ≡ Holds mode strong → c < length code.first
  pub depth : b.start.context.depth ≡ length b.start.path

-- The seat works with this job, which has come to the body x: the seat holds it alone, it has gone on as a call of the field asks, and the seat makes no task.
pub record Works (code : CodeParts) (job : Job) (x : Body CodeScript) (k : Known) : Type 0 where
  pub holding : Holding
  pub bears : k.bears ≡ holding ∷ []
  pub given : IsGiven code job k 0 holding x
  pub of_program : IsOfProgram code x
  pub makes : k.makes ≡ []
  pub plans : k.plans ≡ []
  pub unlinked : k.unlinked ≡ []

-- Nothing but messages has changed of what the seat knows: the jobs that it holds, the tasks that it makes, what it has drawn, read and loaded are the same, and it draws on as before.
pub record SameWork (k l : Known) : Type 0 where
  pub bears : l.bears ≡ k.bears
  pub makes : l.makes ≡ k.makes
  pub plans : l.plans ≡ k.plans
  pub unlinked : l.unlinked ≡ k.unlinked
  pub drawn : l.drawn ≡ k.drawn
  pub seen : l.seen ≡ k.seen
  pub still : l.still ≡ k.still
  pub loaded : l.loaded ≡ k.loaded
  pub ready : l.ready ≡ k.ready
  pub failed : l.words.failed ≡ k.words.failed

-- The job stood before an act, which has happened with this answer: the job has gone on by it, and the seat works with it as before.
pub record HasActed (code : CodeParts) (old new : Job) (answer : ℕ) (k l : Known) : Type 0 where
  pub body : Body CodeScript
  pub before : Works code old body k
  pub after : Works code new (with_answer answer body) l

-- The seat has no work: it holds no job, and makes no task.
pub record Rests (k : Known) : Type 0 where
  pub bears : k.bears ≡ []
  pub makes : k.makes ≡ []
  pub plans : k.plans ≡ []
  pub unlinked : k.unlinked ≡ []
