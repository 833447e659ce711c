-- What a creation leaves of what its seat knows, and what it has done.
-- Read against: a seat that works with main's job draws three entries: of its work nothing changes by that. The creation of a task is done: the job of main has one answer more. If the
-- field had only two entries left, the job stands before the creation still, and the seat draws no more.
use Rattle.std.specs.Prelude.{◌≡◌, ℕ, false, [], ◌∷◌, Option, Some, None}
use Rattle.oss_code.specs.declared.code.CodeParts.{CodeParts}
use Rattle.oss_jobs.specs.declared.job.Job.{Job}
use Rattle.oss_jobs.specs.Jobs.{IsJob}
use Rattle.oss_machine.specs.Frames.{CodeScript}
use Rattle.oss_machine.specs.Machines.{asks}
use Rattle.oss_model.specs.Bodies.{Body, Order}
use Rattle.oss_model.specs.Bodies.Act.{Created}
use Rattle.oss_model.specs.Moves.{act_now}
use Rattle.oss_roles.specs.Alone.{with_answer}
use Rattle.oss_field.specs.Known.{Holding, Known, last_of}
use Rattle.oss_acts.specs.Working.{IsOfProgram, Works}

-- What the seat knows of its work is the same.
pub record KeepsWork (k l : Known) : Type 0 where
  pub bears : l.bears ≡ k.bears
  pub makes : l.makes ≡ k.makes
  pub plans : l.plans ≡ k.plans
  pub unlinked : l.unlinked ≡ k.unlinked
  pub seen : l.seen ≡ k.seen

-- The seat works with the job as before.
pub record HasStayed (code : CodeParts) (old new : Job) (k l : Known) : Type 0 where
  pub body : Body CodeScript
  pub before : Works code old body k
  pub after : Works code new body l

-- The job stands at the body x, before a creation that has happened: the seat knows its body with the answer of the creation, makes no task, and holds that job alone.
pub record IsBehind (code : CodeParts) (job : Job) (x : Body CodeScript) (k : Known) : Type 0 where
  pub holding : Holding
  pub order : Order CodeScript
  pub bears : k.bears ≡ holding ∷ []
  pub body : holding.body ≡ with_answer 0 x
  pub act : act_now (asks code) x ≡ Created order false
  pub is : IsJob code holding.before job holding.number x (last_of holding)
  pub of_program : IsOfProgram code x
  pub makes : k.makes ≡ []
  pub plans : k.plans ≡ []
  pub unlinked : k.unlinked ≡ []

-- The seat worked with the job, which stood before a creation. The task is made, and the job is to go past the creation.
pub record HasMade (code : CodeParts) (old new : Job) (k l : Known) : Type 0 where
  pub body : Body CodeScript
  pub before : Works code old body k
  pub after : IsBehind code new body l

-- What a creation has done: the task is made, and the seat draws on; or the field has too few entries, the job stands before the act still, and the seat draws no more.
abbrev pub IsCreation : CodeParts → Job → Job → Known → Known → Option ℕ → Type 0
IsCreation code old new k l (Some task) = HasMade code old new k l × (l.words.failed ≡ 0)
IsCreation code old new k l None = HasStayed code old new k l × (l.words.failed ≡ 1)
