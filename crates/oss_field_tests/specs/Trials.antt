-- What the trials of a field keep of a seat between its calls.
-- Read against: the seat with which a field is made is idle. It takes main's job, and works with it; the job stores 9 in cell 0, and the seat works
-- with it still; it puts the job, and is idle again.
use Rattle.std.specs.Prelude.{◌≡◌, []}
use Rattle.oss_code.specs.declared.code.CodeParts.{CodeParts}
use Rattle.oss_jobs.specs.declared.job.Job.{Job}
use Rattle.oss_field.specs.Known.{Known}
use Rattle.oss_field.specs.Taking.{MayPut}

-- The seat holds no job, and makes no task.
pub record Idles (k : Known) : Type 0 where
  pub bears : k.bears ≡ []
  pub makes : k.makes ≡ []

-- It holds this job alone, and makes no task.
pub record Works (code : CodeParts) (job : Job) (k : Known) : Type 0 where
  pub may : MayPut code job k
  pub alone : may.others ≡ []
  pub makes : k.makes ≡ []
