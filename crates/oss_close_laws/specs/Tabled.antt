-- The bodies of the jobs of a table, in the order of their numbers.
-- Read against: main has created the task 7, which has created the task 10, and then the task 12. The numbers are 0, 7, 10 and 12, and the bodies those of
-- main, of 0 ∷ [], of 0 ∷ 0 ∷ [] and of 1 ∷ []. The slots 8, 9 and 11 hold nothing, or what is no task's.
use Rattle.std.specs.Prelude.{◌≡◌, ◌<◌, ◌⊎◌, ℕ, List, length, slice_get, Some, box_value}
use Rattle.std.specs.Global.{Box}
use Rattle.oss_code.specs.declared.code.CodeParts.{CodeParts}
use Rattle.oss_jobs.specs.declared.job.Job.{Job}
use Rattle.oss_jobs.specs.Jobs.{IsJob}
use Rattle.oss_listed_laws.specs.Listed.{AreListed}
use Rattle.oss_machine.specs.Frames.{CodeScript}
use Rattle.oss_machine.specs.Machines.{asks}
use Rattle.oss_model.specs.Bodies.{Body, Start}
use Rattle.oss_model.specs.Machine.{State}
use Rattle.oss_rest_laws.specs.Rested.{IsNumber, Rested, StandsIn}
use Rattle.oss_roles.specs.Field.{Parts}
use Rattle.oss_roles.specs.Sights.{Telling}

-- The number is main's, or that of another task.
abbrev pub IsTask : {J : Type 0} → ℕ → Parts J → ℕ → Type 0
IsTask n k t = (t ≡ 0) ⊎ IsNumber n k t

-- How a job in a slot tells whose it is: that of the task t was made when its body had found the answers before t.
abbrev pub job_of : CodeParts → (ℕ → List ℕ) → Telling CodeScript (Box Job)
job_of code before j t b last = IsJob code (before t) (box_value j) t b last

-- The numbers are those of all tasks of a table of n entries, rising, and the bodies those of the jobs in their slots; they are listed bodies of the
-- state.
pub record AreTabled {J : Type 0} (is_job : Telling CodeScript J) (n : ℕ) (k : Parts J) (s : State CodeScript) (path : ℕ → List ℕ)
    (numbers : List ℕ) (bodies : List (Body CodeScript)) : Type 0 where
  pub size : length numbers ≡ length bodies
  pub rising : (v w a b : ℕ) → slice_get numbers v ≡ Some a → slice_get numbers w ≡ Some b → v < w → a < b
  pub task : (v t : ℕ) → slice_get numbers v ≡ Some t → IsTask n k t
  pub all : (t : ℕ) → IsTask n k t → (v : ℕ) × (slice_get numbers v ≡ Some t)
  pub stands : (v t : ℕ) (b : Body CodeScript) → slice_get numbers v ≡ Some t → slice_get bodies v ≡ Some b
      → (x : StandsIn is_job k s t (path t)) × (x.task.body ≡ b)
  pub listed : AreListed s bodies

-- A table that tells a state has such numbers and bodies.
abbrev pub ClosedTablesList : Type 0
ClosedTablesList = (code : CodeParts) (main : Start CodeScript) (first : List ℕ) (before : ℕ → List ℕ) (n : ℕ) (k : Parts (Box Job))
    (s : State CodeScript) (path : ℕ → List ℕ)
    → Rested (asks code) main first (job_of code before) n k s path → 0 < n
    → (numbers : List ℕ) × (bodies : List (Body CodeScript)) × AreTabled (job_of code before) n k s path numbers bodies
