-- That what a give and a leave ask for can be met: a seat holds the job of a task that has ended, and reads the flags of one of its entries.
-- Read against: a seat that holds no message takes the job of task 7, which may write cell 4, and has a strong reduction of cell 5: its entries are 7, 8 and 9. The task ends by itself. The seat
-- reads 8: the word is 39, so 8 is not given up, and the seat may give up the cell 4. Or it reads 9: the word is 32, so 9 is neither left nor given up, and it may leave what the slot is.
use Rattle.std.specs.Prelude.{◌≡◌, ◌≢◌, ◌<◌, ℕ, Bool, true, false, [], length, Some}
use Rattle.oss_code.specs.declared.code.CodeParts.{CodeParts}
use Rattle.oss_jobs.specs.declared.job.Job.{Job}
use Rattle.oss_machine.specs.Frames.{CodeScript}
use Rattle.oss_machine.specs.Machines.{asks}
use Rattle.oss_model.specs.Bodies.{Body}
use Rattle.oss_model.specs.Context.{right_of}
use Rattle.oss_model.specs.Moves.{is_ended, slot_of}
use Rattle.oss_model.specs.Rights.{Holds}
use Rattle.oss_syntax.specs.declared.access.Mode.{Mode}
use Rattle.oss_syntax.specs.declared.access.Mode.TheVariants.{Fold}
use Rattle.oss_syntax.specs.declared.access.Op.{Op}
use Rattle.oss_words.specs.Bits.{state_at}
use Rattle.oss_words.specs.Views.{Among}
use Rattle.oss_roles.specs.JobSteps.{MayEnd}
use Rattle.oss_roles.specs.Sights.{Making}
use Rattle.oss_field.specs.Asks.{IsGiven}
use Rattle.oss_field.specs.Giving.{StandsToGive}
use Rattle.oss_field.specs.Known.{Holding, Known, bearing_of, sight_of}
use Rattle.oss_field.specs.Leaving.{StandsToLeave}
use Rattle.oss_field.specs.Owning.{entry_of}
use Rattle.oss_field.specs.Reading.{after_flags}
use Rattle.oss_field.specs.Taking.{IsTaken, after_count, after_take}

-- A job that was just taken is one that the seat holds, as far as it has gone.
abbrev pub TakersHold : Type 0
TakersHold = (code : CodeParts) (fuel t : ℕ) (job : Job) (h : Holding) (k : Known) → IsTaken code fuel t job h
    → IsGiven code job (after_take (length code.first) t h (after_count (length code.first) t 0 k)) 0 h h.body

-- The seat holds this job, at the place i as h, which has gone on by itself to the body x: that of a task below main, which has ended, and whose clause wait is met by what the seat has seen. The
-- seat holds no message.
pub record HasEnded (code : CodeParts) (job : Job) (k : Known) (i : ℕ) (h : Holding) (x : Body CodeScript) : Type 0 where
  pub given : IsGiven code job k i h x
  pub below_main : h.number ≢ 0
  pub ended : is_ended (asks code) x ≡ true
  pub wait : MayEnd (sight_of k) (bearing_of h) x
  pub empty : k.words.held ≡ []

-- A cell of the field on which the task has no strong reduction may be given up, once its entry was found not to be given up, if the seat makes no task by the job.
abbrev pub ReadersMayGive : Type 0
ReadersMayGive = (code : CodeParts) (job : Job) (k : Known) (i : ℕ) (h : Holding) (x : Body CodeScript) → HasEnded code job k i h x → ((a : Making) → Among a k.makes → a.by ≢ h.number)
    → (cell : ℕ) (mode : Mode) (strong : Bool) → cell < length code.first → right_of h.body.start.context cell ≡ Holds mode strong → ((op : Op) → right_of h.body.start.context cell ≢ Holds (Fold op) true)
    → (word : ℕ) → (state_at word).given ≡ false → StandsToGive code job (after_flags (length code.first) (entry_of h (Some cell)) word k) (Some cell)

-- And the value of a strong reduction may be left, once its entry was found neither left nor given up.
abbrev pub ReadersMayLeave : Type 0
ReadersMayLeave = (code : CodeParts) (job : Job) (k : Known) (i : ℕ) (h : Holding) (x : Body CodeScript) → HasEnded code job k i h x
    → (cell : ℕ) (op : Op) → cell < length code.first → right_of h.body.start.context cell ≡ Holds (Fold op) true
    → (word : ℕ) → (state_at word).left ≡ false → (state_at word).given ≡ false
    → StandsToLeave code job (after_flags (length code.first) (entry_of h (Some cell)) word k) cell (slot_of (asks code) x.start cell op x.found)
