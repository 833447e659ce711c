-- The taking of a job out of its slot, and the putting of it there.
-- Read against: a seat takes the job of task 7: it reads the count, which is 0, and exchanges 1 for 2 in the body word. From then on it bears 7, with
-- the body that the machine has there, and the job in its hand is that of this body. If the count is 1, or the body word is 2 since another seat has the
-- job, it takes nothing, and knows what it found. When it puts the job, it bears 7 no more, and the body word is 1.
use Rattle.std.specs.Prelude.{◌≡◌, ◌≢◌, ◌<◌, ℕ, Bool, true, List, ◌∷◌, Some}
use Rattle.std.specs.Global.{Box}
use Rattle.std.specs.Prelude.{box_value}
use Rattle.atomic_table.specs.Table.{Me}
use Rattle.oss_body.specs.Mains.{code_main}
use Rattle.oss_code.specs.declared.code.CodeParts.{CodeParts}
use Rattle.oss_jobs.specs.declared.job.Job.{Job}
use Rattle.oss_jobs.specs.Jobs.{IsJob}
use Rattle.oss_machine.specs.Frames.{CodeScript}
use Rattle.oss_machine.specs.Machines.{asks}
use Rattle.oss_model.specs.Bodies.{Body}
use Rattle.oss_model.specs.Context.{right_of}
use Rattle.oss_model.specs.Machine.{Task, State, At, IsReady}
use Rattle.oss_model.specs.Moves.{Reached}
use Rattle.oss_model.specs.Rights.{Holds}
use Rattle.oss_syntax.specs.declared.access.Mode.{Mode}
use Rattle.oss_words.specs.Views.{Among}
use Rattle.oss_roles.specs.Numbers.{entry_number}
use Rattle.oss_roles.specs.Roles.{Site}
use Rattle.oss_roles.specs.Sights.{Making}
use Rattle.oss_field.specs.declared.view.SeatView.{SeatView}
use Rattle.oss_field.specs.Asks.{IsGiven}
use Rattle.oss_field.specs.Known.{Holding, Known, last_of}
use Rattle.oss_field.specs.Layout.{body_word_of, count_word_of}
use Rattle.oss_field.specs.Moves.{counted, put_back, took, touched}
use Rattle.oss_field.specs.Table.{Slot}

-- What was taken is the job of the task t, with its acts, prints and last children; and there is a state of the machine, which a run can reach, in which
-- the task has this body and is ready.
pub record IsTaken (code : CodeParts) (fuel t : ℕ) (job : Job) (h : Holding) : Type 0 where
  pub number : h.number ≡ t
  pub is : IsJob code h.before job t h.body (last_of h)
  pub state : State CodeScript
  pub reached : Reached (asks code) (code_main code fuel) code.first state
  pub task : Task CodeScript
  pub at_ : At state h.path task
  pub body : task.body ≡ h.body
  pub ready : IsReady state h.path h.body.start.context

-- The task's rights are to the first m cells, those of a final task are strong, and its entries and its last children are among the first n.
pub record IsWithin (m n : ℕ) (h : Holding) : Type 0 where
  pub inside : (c : ℕ) (mode : Mode) (strong : Bool) → right_of h.body.start.context c ≡ Holds mode strong → c < m
  pub strongly : (c : ℕ) (mode : Mode) (strong : Bool) → h.body.start.context.final ≡ true → right_of h.body.start.context c ≡ Holds mode strong → strong ≡ true
  pub entries : h.number ≢ 0 → (c : ℕ) (mode : Mode) (strong : Bool) → right_of h.body.start.context c ≡ Holds mode strong → entry_number h.number (right_of h.body.start.context) c < n
  pub lasts : (y : Site) (o : ℕ) → last_of h y ≡ Some o → o < n

-- What a seat knows once it has read the count of the task t, in a field of m cells.
abbrev pub after_count : ℕ → ℕ → ℕ → Known → Known
after_count m t n k = touched (count_word_of m t) n (counted t n k)

-- What it knows once it has tried the body word and has taken nothing; and once it has taken the job.
abbrev pub after_miss : ℕ → ℕ → ℕ → Known → Known
after_miss m t n k = touched (body_word_of m t) n k

abbrev pub after_take : ℕ → ℕ → Holding → Known → Known
after_take m t h k = touched (body_word_of m t) 1 (took h k)

-- What the exchange of the body word tells, in a field of e entries and m cells: if it found 1, the job is out with the seat.
abbrev pub Takes : CodeParts → ℕ → ℕ → ℕ → ℕ → ℕ → Me Slot SeatView → Me Slot SeatView → Type 0
Takes code fuel e m t n v w =
    (n ≡ 1 → (j : Box Job) × (h : Holding) × IsTaken code fuel t (box_value j) h × IsWithin m e h × (w.0.known ≡ after_take m t h v.0.known) × (w.1 ≡ (t, Some j) ∷ v.1))
    × (n ≢ 1 → (w.0.known ≡ after_miss m t n v.0.known) × (w.1 ≡ v.1))

-- Why no job was taken: at the first step the count was not 0, or at the second no job stood in the slot.
pub data IsMissing (m t : ℕ) (k l : Known) : Type 0 where
  is_waiting : (n : ℕ) → n ≢ 0 → l ≡ after_count m t n k → IsMissing m t k l
  is_out : (n : ℕ) → n ≢ 1 → l ≡ after_miss m t n (after_count m t 0 k) → IsMissing m t k l

-- The seat may put this job: it took it last, the job has gone on by itself since the seat's last call with it, and the seat makes no task by it.
pub record MayPut (code : CodeParts) (job : Job) (k : Known) : Type 0 where
  pub holding : Holding
  pub others : List Holding
  pub bears : k.bears ≡ holding ∷ others
  pub body : Body CodeScript
  pub given : IsGiven code job k 0 holding body
  pub makes : (a : Making) → Among a k.makes → a.by ≢ holding.number

-- What it knows after it.
pub record IsPut (code : CodeParts) (job : Job) (m : ℕ) (k l : Known) : Type 0 where
  pub may : MayPut code job k
  pub known : l ≡ touched (body_word_of m may.holding.number) 1 (put_back may.holding.number may.others k)

-- What the store of the body word tells, if a job stands in the slot that was taken last: that job was put.
abbrev pub Puts : CodeParts → ℕ → Me Slot SeatView → Me Slot SeatView → Type 0
Puts code m v w = (t : ℕ) (j : Box Job) (c : List (ℕ × Slot)) → v.1 ≡ (t, Some j) ∷ c → IsPut code (box_value j) m v.0.known w.0.known × (w.1 ≡ c)
