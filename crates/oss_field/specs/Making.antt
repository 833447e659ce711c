-- The making of a task: what its calls ask of a seat, and what they tell.
-- Read against: a seat holds the job of main, which stands before the creation of a task with in(x) and a weak out(y), of the cells 4 and 5, and has a last
-- child on cell 4 alone. It has drawn 7, 8 and 9. The fill of the count of 7 writes 2: one for the opening, and one for the flag `reads` of 8. From then on it
-- is making 7, and 7, 8 and 9 are not linked. The first put of the job of 7 takes hold of the slot, and the job stands there. When all three are linked, and
-- main's job has noted 7, the count down opens 7: the count is 1, main's body has the answer of the creation, and the seat makes no task.
use Rattle.std.specs.Prelude.{◌≡◌, ◌≢◌, ◌<◌, ◌≤◌, ◌+◌, ◌==◌, ℕ, zero, suc, false, ◌&&◌, cond, if◌then◌else◌, List, [], ◌∷◌, ◌++◌, length, set, Some, None, box_value}
use Rattle.std.specs.Global.{Box}
use mathlib.Core.Option as maybe
use lib.ListN.{get_elem?}
use Rattle.atomic_table.specs.Table.{Me}
use Rattle.oss_code.specs.declared.code.CodeParts.{CodeParts}
use Rattle.oss_jobs.specs.declared.job.Job.{Job}
use Rattle.oss_jobs.specs.Jobs.{IsJob, noted, task_of}
use Rattle.oss_machine.specs.Frames.{CodeScript}
use Rattle.oss_machine.specs.Machines.{asks}
use Rattle.oss_model.specs.Bodies.{Body, Order}
use Rattle.oss_model.specs.Bodies.Act.{Created}
use Rattle.oss_model.specs.Moves.{act_now, new_task}
use Rattle.oss_ranges.specs.Cells.{is_within}
use Rattle.oss_words.specs.Steps.{no_flags}
use Rattle.oss_words.specs.Sums.{below, num}
use Rattle.oss_words.specs.Views.{Among}
use Rattle.oss_roles.specs.Alone.{with_answer}
use Rattle.oss_roles.specs.Numbers.{cells_below, has_cell}
use Rattle.oss_roles.specs.Roles.{Site}
use Rattle.oss_roles.specs.Sights.{Making}
use Rattle.oss_field.specs.declared.view.SeatView.{SeatView}
use Rattle.oss_field.specs.Asks.{HoldsOnce, StandsBefore}
use Rattle.oss_field.specs.Drawing.{IsAbove}
use Rattle.oss_field.specs.Known.{Holding, Known, Plan, Unlinked, last_of}
use Rattle.oss_field.specs.Layout.{body_word_of, count_word_of}
use Rattle.oss_field.specs.Moves.{loaded_beside, touched, with_body}
use Rattle.oss_field.specs.Plans.{begins_list, new_rights, waits_for}
use Rattle.oss_field.specs.Table.{Slot}

-- The count of a new task

-- The count with which the new task is filled whose creation is next in the body x of the job h: one for its opening, and one for each entry for which it waits.
abbrev pub new_count : CodeParts → Holding → Body CodeScript → Order CodeScript → ℕ
new_count code h x order = 1 + below (λ c. num (has_cell (new_rights code x order c) && waits_for (new_rights code x order c) (begins_list h c))) (length code.first)

-- How many cells the new task has.
abbrev pub new_cells : CodeParts → Body CodeScript → Order CodeScript → ℕ
new_cells code x order = cells_below (new_rights code x order) (length code.first)

-- The fill of the count

-- So many entries of the task t, from e on, of which no word is written.
abbrev pub unlinked_from : ℕ → ℕ → ℕ → List Unlinked
unlinked_from t e zero = []
unlinked_from t e (suc k) = record { task = t; entry = e; state = no_flags; info = None; cell = None } ∷ unlinked_from t (suc e) k

-- What is drawn but for the entries from lo on and below hi.
abbrev pub drawn_beside : ℕ → ℕ → List ℕ → List ℕ
drawn_beside lo hi [] = []
drawn_beside lo hi (e ∷ es) = if is_within lo hi e then drawn_beside lo hi es else e ∷ drawn_beside lo hi es

-- The job h at the place i has gone on to x, which stands before the creation of the task t of so many cells, and the seat makes that task.
abbrev pub began : ℕ → Holding → Body CodeScript → Order CodeScript → ℕ → ℕ → Known → Known
began i h x order t cells k = record k {
  bears = set k.bears i (with_body x h);
  loaded = loaded_beside h.number k.loaded;
  makes = record { by = h.number; task = t; stage = 0 } ∷ k.makes;
  drawn = drawn_beside t (t + 1 + cells) k.drawn;
  plans = record { task = t; holding = with_body x h; order = order } ∷ k.plans;
  unlinked = unlinked_from t t (suc cells) ++ k.unlinked;
}

-- The seat may begin to make the task t, in a field of n entries: the creation is next in the job, by which it makes no task yet; it has drawn t and as many
-- entries behind it as the task has cells; t is above the job's number and its last children; and the count is that of the task.
pub record MayBegin (code : CodeParts) (n : ℕ) (job : Job) (t count : ℕ) (k : Known) : Type 0 where
  pub order : Order CodeScript
  pub before : StandsBefore code job k (Created order false)
  pub makes : (a : Making) → Among a k.makes → a.by ≢ before.holding.number
  pub above : IsAbove t before.holding
  pub inside : t + new_cells code before.body order < n
  pub drawn : (e : ℕ) → t ≤ e → e < t + 1 + new_cells code before.body order → Among e k.drawn
  pub count_is : count ≡ new_count code before.holding before.body order

-- What it knows after it.
pub record HasBegun (code : CodeParts) (n : ℕ) (job : Job) (t count : ℕ) (k l : Known) : Type 0 where
  pub may : MayBegin code n job t count k
  pub once : HoldsOnce k may.before.holding.number may.before.place
  pub known : l ≡ touched (count_word_of (length code.first) t) count (began may.before.place may.before.holding may.before.body may.order t (new_cells code may.before.body may.order) k)

-- The first put of its job

-- The tasks that are being made, but for this one.
abbrev pub made_beside : ℕ → List Making → List Making
made_beside t [] = []
made_beside t (a ∷ rest) = cond (a.task == t) (made_beside t rest) (a ∷ made_beside t rest)

-- The task t is made by the job with this number, and its slot is at this stage.
abbrev pub staged : ℕ → ℕ → ℕ → Known → Known
staged by t stage k = record k { makes = record { by = by; task = t; stage = stage } ∷ made_beside t k.makes }

-- The job is that of a task which the seat is making, with its slot at this stage: it has the number that was drawn for it, stands at its beginning and
-- has no child; the seat holds the job of its creator, which stands before the creation. At its first put the slot is at home and empty.
pub record MayPutAt (stage : ℕ) (code : CodeParts) (job : Job) (k : Known) : Type 0 where
  pub place : ℕ
  pub holding : Holding
  pub order : Order CodeScript
  pub holds : get_elem? k.bears place ≡ maybe.some holding
  pub act : act_now (asks code) holding.body ≡ Created order false
  pub among : Among (record { by = holding.number; task = task_of job; stage = stage }) k.makes
  pub is : IsJob code [] job (task_of job) (new_task (asks code) holding.body order).body (λ y. None)

abbrev pub MayPutFirst : CodeParts → Job → Known → Type 0
MayPutFirst = MayPutAt 0

-- What it knows after it, in a field of m cells.
pub record IsPutFirst (code : CodeParts) (job : Job) (m : ℕ) (k l : Known) : Type 0 where
  pub may : MayPutFirst code job k
  pub known : l ≡ touched (body_word_of m (task_of job)) 1 (staged may.holding.number (task_of job) 2 k)

-- What the two steps of it tell: the empty slot is out with the seat, and then the job that the seat has laid in the slot is put.
abbrev pub HoldsNew : CodeParts → ℕ → Job → Me Slot SeatView → Me Slot SeatView → Type 0
HoldsNew code m job v w =
    (may : MayPutFirst code job v.0.known) × (w.0.known ≡ touched (body_word_of m (task_of job)) 2 (staged may.holding.number (task_of job) 1 v.0.known)) × (w.1 ≡ (task_of job, None) ∷ v.1)

abbrev pub PutsNew : CodeParts → ℕ → Me Slot SeatView → Me Slot SeatView → Type 0
PutsNew code m v w = (j : Box Job) (c : List (ℕ × Slot)) → v.1 ≡ (task_of (box_value j), Some j) ∷ c
    → (may : MayPutAt 1 code (box_value j) v.0.known) × (w.0.known ≡ touched (body_word_of m (task_of (box_value j))) 1 (staged may.holding.number (task_of (box_value j)) 2 v.0.known)) × (w.1 ≡ c)

-- The count down that opens the task

-- The plans of other tasks.
abbrev pub plans_beside : ℕ → List Plan → List Plan
plans_beside t [] = []
plans_beside t (y ∷ ys) = cond (y.task == t) (plans_beside t ys) (y ∷ plans_beside t ys)

-- The holding of the creator once its task is made: its body has the answer of the creation, and its last children are those that the job tells.
abbrev pub created_by : Job → Holding → Holding
created_by job h = record h { body = with_answer 0 h.body; lasts = job.lasts.pieces; last_child = job.last_child }

-- The task t, which the job h at the place i creates, is opened, and the seat does not make it any more.
abbrev pub opened : ℕ → Holding → Job → ℕ → Known → Known
opened i h job t k = record k { bears = set k.bears i (created_by job h); makes = made_beside t k.makes; plans = plans_beside t k.plans }

-- The seat may open the task t: it is making it, and its job is put; none of its entries is left that is not linked; and the creator's job has noted it.
pub record MayOpen (code : CodeParts) (job : Job) (t : ℕ) (k : Known) : Type 0 where
  pub place : ℕ
  pub holding : Holding
  pub order : Order CodeScript
  pub holds : get_elem? k.bears place ≡ maybe.some holding
  pub act : act_now (asks code) holding.body ≡ Created order false
  pub among : Among (record { by = holding.number; task = t; stage = 2 }) k.makes
  pub plan : Among (record { task = t; holding = holding; order = order }) k.plans
  pub linked : (z : Unlinked) → Among z k.unlinked → z.task ≢ t
  pub is : IsJob code holding.before job holding.number holding.body (noted t (new_rights code holding.body order) (last_of holding))

-- What it knows after it, if the count was this one.
pub record IsOpened (code : CodeParts) (job : Job) (t : ℕ) (found : ℕ) (k l : Known) : Type 0 where
  pub may : MayOpen code job t k
  pub some : 0 < found
  pub known : l ≡ touched (count_word_of (length code.first) t) found (opened may.place may.holding job t k)

-- What its step tells, in a field of n entries: the last children that the creator has from then on are entries of the table, too.
pub record Opens (code : CodeParts) (n : ℕ) (job : Job) (t : ℕ) (found : ℕ) (k l : Known) : Type 0 where
  pub opened : IsOpened code job t found k l
  pub lasts : (y : Site) (o : ℕ) → last_of (created_by job opened.may.holding) y ≡ Some o → o < n
