-- What holds of the table of a field between any two steps of all seats.
-- Its words, its slots and the views of its seats stand for one state of the machine, as `oss_roles` says it; what seats have drawn has no role yet;
-- and what the views tell of the field's parts adds up.
-- Read against: a field of 2 cells and 3 entries at the start. Word 0 is 1, since entry 0 is drawn; the words 1 and 2 are the first cells; the count
-- of entry 0 is 0 and its body word is 1; the counts of 1 and 2 are not filled; every other word is 0. Main's job stands in slot 0, and the slots 1
-- and 2 are at home and empty. One seat has all 65,537 parts. A seat takes main's job: the body word is 2, slot 0 is out, and the seat bears 0.
use Rattle.std.specs.Prelude.{◌≡◌, ◌≢◌, ◌<◌, ◌≤◌, ◌+◌, ◌*◌, ℕ, Bool, false, List, [], map, length, slice_index, Option, Some, None, box_value}
use Rattle.std.specs.Global.{Box}
use mathlib.Core.Option as maybe
use lib.ListN.{get_elem?}
use Rattle.oss_body.specs.Mains.{code_main}
use Rattle.oss_code.specs.declared.code.CodeParts.{CodeParts}
use Rattle.oss_jobs.specs.declared.job.Job.{Job}
use Rattle.oss_jobs.specs.Jobs.{IsJob}
use Rattle.oss_machine.specs.Frames.{CodeScript}
use Rattle.oss_machine.specs.Machines.{asks}
use Rattle.oss_syntax.specs.declared.access.Mode.TheVariants.{Fold}
use Rattle.oss_syntax.specs.declared.access.Op.{Op}
use Rattle.oss_words.specs.declared.entry.EntryState.{EntryState}
use Rattle.oss_words.specs.Bits.{info_at, state_at, state_word}
use Rattle.oss_words.specs.Net.{Net}
use Rattle.oss_words.specs.Seats.{came}
use Rattle.oss_words.specs.Sums.{total}
use Rattle.oss_words.specs.Views.{View, Among, At}
use Rattle.oss_roles.specs.Drawing.{AreDrawn, IsFree}
use Rattle.oss_roles.specs.Field.{FieldAt, words_of}
use Rattle.oss_roles.specs.Roles.{Role, itself}
use Rattle.oss_roles.specs.Sights.{Sight, Telling}
use Rattle.oss_field.specs.declared.view.SeatView.{SeatView}
use Rattle.oss_field.specs.Known.{Holding, sight_of}
use Rattle.oss_field.specs.Layout.{words_in, cell_word, state_word_of, info_word_of, value_word_of, number_word_of, body_word_of, parts_of}
use Rattle.oss_field.specs.Marked.{AreMarked}
use Rattle.oss_field.specs.Messages.{AreHeard}
use Rattle.oss_field.specs.Plans.{ArePlanned, Planned, planned_of}

-- What a slot of the table holds.
abbrev pub Slot : Type 0
Slot = Option (Box Job)

-- How the jobs in the slots tell whose they are: that of task t was made when its body had found the answers before t.
abbrev pub is_job_of : CodeParts → (ℕ → List ℕ) → Telling CodeScript (Box Job)
is_job_of code before j t body last = IsJob code (before t) (box_value j) t body last

-- The views, as the rule of `oss_roles` reads them.
abbrev pub sights_of : List SeatView → List (Sight CodeScript)
sights_of = map (λ v. sight_of v.known)

-- What they keep of the tasks that are being made.
abbrev pub planned_by : List SeatView → List Planned
planned_by = map (λ v. planned_of v.known)

-- A state whose links are 0 where they are not set.
pub record Neat (c : EntryState) : Type 0 where
  pub next : c.linked ≡ false → (c.next ≡ 0) × (c.next_folds ≡ false) × (c.next_same ≡ false)
  pub child : c.headed ≡ false → (c.child ≡ 0) × (c.child_folds ≡ false) × (c.child_same ≡ false)

-- What the views tell of seats and of the draw word: a draw adds at most 16,777,216, and a seat draws no more once it was joined to another or found
-- too few; the first seat was split as often as there are others, and there are at most 65,537; the parts of all are 65,537; and no more was delivered than has come to the entries.
pub record AreSeats (n : ℕ) (net : Net) (states : ℕ → EntryState) (draw : ℕ) (views : List View) : Type 0 where
  pub main_drawn : 0 < draw
  pub drawn : draw ≤ 16777216 * (1 + total (λ (v : View). v.failed) views)
  pub failed : (id : ℕ) (v : View) → At views id v → v.failed ≤ 1
  pub split : (v : View) → At views 0 v → length views ≡ 1 + v.splits
  pub few : length views ≤ 65537
  pub parts : total (λ (v : View). v.parts) views ≡ 65537
  pub work : total (λ (v : View). v.delivered) views ≤ came n net.place states

-- The rule of the table of a field of n entries, for a code and so much fuel for each task.
pub record Stands (code : CodeParts) (fuel n : ℕ) (ws : List ℕ) (homes : List (maybe.Option Slot)) (views : List SeatView) : Type 0 where
  pub net : Net
  pub gave : ℕ → Bool
  pub role : ℕ → Option Role
  -- what the body of each task had found when its job was made: nothing, since each job is made with its task
  pub before : ℕ → List ℕ
  pub fresh : (t : ℕ) → before t ≡ []
  -- the cells of the program, each of which has its word
  pub cells : List ℕ
  pub size : length ws ≡ words_in (length code.first) n
  pub slots : length homes ≡ n
  pub sized : length cells ≡ length code.first
  pub cell_words : (c : ℕ) → c < length code.first → slice_index ws (cell_word c) ≡ slice_index cells c
  -- the slot of a task whose body word is 0 is at home and empty
  pub empty : (e : ℕ) → e < n → slice_index ws (body_word_of (length code.first) e) ≡ 0 → get_elem? homes e ≡ maybe.some (maybe.some None)
  -- a state word has no bit beside those that its state tells
  pub whole : (e : ℕ) → slice_index ws (state_word_of (length code.first) e) ≡ state_word (state_at (slice_index ws (state_word_of (length code.first) e)))
  pub neat : (e : ℕ) → Neat (state_at (slice_index ws (state_word_of (length code.first) e)))
  -- they stand for a state of the machine
  pub rule : FieldAt (asks code) (code_main code fuel) code.first (is_job_of code before) n net gave role (parts_of (length code.first) ws homes cells) (sights_of views)
  -- of each job that is held the seat knows when it was made
  pub told : (id : ℕ) (v : SeatView) → get_elem? views id ≡ maybe.some v → (h : Holding) → Among h v.known.bears → before h.number ≡ h.before
  -- what was drawn has no role, and what was not drawn is free
  pub drawn : AreDrawn role (sights_of views)
  pub undrawn : (e : ℕ) → slice_index ws 0 ≤ e → IsFree role (sights_of views) e
  -- the own entry of a task is none of a reduction
  pub selves : (t : ℕ) (q : Role) → role t ≡ Some q → q.site ≡ itself → (op : Op) → q.mode ≢ Fold op
  -- what seats were told of entries is so
  pub heard : AreHeard net (λ e. info_at (slice_index ws (info_word_of (length code.first) e))) views
  -- and so is what they keep of entries whose values are left
  pub marked : AreMarked net role (λ e. state_at (slice_index ws (state_word_of (length code.first) e))) (λ e. slice_index ws (value_word_of (length code.first) e)) views
  pub seats : AreSeats n net (λ e. state_at (slice_index ws (state_word_of (length code.first) e))) (slice_index ws 0) (words_of (sights_of views))
  -- the entries of tasks that are being made
  pub planned : ArePlanned code n net role (λ e. state_at (slice_index ws (state_word_of (length code.first) e))) (λ e. info_at (slice_index ws (info_word_of (length code.first) e)))
      (λ e. slice_index ws (number_word_of (length code.first) e)) (planned_by views)
