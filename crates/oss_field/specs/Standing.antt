-- What a field and its seats are seen as, what holds of a seat between two calls, and the words of a field at the start.
-- Read against: a field of 2 cells and 2 entries. At the start its words are 1, the two first cells, the six words of main, 0, 0, 0, 0, 0 and 1, and
-- those of entry 1, 0, 0, 0, 0, 18446744073709551615 and 0. Its first seat bears no job and holds no slot; when it has taken main's job, it bears 0
-- and holds slot 0, from which the job was taken out.
use Rattle.std.specs.Prelude.{◌≡◌, ◌<◌, ◌-◌, ℕ, zero, suc, List, [], ◌∷◌, ◌++◌, map, length, replicate, Some, None}
use mathlib.Core.Option as maybe
use Rattle.std.specs.Global.{Box}
use Rattle.atomic_table.specs.Seated.{TableId}
use Rattle.atomic_table.specs.declared.shared.Seat.{Seat}
use Rattle.oss_code.specs.declared.code.CodeParts.{CodeParts}
use Rattle.oss_jobs.specs.declared.job.Job.{Job}
use Rattle.oss_field.specs.declared.key.FieldKey.{FieldKey}
use Rattle.oss_field.specs.declared.view.SeatView.{SeatView}
use Rattle.oss_field.specs.Known.{Holding, Known}
use Rattle.oss_field.specs.Layout.{words_in}
use Rattle.oss_field.specs.Table.{Slot}

-- A field, as its calls name it: its table, how many entries it has, the code of its jobs and how much fuel each task has.
pub record Fielded : Type 0 where
  pub table : TableId
  pub entries : ℕ
  pub code : CodeParts
  pub fuel : ℕ

-- A seat: the field's table, its own number, and what it knows.
pub record Standing : Type 0 where
  pub field : TableId
  pub id : ℕ
  pub known : Known

-- The slots that a seat holds are those of the jobs that it bears, and each is empty: the worker has the job.
abbrev pub carried : List Holding → List (ℕ × Slot)
carried = map (λ h. (h.number, None))

-- The seat is one of the table with this name and key, and has parts of it: so it was joined to no other.
pub record On (d : TableId) (key : FieldKey) (s : Seat Slot SeatView) : Type 0 where
  pub table : s.table_id ≡ d
  pub words : d.words ≡ words_in (length key.code.value.first) key.entries
  pub slots : d.slots ≡ key.entries
  pub live : 0 < s.me.0.known.words.parts

-- It is the same seat, which has parts of the table, and holds the same slots.
pub record Stays (s t : Seat Slot SeatView) : Type 0 where
  pub table : t.table_id ≡ s.table_id
  pub id : t.id ≡ s.id
  pub slots : t.me.1 ≡ s.me.1
  pub live : 0 < t.me.0.known.words.parts

-- The six words of main's entry at the start, and of each other.
abbrev pub first_entry : List ℕ
first_entry = 0 ∷ 0 ∷ 0 ∷ 0 ∷ 0 ∷ 1 ∷ []

abbrev pub blank_entry : List ℕ
blank_entry = 0 ∷ 0 ∷ 0 ∷ 0 ∷ 18446744073709551615 ∷ 0 ∷ []

-- The words of so many entries that were never used.
abbrev pub blanks : ℕ → List ℕ
blanks zero = []
blanks (suc n) = 0 ∷ 0 ∷ 0 ∷ 0 ∷ 18446744073709551615 ∷ 0 ∷ blanks n

-- The words at the start.
abbrev pub words_at_start : List ℕ → ℕ → List ℕ
words_at_start cells entries = 1 ∷ (cells ++ (first_entry ++ blanks (entries - 1)))

-- The slots at the start: main's job stands in the first.
abbrev pub slots_at_start : Box Job → ℕ → List Slot
slots_at_start job entries = Some job ∷ replicate (entries - 1) None

-- Slots that are all at home.
abbrev pub at_home : List Slot → List (maybe.Option Slot)
at_home = map maybe.some
