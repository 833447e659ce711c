-- What a seat knows once it has read the state word of an entry.
-- Read against: a seat bears the job of the task 7 of two cells, whose entries are 7, 8 and 9. It reads 8: it has seen that state, all of whose flags stand from then on; and
-- it keeps that the value of 8 is left or not, and, but for a strong reduction that is left, that 8 is given up or not, until it does so itself or puts the job. It reads 12, an
-- entry of another task: it has seen that state, and no more. Of main no entry is its own: entry 0 never hangs, and main has no accesses.
use Rattle.std.specs.Prelude.{◌+◌, ◌==◌, ℕ, Bool, false, not, ◌&&◌, ◌||◌, if◌then◌else◌, List, [], ◌∷◌, None}
use Rattle.oss_model.specs.Context.{right_of}
use Rattle.oss_ranges.specs.Cells.{is_within}
use Rattle.oss_words.specs.declared.entry.EntryState.{EntryState}
use Rattle.oss_words.specs.Bits.{state_at}
use Rattle.oss_roles.specs.Numbers.{cells_below}
use Rattle.oss_roles.specs.Sights.{Fixed}
use Rattle.oss_field.specs.Known.{Holding, Known}
use Rattle.oss_field.specs.Layout.{state_word_of}
use Rattle.oss_field.specs.Moves.{touched}

-- The entry is one of the task of this job, in a field of m cells: its own, or that on one of its cells, whose numbers follow its own.
abbrev pub is_entry_of : ℕ → Holding → ℕ → Bool
is_entry_of m h e = not (h.number == 0) && is_within h.number (h.number + 1 + cells_below (right_of h.body.start.context) m) e

-- It is one of the task of a job among these.
abbrev pub is_own : ℕ → List Holding → ℕ → Bool
is_own m [] e = false
is_own m (h ∷ hs) e = is_entry_of m h e || is_own m hs e

-- What is kept of entries of jobs that are held, once this state of an entry was read.
abbrev pub kept_still : Bool → ℕ → EntryState → List Fixed → List Fixed
kept_still own e state fs = if own then record { entry = e; state = state; value = None } ∷ fs else fs

-- This state of an entry was read.
abbrev pub saw : ℕ → ℕ → EntryState → Known → Known
saw m e state k = record k { seen = record { entry = e; state = state } ∷ k.seen; still = kept_still (is_own m k.bears e) e state k.still }

-- What a seat knows once it has found this state word of the entry e, in a field of m cells.
abbrev pub after_flags : ℕ → ℕ → ℕ → Known → Known
after_flags m e word k = touched (state_word_of m e) word (saw m e (state_at word) k)
