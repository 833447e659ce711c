-- What a draw of entries tells.
-- Read against: in a field of 10 entries of which 7 are drawn a seat draws 3: the draw word is 7, and the seat gets 7, 8 and 9, which are above the numbers of all tasks whose jobs
-- it holds, and above their last children. Another seat then draws 1: the word is 10, and 10 + 1 is above 10, so it gets none, and draws no more.
use Rattle.std.specs.Prelude.{◌≡◌, ◌<◌, ◌≤◌, ◌+◌, ℕ, ◌++◌, Some}
use Rattle.oss_words.specs.SeatSteps.{numbers}
use Rattle.oss_words.specs.Views.{Among}
use Rattle.oss_roles.specs.Roles.{Site}
use Rattle.oss_field.specs.Known.{Holding, Known, last_of}
use Rattle.oss_field.specs.Moves.{touched}

-- So many entries were drawn, from this one on.
abbrev pub drew : ℕ → ℕ → Known → Known
drew count e k = record k { drawn = numbers e count ++ k.drawn }

-- Too few were left, and the seat draws no more.
abbrev pub missed : Known → Known
missed k = record k { words = record k.words { failed = 1 } }

-- The number is above that of the task of this job, and above its last children.
pub record IsAbove (e : ℕ) (h : Holding) : Type 0 where
  pub number : h.number < e
  pub lasts : (y : Site) (o : ℕ) → last_of h y ≡ Some o → o < e

-- It is above those of all jobs that the seat holds.
abbrev pub IsAboveAll : ℕ → Known → Type 0
IsAboveAll e k = (0 < e) × ((h : Holding) → Among h k.bears → IsAbove e h)

-- What the sum on the draw word tells that found this number, in a field of so many entries.
pub record IsDrawn (entries count found : ℕ) (k l : Known) : Type 0 where
  pub small : found < 2199023255552
  pub above : IsAboveAll found k
  pub enough : found + count ≤ entries → l ≡ touched 0 found (drew count found k)
  pub too_few : entries < found + count → l ≡ touched 0 found (missed k)
