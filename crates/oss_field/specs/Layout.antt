-- Where the words of a field lie in its table, and what stands in its slots.
-- Word 0 is the draw word. Then comes one word for each cell of the program, and then six for each entry: its state, its info, the value that is
-- left for a join, the number of its cell, and of the task whose own entry it is the count and the body word. Slot e has the job of the task e.
-- Read against: a field of 2 cells and 3 entries has 21 words. Cell 1 is word 2; the words of entry 1 are 9 to 14, so its count is word 13 and its
-- body word is word 14. A slot that is out has no job, nor has one that is at home and empty.
use Rattle.std.specs.Prelude.{◌+◌, ◌*◌, ℕ, List, slice_index, Option, None}
use mathlib.Core.Option as maybe
use lib.ListN.{get_elem?}
use Rattle.oss_words.specs.Bits.{state_at, info_at}
use Rattle.oss_roles.specs.Field.{Parts}

-- How many words a field of m cells and n entries has.
abbrev pub words_in : ℕ → ℕ → ℕ
words_in m n = 1 + m + 6 * n

-- The word of a cell.
abbrev pub cell_word : ℕ → ℕ
cell_word c = 1 + c

-- The words of the entry e, in a field of m cells.
abbrev pub state_word_of : ℕ → ℕ → ℕ
state_word_of m e = 1 + m + 6 * e

abbrev pub info_word_of : ℕ → ℕ → ℕ
info_word_of m e = 1 + m + 6 * e + 1

abbrev pub value_word_of : ℕ → ℕ → ℕ
value_word_of m e = 1 + m + 6 * e + 2

abbrev pub number_word_of : ℕ → ℕ → ℕ
number_word_of m e = 1 + m + 6 * e + 3

abbrev pub count_word_of : ℕ → ℕ → ℕ
count_word_of m e = 1 + m + 6 * e + 4

abbrev pub body_word_of : ℕ → ℕ → ℕ
body_word_of m e = 1 + m + 6 * e + 5

-- What a table tells of a slot: nothing if there is no such slot, nothing more if it is out, and else what stands in it.
abbrev pub Home : Type 0 → Type 0
Home J = maybe.Option (maybe.Option (Option J))

-- The job that stands in a slot.
abbrev pub job_in : {J : Type 0} → Home J → Option J
job_in (maybe.some (maybe.some x)) = x
job_in (maybe.some maybe.none) = None
job_in maybe.none = None

-- The words and slots of a field of m cells, whatever they lie in. The cells are told beside the words.
abbrev pub parts_of : {J : Type 0} → ℕ → List ℕ → List (maybe.Option (Option J)) → List ℕ → Parts J
parts_of m ws homes cells = record {
  states = λ e. state_at (slice_index ws (state_word_of m e));
  infos = λ e. info_at (slice_index ws (info_word_of m e));
  values = λ e. slice_index ws (value_word_of m e);
  cell_of = λ e. slice_index ws (number_word_of m e);
  counts = λ e. slice_index ws (count_word_of m e);
  bodies = λ e. slice_index ws (body_word_of m e);
  jobs = λ e. job_in (get_elem? homes e);
  cells = cells;
}
