use Rattle.std.proofs.Common.{◌≡◌, ◌≤◌, ◌<◌, ◌-◌, ℕ, false}
use Rattle.oss_explanation.specs.Held.{is_word}
use Rattle.oss_pieces.specs.CellSets.{has}
use Rattle.oss_ranges.specs.Cells.{value_at}
use Rattle.oss_lack_words.specs.Telling.{told}
use Rattle.oss_lack_words.proofs.cells.cells_by.Given as goal

-- the cells so far are those of the word, and no other is in the set
abbrev pub invariant-runs : goal.invariant-runs
invariant-runs l = record {
  within : l.from ≤ 1048576;
  so_far : (c : ℕ) → c < l.from → has l.cells c ≡ is_word (told l.place (value_at l.lacks.pieces c)) l.word;
  past : (c : ℕ) → l.from ≤ c → has l.cells c ≡ false;
}

abbrev pub decreases-runs : goal.decreases-runs
decreases-runs l = 1048576 - l.from
