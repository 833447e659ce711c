use Rattle.std.proofs.Common.{◌≡◌, ◌+◌, ℕ, length}
use Rattle.std.specs.Prelude.{slice_index}
use Rattle.oss_words.specs.Sums.{below}
use Rattle.oss_filing.specs.Counted.{HasRow, adds_to}
use Rattle.oss_filing.specs.Filed.{state_in}
use Rattle.oss_filing.specs.Rows.{row_of}
use Rattle.oss_filing.proofs.counting.add_all.Given as goal

-- what the rows before this one add is added
abbrev pub invariant-loop-at : goal.invariant-loop-at
invariant-loop-at l = record {
  size : length l.counts.items ≡ length l.fn.counts.items;
  added : (t : ℕ) → HasRow l.rows t → slice_index l.counts.items t ≡ below (λ e. adds_to t (row_of l.rows e) (state_in l.words e)) (1 + l.at);
  others : (t : ℕ) → (HasRow l.rows t → ⊥) → slice_index l.counts.items t ≡ slice_index l.fn.counts.items t;
}
