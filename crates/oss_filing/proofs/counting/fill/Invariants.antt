use Rattle.std.proofs.Common.{◌≡◌, ◌≢◌, ℕ, length}
use Rattle.std.specs.Prelude.{slice_index}
use Rattle.oss_filing.specs.Counted.{HasRow}
use Rattle.oss_filing.proofs.CountLemmas.{RowBefore}
use Rattle.oss_filing.proofs.counting.fill.Given as goal

-- those of the rows before this one are filled
abbrev pub invariant-loop-at : goal.invariant-loop-at
invariant-loop-at l = record {
  size : length l.counts.items ≡ length l.fn.counts.items;
  main : slice_index l.counts.items 0 ≡ 0;
  filled : (t : ℕ) → RowBefore l.rows l.at t → slice_index l.counts.items t ≡ 0;
  others : (t : ℕ) → t ≢ 0 → (HasRow l.rows t → ⊥) → slice_index l.counts.items t ≡ slice_index l.fn.counts.items t;
}
