use Rattle.std.proofs.Common.{◌≡◌, ◌≤◌, ◌<◌, ◌-◌, ℕ, true, None, if◌then◌else◌}
use Rattle.std.specs.Prelude.{nat_lt}
use Rattle.oss_ranges.specs.Cells.{value_at}
use Rattle.oss_model.specs.Rights.{Written, first_mark}
use Rattle.oss_judge.specs.Seen.{mark_at, right_at}
use Rattle.oss_judge.proofs.given.mark_writes.Given as goal

-- the cells so far have their mark, and the map tells nothing yet of those behind them
abbrev pub invariant-loop-from : goal.invariant-loop-from
invariant-loop-from l = record {
  within : l.from ≤ 1048576;
  past : 0 < l.from → (c : ℕ) → 1048576 ≤ c → value_at l.rights.pieces c ≡ None;
  marks : (c : ℕ) → mark_at l.marks.pieces c ≡ (if nat_lt c l.from then first_mark (right_at l.rights.pieces c) true else Written);
}

abbrev pub decreases-loop-from : goal.decreases-loop-from
decreases-loop-from l = 1048576 - l.from
