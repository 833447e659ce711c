use Rattle.std.proofs.Common.{◌-◌, ◌≡◌, ◌≤◌, ℕ, if◌then◌else◌}
use Rattle.oss_ranges.specs.Cells.{is_within, value_at}
use Rattle.oss_span.specs.Changes.{changed_at}
use Rattle.oss_span.proofs.table.change_all.Given as goal

-- the cells so far are changed, and no other is
abbrev pub invariant-loop-from : goal.invariant-loop-from
invariant-loop-from l = record {
  low : l.range.lo ≤ l.from;
  high : l.from ≤ l.range.hi;
  cells : (c : ℕ) → value_at l.table.pieces c ≡ (if is_within l.range.lo l.from c then changed_at l.change (value_at l.initial.table.pieces c) else value_at l.initial.table.pieces c);
}

abbrev pub decreases-loop-from : goal.decreases-loop-from
decreases-loop-from l = l.range.hi - l.from
