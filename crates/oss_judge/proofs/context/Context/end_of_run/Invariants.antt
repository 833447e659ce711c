use Rattle.std.proofs.Common.{◌≡◌, ◌≤◌, ◌<◌, ◌-◌, ℕ}
use Rattle.oss_model.specs.Context.{right_of}
use Rattle.oss_model.specs.Rights.{is_released}
use Rattle.oss_judge.proofs.context.Context.end_of_run.Given as goal

-- the cells so far are alike
abbrev pub invariant-loop-end : goal.invariant-loop-end
invariant-loop-end l = record {
  low : l.from ≤ l.end;
  high : l.end ≤ l.to;
  alike : (cell : ℕ) → l.from ≤ cell → cell < l.end → is_released (right_of l.self cell) ≡ l.released;
}

abbrev pub decreases-loop-end : goal.decreases-loop-end
decreases-loop-end l = l.to - l.end
