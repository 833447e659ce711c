use Rattle.std.proofs.Common.{◌≡◌, ◌-◌}
use Rattle.oss_model.specs.Rights.{any_from, holds_uncovered}
use Rattle.oss_judge.specs.Seen.{right_at}
use Rattle.oss_judge.proofs.checks.is_uncovered_in.Given as goal

-- no cell so far passes the test
abbrev pub invariant-loop-from : goal.invariant-loop-from
invariant-loop-from l =
    any_from (λ c. holds_uncovered (right_at l.own.pieces c) (right_at l.given.pieces c)) l.from (l.range.hi - l.from)
    ≡ any_from (λ c. holds_uncovered (right_at l.own.pieces c) (right_at l.given.pieces c)) l.range.lo (l.range.hi - l.range.lo)

abbrev pub decreases-loop-from : goal.decreases-loop-from
decreases-loop-from l = l.range.hi - l.from
