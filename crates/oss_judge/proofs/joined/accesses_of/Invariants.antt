use Rattle.std.proofs.Common.{◌≡◌, ℕ, ◌≤◌, ◌<◌, ◌-◌}
use Rattle.oss_model.specs.Rights.{NoRight}
use Rattle.oss_judge.specs.Seen.{mark_at, right_at}
use Rattle.oss_judge.proofs.JoinedLemmas.{Gives}
use Rattle.oss_judge.proofs.joined.accesses_of.Given as goal

-- the accesses to the cells so far; the first call has told that no cell behind all has a right
abbrev pub invariant-runs : goal.invariant-runs
invariant-runs l = record {
  gives : Gives (right_at l.rights.pieces) (mark_at l.marks.pieces) l.from l.accesses.items;
  within : l.from ≤ 1048576;
  past : 0 < l.from → (c : ℕ) → 1048576 ≤ c → right_at l.rights.pieces c ≡ NoRight;
}

abbrev pub decreases-runs : goal.decreases-runs
decreases-runs l = 1048576 - l.from
