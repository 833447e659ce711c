use Rattle.std.proofs.Common.{◌≡◌, ℕ, ◌<◌, ◌≤◌, ◌-◌, None}
use Rattle.oss_syntax.specs.declared.access.Op.{Op}
use Rattle.oss_ranges.specs.Cells.{value_at}
use Rattle.oss_deps.specs.Seen.{IsSame}
use Rattle.oss_enabled_moves.specs.Enabled.{MayFold}
use Rattle.oss_enabled_moves.proofs.stopping.may_fold_any.Given as goal

-- no slot so far may be joined, and no cell past the last is owed
abbrev pub invariant-runs : goal.invariant-runs
invariant-runs g l = record {
  same : IsSame (g.D.Deps.seen l.initial.deps) (g.D.Deps.seen l.deps);
  none : (c : ℕ) (op : Op) → c < l.from → MayFold l.held l.tree.tasks (g.D.Deps.seen l.initial.deps) l.task.0 c op → ⊥;
  past : 0 < l.from → (c : ℕ) → 1048576 ≤ c → value_at l.held.owed.pieces c ≡ None;
}

abbrev pub decreases-runs : goal.decreases-runs
decreases-runs g l = 1048576 - l.from
