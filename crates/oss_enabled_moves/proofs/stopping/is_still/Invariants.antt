use Rattle.std.proofs.Common.{◌≡◌, ℕ, ◌<◌, Some}
use Rattle.std.specs.Prelude.{slice_get}
use Rattle.oss_deps.specs.Seen.{IsSame}
use Rattle.oss_kept_tasks.specs.declared.held.Held.{Held}
use Rattle.oss_enabled_moves.specs.Enabled.{MayAnything}
use Rattle.oss_enabled_moves.proofs.stopping.is_still.Given as goal

-- the system is as it was, and no task so far may do anything
abbrev pub invariant-loop-at : goal.invariant-loop-at
invariant-loop-at g l = record {
  same : IsSame (g.D.Deps.seen l.initial.deps) (g.D.Deps.seen l.deps);
  none : (v : ℕ) (held : Held) → v < l.at → slice_get l.tasks v ≡ Some held → MayAnything held l.tree.tasks (g.D.Deps.seen l.initial.deps) v → ⊥;
}
