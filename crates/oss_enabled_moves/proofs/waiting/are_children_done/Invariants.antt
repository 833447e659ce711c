use Rattle.std.proofs.Common.{◌≡◌, ℕ, ◌<◌, ◌≤◌, Some}
use Rattle.std.specs.Prelude.{slice_get}
use Rattle.oss_syntax.specs.declared.access.Range.{Range}
use Rattle.oss_deps.specs.Opens.{AreChildrenDone}
use Rattle.oss_deps.specs.Seen.{IsSame}
use Rattle.oss_enabled_moves.proofs.waiting.are_children_done.Given as goal

-- the system is as it was, and what was asked so far is done
abbrev pub invariant-loop-range : goal.invariant-loop-range
invariant-loop-range g l = record {
  same : IsSame (g.D.Deps.seen l.initial.deps) (g.D.Deps.seen l.deps);
  done : (i : ℕ) (r : Range) → i < l.range-index → slice_get l.ranges i ≡ Some r → (c : ℕ) → r.lo ≤ c → c < r.hi → AreChildrenDone (g.D.Deps.seen l.initial.deps).opens (g.D.Deps.seen l.initial.deps).given l.task.0 c;
}
