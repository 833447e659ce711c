use Rattle.std.proofs.Common.{◌≡◌, ℕ, ◌<◌, ◌+◌, ◌⊎◌, inl, inr, sym, subst, arith}
use Rattle.oss_syntax.specs.declared.access.Op.{Op}
use Rattle.oss_deps.specs.Seen.{Seen}
use Rattle.oss_enabled_moves.specs.Enabled.{MayFold}
use Rattle.oss_enabled_moves.proofs.CallLemmas.{seen_trans, which, seen_is}
use Rattle.oss_enabled_moves.proofs.stopping.may_fold_any.Goals as goal

pub runs-preserved : goal.runs-preserved
runs-preserved g c = record {
  same = seen_trans (g.D.Deps.seen c.args.deps.now) (g.D.Deps.seen c.runs.deps) (g.D.Deps.seen c.may_fold.new.deps) c.runs.invariant.same c.may_fold.ensures.same;
  none = λ k op l may. none k op (which k c.runs.from) l may;
  past = λ p. c.run_from-owed.ensures.past;
}
  where
    none : (k : ℕ) (op : Op) → (k ≡ c.runs.from) ⊎ (k ≡ c.runs.from → ⊥) → k < c.runs.from + 1 → MayFold c.args.held.now c.args.tree.now.tasks (g.D.Deps.seen c.args.deps.now) c.args.task.0 k op → ⊥
    none k op (inr n) l may = c.runs.invariant.none k op (grind (arith, l, n)) may
    none k op (inl e) l may =
        let here : MayFold c.args.held.now c.args.tree.now.tasks (g.D.Deps.seen c.runs.deps) c.args.task.0 c.runs.from op
        = subst (λ (s : Seen). MayFold c.args.held.now c.args.tree.now.tasks s c.args.task.0 c.runs.from op) (sym (seen_is (g.D.Deps.seen c.args.deps.now) (g.D.Deps.seen c.runs.deps) c.runs.invariant.same))
        (subst (λ (j : ℕ). MayFold c.args.held.now c.args.tree.now.tasks (g.D.Deps.seen c.args.deps.now) c.args.task.0 j op) e may) in
        let t = c.may_fold.ensures.may.1 (op, here) in
        let f = c.if-may_fold.false in
        absurd cc
