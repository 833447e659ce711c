use Rattle.std.proofs.Common.{◌≡◌, refl, sym, subst}
use Rattle.std.specs.Prelude.{IsTrue}
use Rattle.oss_deps.specs.Seen.{Seen}
use Rattle.oss_enabled_moves.specs.Enabled.{MayFold, MayAnything, folds, gives, goes}
use Rattle.oss_enabled_moves.proofs.CallLemmas.{seen_is}
use Rattle.oss_enabled_moves.proofs.stopping.may_anything.Goals as goal

pub returns-then-may_give_any-clause-may : goal.returns-then-may_give_any-clause-may
returns-then-may_give_any-clause-may g c = (λ t. let h = c.may_give_any.ensures.0 c.if-may_give_any.true in gives h.0 h.1, λ m. refl)

pub returns-clause-may : goal.returns-clause-may
returns-clause-may g c = (λ t. let h = c.may_fold_any.ensures.may.0 t in folds h.0 h.1 (subst (λ (s : Seen). MayFold c.args.held.now c.args.tree.now.tasks s c.args.task.0 h.0 h.1) same h.2), λ m. back m)
  where
    same : g.D.Deps.seen c.may_go_on.new.deps ≡ g.D.Deps.seen c.args.deps.now
    same = seen_is (g.D.Deps.seen c.args.deps.now) (g.D.Deps.seen c.may_go_on.new.deps) c.may_go_on.ensures.same

    back : MayAnything c.args.held.now c.args.tree.now.tasks (g.D.Deps.seen c.args.deps.now) c.args.task.0 → IsTrue c.may_fold_any.result
    back (goes h) = let t = c.may_go_on.ensures.may.1 h in let f = c.if-may_go_on.false in absurd cc
    back (gives k h) = let t = c.may_give_any.ensures.1 (k, h) in let f = c.if-may_give_any.false in absurd cc
    back (folds k op h) = c.may_fold_any.ensures.may.1 (k, op, subst (λ (s : Seen). MayFold c.args.held.now c.args.tree.now.tasks s c.args.task.0 k op) (sym same) h)
