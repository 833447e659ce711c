use Rattle.std.proofs.Common.{◌≡◌, ℕ, ◌<◌, ◌+◌, ◌⊎◌, inl, inr, refl, sym, subst, ◌∙◌, arith, length, List, Some}
use Rattle.std.specs.Prelude.{slice_get}
use Rattle.std.proofs.lemmas.Option.{slice_get_read, slice_get_within}
use Rattle.oss_deps.specs.declared.opened.Open.{Open}
use Rattle.oss_deps.specs.Seen.{Seen}
use Rattle.oss_kept_tasks.specs.declared.held.Held.{Held}
use Rattle.oss_enabled_moves.specs.Enabled.{IsFoldOf, MayAnything}
use Rattle.oss_enabled_moves.proofs.CallLemmas.{seen_trans, some_is, which, seen_is}
use Rattle.oss_enabled_moves.proofs.stopping.is_still.Goals as goal

pub may_anything-requires-clause-folding : goal.may_anything-requires-clause-folding
may_anything-requires-clause-folding g c = λ k op owes.
    let tasks = c.args.tasks.now in
    let held = c.index-tasks-at.result in
    let is : slice_get tasks c.loop-at.at ≡ Some held = slice_get_read tasks (length tasks) c.loop-at.at held refl c.loop-at-test.true c.index-tasks-at.is in
    subst (λ (os : List Open). IsFoldOf os c.loop-at.at k op) (sym c.loop-at.invariant.same.opens) (c.requires.folding c.loop-at.at k held op is owes)

pub returns-then-may_anything-clause-still : goal.returns-then-may_anything-clause-still
returns-then-may_anything-clause-still g c = (
  λ t. absurd cc,
  λ f.
      let tasks = c.args.tasks.now in
      let held = c.index-tasks-at.result in
      let is : slice_get tasks c.loop-at.at ≡ Some held = slice_get_read tasks (length tasks) c.loop-at.at held refl c.loop-at-test.true c.index-tasks-at.is in
      absurd (f c.loop-at.at held is (subst (λ (s : Seen). MayAnything held c.args.tree.now.tasks s c.loop-at.at) (seen_is (g.D.Deps.seen c.args.deps.now) (g.D.Deps.seen c.loop-at.deps) c.loop-at.invariant.same) (c.may_anything.ensures.may.0 c.if-may_anything.true))),
)

pub loop-at-preserved : goal.loop-at-preserved
loop-at-preserved g c = record {
  same = seen_trans (g.D.Deps.seen c.args.deps.now) (g.D.Deps.seen c.loop-at.deps) (g.D.Deps.seen c.may_anything.new.deps) c.loop-at.invariant.same c.may_anything.ensures.same;
  none = λ v held l is may. none v held (which v c.loop-at.at) l is may;
}
  where
    none : (v : ℕ) (held : Held) → (v ≡ c.loop-at.at) ⊎ (v ≡ c.loop-at.at → ⊥) → v < c.loop-at.at + 1 → slice_get c.args.tasks.now v ≡ Some held → MayAnything held c.args.tree.now.tasks (g.D.Deps.seen c.args.deps.now) v → ⊥
    none v held (inr n) l is may = c.loop-at.invariant.none v held (grind (arith, l, n)) is may
    none v held (inl e) l is may =
        let tasks = c.args.tasks.now in
        let here : slice_get tasks c.loop-at.at ≡ Some c.index-tasks-at.result = slice_get_read tasks (length tasks) c.loop-at.at c.index-tasks-at.result refl c.loop-at-test.true c.index-tasks-at.is in
        let same : held ≡ c.index-tasks-at.result = some_is (sym is ∙ subst (λ (n : ℕ). slice_get tasks n ≡ Some c.index-tasks-at.result) (sym e) here) in
        let now : MayAnything c.index-tasks-at.result c.args.tree.now.tasks (g.D.Deps.seen c.loop-at.deps) c.loop-at.at
        = subst (λ (s : Seen). MayAnything c.index-tasks-at.result c.args.tree.now.tasks s c.loop-at.at) (sym (seen_is (g.D.Deps.seen c.args.deps.now) (g.D.Deps.seen c.loop-at.deps) c.loop-at.invariant.same))
        (subst (λ (h : Held). MayAnything h c.args.tree.now.tasks (g.D.Deps.seen c.args.deps.now) c.loop-at.at) same (subst (λ (n : ℕ). MayAnything held c.args.tree.now.tasks (g.D.Deps.seen c.args.deps.now) n) e may)) in
        let t = c.may_anything.ensures.may.1 now in
        let f = c.if-may_anything.false in
        absurd cc

pub returns-clause-still : goal.returns-clause-still
returns-clause-still g c = (λ t v held is. c.loop-at.invariant.none v held (let w = slice_get_within c.args.tasks.now v held is in omega (arith, w, c.loop-at-test.false)) is, λ f. refl)
