use Rattle.std.proofs.Common.{◌≡◌, ℕ, ◌<◌, ◌≤◌, ◌+◌, ◌⊎◌, inl, inr, refl, sym, subst, ◌∙◌, length, arith, Some}
use Rattle.std.specs.Prelude.{slice_get}
use Rattle.std.proofs.lemmas.Option.{slice_get_read, slice_get_within}
use Rattle.oss_syntax.specs.declared.access.Range.{Range}
use Rattle.oss_deps.specs.Opens.{AreChildrenDone}
use Rattle.oss_enabled_moves.proofs.CallLemmas.{done_back, done_same, in_range_of, range_of, seen_trans, some_is, which}
use Rattle.oss_enabled_moves.proofs.waiting.are_children_done.Goals as goal

pub returns-then-not-children_done-clause-done : goal.returns-then-not-children_done-clause-done
returns-then-not-children_done-clause-done g c =
    let at_ : slice_get c.args.ranges.now c.loop-range.range-index ≡ Some c.range-item.result = slice_get_read c.args.ranges.now (length c.args.ranges.now) c.loop-range.range-index c.range-item.result refl c.loop-range-test.true c.range-item.is in (
      λ e. absurd cc,
      λ f.
          let k = c.children_done.ensures.done.1 (λ d low high. done_back (g.D.Deps.seen c.args.deps.now) (g.D.Deps.seen c.loop-range.deps) c.loop-range.invariant.same c.args.task.0 d (f d (in_range_of c.args.ranges.now d c.loop-range.range-index c.range-item.result at_ low high))) in
          let n = c.if-not-children_done.true in
          absurd cc,
    )

pub loop-range-preserved : goal.loop-range-preserved
loop-range-preserved g c = record {
  same = seen_trans (g.D.Deps.seen c.args.deps.now) (g.D.Deps.seen c.loop-range.deps) (g.D.Deps.seen c.children_done.new.self) c.loop-range.invariant.same c.children_done.ensures.same;
  done = λ i r l e d low high. go i r (which i c.loop-range.range-index) l e d low high;
}
  where
    at_ : slice_get c.args.ranges.now c.loop-range.range-index ≡ Some c.range-item.result
    at_ = slice_get_read c.args.ranges.now (length c.args.ranges.now) c.loop-range.range-index c.range-item.result refl c.loop-range-test.true c.range-item.is

    go : (i : ℕ) (r : Range) → (i ≡ c.loop-range.range-index) ⊎ (i ≡ c.loop-range.range-index → ⊥) → i < c.loop-range.range-index + 1 → slice_get c.args.ranges.now i ≡ Some r → (d : ℕ) → r.lo ≤ d → d < r.hi
        → AreChildrenDone (g.D.Deps.seen c.args.deps.now).opens (g.D.Deps.seen c.args.deps.now).given c.args.task.0 d
    go i r (inl k) l e d low high =
        let same : r ≡ c.range-item.result = some_is (sym e ∙ subst (λ (j : ℕ). slice_get c.args.ranges.now j ≡ Some c.range-item.result) (sym k) at_) in
        done_same (g.D.Deps.seen c.args.deps.now) (g.D.Deps.seen c.loop-range.deps) c.loop-range.invariant.same c.args.task.0 d
        (c.children_done.ensures.done.0 c.if-not-children_done.false d (subst (λ (x : Range). x.lo ≤ d) same low) (subst (λ (x : Range). d < x.hi) same high))
    go i r (inr n) l e d low high = c.loop-range.invariant.done i r (grind (arith, l, n)) e d low high

pub returns-clause-done : goal.returns-clause-done
returns-clause-done g c = (λ e d h. let w = range_of c.args.ranges.now d h in c.loop-range.invariant.done w.place w.range (inside w.place w.range w.is) w.is d w.from w.to, λ f. refl)
  where
    inside : (i : ℕ) (r : Range) → slice_get c.args.ranges.now i ≡ Some r → i < c.loop-range.range-index
    inside i r e = let w = slice_get_within c.args.ranges.now i r e in omega (arith, w, c.loop-range-test.false)
