use Rattle.std.proofs.Common.{◌≡◌, ℕ, ◌<◌, ◌≤◌, ◌+◌, ◌⊎◌, inl, inr, refl, sym, subst, ◌∙◌, length, arith, List, Some}
use Rattle.std.specs.Prelude.{slice_get}
use Rattle.std.proofs.lemmas.Option.{slice_get_read, slice_get_within}
use Rattle.oss_syntax.specs.declared.access.Range.{Range}
use Rattle.oss_deps.specs.declared.opened.Open.{Open}
use Rattle.oss_deps.specs.Opens.{AreChildrenDone, IsKnown}
use Rattle.oss_enabled_moves.proofs.CallLemmas.{done_same, range_of, seen_same, seen_trans, some_is, which}
use Rattle.oss_enabled_moves.proofs.HindranceLemmas.{undone_at}
use Rattle.oss_enabled_moves.proofs.hindrance.undone_in.Goals as goal

pub loop-range-init : goal.loop-range-init
loop-range-init g c = record { same = seen_same (g.D.Deps.seen c.args.deps.now); done = λ i r l e d low high. absurd (omega (arith, l)) }

pub undone_child-requires : goal.undone_child-requires
undone_child-requires g c = subst (λ (os : List Open). IsKnown os c.args.task.0) (sym c.loop-range.invariant.same.opens) c.requires

pub returns-in-Some-clause-child : goal.returns-in-Some-clause-child
returns-in-Some-clause-child g c =
    undone_at (g.D.Deps.seen c.args.deps.now) (g.D.Deps.seen c.loop-range.deps) c.loop-range.invariant.same c.args.task.0 c.args.ranges.now c.loop-range.range-index c.range-item.result
    (slice_get_read c.args.ranges.now (length c.args.ranges.now) c.loop-range.range-index c.range-item.result refl c.loop-range-test.true c.range-item.is) c.in-Some.child.0 c.in-Some.ensures.child

pub returns-in-Some-clause-same : goal.returns-in-Some-clause-same
returns-in-Some-clause-same g c = seen_trans (g.D.Deps.seen c.args.deps.now) (g.D.Deps.seen c.loop-range.deps) (g.D.Deps.seen c.undone_child.new.self) c.loop-range.invariant.same c.undone_child.ensures.same

pub loop-range-preserved : goal.loop-range-preserved
loop-range-preserved g c = record {
  same = seen_trans (g.D.Deps.seen c.args.deps.now) (g.D.Deps.seen c.loop-range.deps) (g.D.Deps.seen c.undone_child.new.self) c.loop-range.invariant.same c.undone_child.ensures.same;
  done = λ i r l e d low high. go i r (which i c.loop-range.range-index) l e d low high;
}
  where
    at_ : slice_get c.args.ranges.now c.loop-range.range-index ≡ Some c.range-item.result
    at_ = slice_get_read c.args.ranges.now (length c.args.ranges.now) c.loop-range.range-index c.range-item.result refl c.loop-range-test.true c.range-item.is

    go : (i : ℕ) (r : Range) → (i ≡ c.loop-range.range-index) ⊎ (i ≡ c.loop-range.range-index → ⊥) → i < c.loop-range.range-index + 1 → slice_get c.args.ranges.now i ≡ Some r → (d : ℕ) → r.lo ≤ d → d < r.hi
        → AreChildrenDone (g.D.Deps.seen c.args.deps.now).opens (g.D.Deps.seen c.args.deps.now).given c.args.task.0 d
    go i r (inl k) l e d low high =
        let same : r ≡ c.range-item.result = some_is (sym e ∙ subst (λ (j : ℕ). slice_get c.args.ranges.now j ≡ Some c.range-item.result) (sym k) at_) in
        done_same (g.D.Deps.seen c.args.deps.now) (g.D.Deps.seen c.loop-range.deps) c.loop-range.invariant.same c.args.task.0 d
        (c.in-None.ensures.child d (subst (λ (x : Range). x.lo ≤ d) same low) (subst (λ (x : Range). d < x.hi) same high))
    go i r (inr n) l e d low high = c.loop-range.invariant.done i r (grind (arith, l, n)) e d low high

pub returns-clause-child : goal.returns-clause-child
returns-clause-child g c = λ d h. let w = range_of c.args.ranges.now d h in c.loop-range.invariant.done w.place w.range (inside w.place w.range w.is) w.is d w.from w.to
  where
    inside : (i : ℕ) (r : Range) → slice_get c.args.ranges.now i ≡ Some r → i < c.loop-range.range-index
    inside i r e = let w = slice_get_within c.args.ranges.now i r e in omega (arith, w, c.loop-range-test.false)

pub returns-clause-same : goal.returns-clause-same
returns-clause-same g c = c.loop-range.invariant.same
