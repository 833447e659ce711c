use Rattle.std.proofs.Common.{◌≡◌, ◌∙◌, ℕ, ◌+◌, ◌-◌, ◌/◌, ◌<◌, ◌≤◌, List, length, Option, Some, arith, sym, ap, subst, get_or}
use Rattle.std.proofs.lemmas.Option.{slice_get-get_or}
use Rattle.std.specs.Prelude.{slice_get}
use Rattle.oss_labels.specs.declared.labels.Labelled.{Labelled}
use Rattle.oss_labels.proofs.SearchLemmas.{sought_left, sought_right}
use Rattle.oss_labels.proofs.labels.before.Goals as goal

-- the item that was read stands there
stands : (ls : List Labelled) (k : ℕ) (l : Labelled) → k < length ls → l ≡ get_or ls k l → slice_get ls k ≡ Some l
stands ls k l less is = slice_get-get_or ls k l less ∙ ap {B = Option Labelled} (λ x. Some x) (sym is)

between : (lo hi : ℕ) → lo < hi → (lo ≤ lo + (hi - lo) / 2) × (lo + (hi - lo) / 2 < hi)
between lo hi less = (omega arith, omega (arith, less))

pub halves-preserved-then-list-middle : goal.halves-preserved-then-list-middle
halves-preserved-then-list-middle c =
    let ls = c.args.list.now in
    let lo = c.halves.lo in
    let hi = c.halves.hi in
    let middle = lo + (hi - lo) / 2 in
    let mid = c.index-list-middle.result in
    let inside = between lo hi c.halves-test.true in
    let sought = c.halves.invariant.sought in
    let there : slice_get ls middle ≡ Some mid = stands ls middle mid (omega (arith, inside.1, sought.within)) c.index-list-middle.is in
    let small : mid.entry < c.args.entry = subst (λ (x : Labelled). x.entry < c.args.entry) (sym c.index-list-middle.is) c.if-list-middle.true in
    record { sought = sought_right ls c.args.entry lo hi middle mid c.requires sought inside.0 inside.1 there small; ordered = omega (arith, inside.1) }

pub halves-preserved : goal.halves-preserved
halves-preserved c =
    let ls = c.args.list.now in
    let lo = c.halves.lo in
    let hi = c.halves.hi in
    let middle = lo + (hi - lo) / 2 in
    let mid = c.index-list-middle.result in
    let inside = between lo hi c.halves-test.true in
    let sought = c.halves.invariant.sought in
    let there : slice_get ls middle ≡ Some mid = stands ls middle mid (omega (arith, inside.1, sought.within)) c.index-list-middle.is in
    let great : c.args.entry ≤ mid.entry = subst (λ (x : Labelled). c.args.entry ≤ x.entry) (sym c.index-list-middle.is) c.if-list-middle.false in
    record { sought = sought_left ls c.args.entry lo hi middle mid c.requires sought inside.0 inside.1 there great; ordered = inside.0 }
