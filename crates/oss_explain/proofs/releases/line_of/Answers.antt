use Rattle.std.proofs.Common.{◌≡◌, ◌∷◌, ◌+◌, ℕ, suc, refl, sym, ap, ◌∙◌, subst, drop, List, arith}
use Rattle.std.proofs.Math.Seq.{drop-cons}
use Rattle.oss_syntax.specs.declared.access.Access.{Access}
use Rattle.oss_model.specs.Context.{in_clauses}
use Rattle.oss_model.specs.Order.{IsIn, here}
use Rattle.oss_explain.specs.declared.begun.ReleasedAt.{ReleasedAt}
use Rattle.oss_explain.proofs.SearchLemmas.{in_drop, in_rest, none_left}
use Rattle.oss_explain.proofs.releases.line_of.Goals as goal

pub returns-then-names : goal.returns-then-names
returns-then-names c =
    let xs = c.args.released.now in
    let i = c.loop-release.release-index in
    let a = c.release-item.result in
    let split : drop i xs ≡ a ∷ drop (suc i) xs = drop-cons xs i a c.loop-release-test.true ∙ ap (λ y. y ∷ drop (suc i) xs) (sym c.release-item.is) in (
      a,
      (
        in_drop xs i a (subst (λ (ys : List ReleasedAt). IsIn a ys) (sym split) here),
        ap (λ (ys : List Access). in_clauses ys c.args.cell) (sym c.as_slice.ensures) ∙ sym c.names.ensures ∙ c.if-names.true,
        refl,
      ),
    )

pub loop-release-preserved : goal.loop-release-preserved
loop-release-preserved c = λ r j n.
    let xs = c.args.released.now in
    let i = c.loop-release.release-index in
    let a = c.release-item.result in
    let split : drop i xs ≡ a ∷ drop (suc i) xs = drop-cons xs i a c.loop-release-test.true ∙ ap (λ y. y ∷ drop (suc i) xs) (sym c.release-item.is) in
    let next : suc i ≡ i + 1 = omega arith in
    subst (λ (k : ℕ). IsIn r (drop k xs)) next (in_rest r a (drop (suc i) xs) c.args.cell (subst (λ (ys : List ReleasedAt). IsIn r ys) split (c.loop-release.invariant r j n)) n
    (ap (λ (ys : List Access). in_clauses ys c.args.cell) (sym c.as_slice.ensures) ∙ sym c.names.ensures ∙ c.if-names.false))

pub returns : goal.returns
returns c = λ h. none_left c.args.released.now c.loop-release.release-index h.0 c.loop-release-test.false (c.loop-release.invariant h.0 h.1.0 h.1.1)
