use Rattle.std.proofs.Common.{◌≡◌, ◌∷◌, ◌<◌, ℕ, suc, sym, ap, ◌∙◌, subst, length, drop, arith, List, ◌-◌}
use Rattle.std.proofs.Math.Seq.{drop-cons}
use Rattle.oss_syntax.specs.declared.access.Access.{Access}
use Rattle.oss_missing_waits.proofs.UsingLemmas.{AreAdded, release_more}
use Rattle.oss_missing_waits.proofs.using.release_all.Goals as goal

pub loop-left-preserved : goal.loop-left-preserved
loop-left-preserved c =
    let xs = c.args.clauses.now in
    let at = c.loop-left.left - 1 in
    let x = c.index-clauses-left.result in
    let rest = drop c.loop-left.left xs in
    let within : at < length xs = let upper = c.loop-left.invariant.within in omega arith in
    let next : suc at ≡ c.loop-left.left = omega arith in
    let split : drop at xs ≡ x ∷ rest = drop-cons xs at x within ∙ ap (λ y. y ∷ drop (suc at) xs) (sym c.index-clauses-left.is) ∙ ap (λ k. x ∷ drop k xs) next in
    record {
      within = omega arith;
      added =
          subst (λ (ys : List Access). AreAdded ys c.args.released.now c.add.new.self) (sym split)
          (release_more x rest c.args.released.now c.loop-left.released c.add.new.self c.loop-left.invariant.added c.in_ok-add.ensures);
    }

pub returns : goal.returns
returns c =
    let t = c.loop-left-test.false in
    let e : c.loop-left.left ≡ 0 = omega (arith, t) in
    subst (λ (n : ℕ). AreAdded (drop n c.args.clauses.now) c.args.released.now c.loop-left.released) e c.loop-left.invariant.added
