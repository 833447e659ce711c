use Rattle.std.proofs.Common.{◌≡◌, ◌∷◌, ◌<◌, ℕ, suc, sym, ap, ◌∙◌, subst, length, drop, arith, List, ◌-◌}
use Rattle.std.proofs.Math.Seq.{drop-cons}
use Rattle.oss_syntax.specs.declared.access.Access.{Access}
use Rattle.oss_explain.specs.Joining.{AreJoined, AreMixed}
use Rattle.oss_explain.proofs.SearchLemmas.{mixed_more, modes_more}
use Rattle.oss_explain.proofs.modes.join_all.Goals as goal

pub loop-left-preserved : goal.loop-left-preserved
loop-left-preserved c =
    let xs = c.args.clauses.now in
    let at = c.loop-left.left - 1 in
    let a = c.index-clauses-left.result in
    let rest = drop c.loop-left.left xs in
    let within : at < length xs = let upper = c.loop-left.invariant.within in omega arith in
    let next : suc at ≡ c.loop-left.left = omega arith in
    let split : drop at xs ≡ a ∷ rest = drop-cons xs at a within ∙ ap (λ y. y ∷ drop (suc at) xs) (sym c.index-clauses-left.is) ∙ ap (λ k. a ∷ drop k xs) next in
    record {
      within = omega arith;
      joined = subst (λ (ys : List Access). AreJoined ys c.join.new.modes.pieces) (sym split) (modes_more a rest c.loop-left.modes.pieces c.join.new.modes.pieces c.loop-left.invariant.joined c.in_ok-join.ensures.modes);
      mixed = subst (λ (ys : List Access). AreMixed ys c.join.new.mixed) (sym split) (mixed_more a rest c.loop-left.modes.pieces c.loop-left.mixed c.join.new.mixed c.loop-left.invariant.joined c.loop-left.invariant.mixed c.in_ok-join.ensures.mixed);
    }

pub returns-clause-modes : goal.returns-clause-modes
returns-clause-modes c =
    let t = c.loop-left-test.false in
    let e : c.loop-left.left ≡ 0 = omega (arith, t) in
    subst (λ (n : ℕ). AreJoined (drop n c.args.clauses.now) c.loop-left.modes.pieces) e c.loop-left.invariant.joined

pub returns-clause-mixed : goal.returns-clause-mixed
returns-clause-mixed c =
    let t = c.loop-left-test.false in
    let e : c.loop-left.left ≡ 0 = omega (arith, t) in
    subst (λ (n : ℕ). AreMixed (drop n c.args.clauses.now) c.loop-left.mixed) e c.loop-left.invariant.mixed
