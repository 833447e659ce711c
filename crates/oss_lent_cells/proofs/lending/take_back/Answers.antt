use Rattle.std.proofs.Common.{◌≡◌, ◌∷◌, ◌<◌, ℕ, suc, sym, ap, ◌∙◌, subst, length, drop, arith, List, ◌-◌}
use Rattle.std.proofs.Math.Seq.{drop-cons}
use Rattle.oss_syntax.specs.declared.access.Range.{Range}
use Rattle.oss_lent_cells.specs.Kept.{AreTakenBack}
use Rattle.oss_lent_cells.proofs.LendLemmas.{back_all, back_more}
use Rattle.oss_lent_cells.proofs.lending.take_back.Goals as goal

pub loop-left-preserved : goal.loop-left-preserved
loop-left-preserved c =
    let xs = c.args.named.now in
    let at = c.loop-left.left - 1 in
    let r = c.index-named-left.result in
    let rest = drop c.loop-left.left xs in
    let within : at < length xs = let upper = c.loop-left.invariant.within in omega arith in
    let next : suc at ≡ c.loop-left.left = omega arith in
    let split : drop at xs ≡ r ∷ rest = drop-cons xs at r within ∙ ap (λ y. y ∷ drop (suc at) xs) (sym c.index-named-left.is) ∙ ap (λ k. r ∷ drop k xs) next in
    record {
      within = omega arith;
      back =
          subst (λ (ys : List Range). AreTakenBack ys c.args.cells.now.pieces c.clear.new.self.pieces) (sym split)
          (back_more r rest c.args.cells.now.pieces c.loop-left.cells.pieces c.clear.new.self.pieces c.loop-left.invariant.back c.in_ok-clear.ensures.map);
    }

pub returns : goal.returns
returns c =
    let t = c.loop-left-test.false in
    let e : c.loop-left.left ≡ 0 = omega (arith, t) in
    back_all c.args.named.now c.args.cells.now.pieces c.loop-left.cells.pieces (subst (λ (n : ℕ). AreTakenBack (drop n c.args.named.now) c.args.cells.now.pieces c.loop-left.cells.pieces) e c.loop-left.invariant.back)
