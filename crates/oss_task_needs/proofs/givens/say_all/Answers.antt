use Rattle.std.proofs.Common.{◌≡◌, ◌∷◌, ◌<◌, ℕ, suc, sym, ap, ◌∙◌, subst, length, drop, arith, List, ◌-◌}
use Rattle.std.proofs.Math.Seq.{drop-cons}
use Rattle.oss_syntax.specs.declared.access.Access.{Access}
use Rattle.oss_needs.specs.declared.clause.Clause.{Clause}
use Rattle.oss_task_needs.specs.Saying.{AreGiven, IsSaid}
use Rattle.oss_task_needs.proofs.SayLemmas.{said_more}
use Rattle.oss_task_needs.proofs.givens.say_all.Goals as goal

pub loop-left-preserved : goal.loop-left-preserved
loop-left-preserved c =
    let xs = c.args.clauses.now in
    let at = c.loop-left.left - 1 in
    let a = c.index-clauses-left.result in
    let rest = drop c.loop-left.left xs in
    let within : at < length xs = let upper = c.loop-left.invariant.within in omega arith in
    let next : suc at ≡ c.loop-left.left = omega arith in
    let split : drop at xs ≡ a ∷ rest = drop-cons xs at a within ∙ ap (λ y. y ∷ drop (suc at) xs) (sym c.index-clauses-left.is) ∙ ap (λ k. a ∷ drop k xs) next in
    record {
      within = omega arith;
      given =
          subst (λ (ys : List Access). AreGiven c.args.is_final ys c.say.new.cells.pieces) (sym split)
          (said_more c.args.is_final a rest c.loop-left.cells.pieces c.say.new.cells.pieces c.loop-left.invariant.given (subst (λ (k : Clause). IsSaid k a.range.lo a.range.hi c.loop-left.cells.pieces c.say.new.cells.pieces) c.of.ensures c.in_ok-say.ensures));
    }

pub returns : goal.returns
returns c =
    let t = c.loop-left-test.false in
    let e : c.loop-left.left ≡ 0 = omega (arith, t) in
    record { given = subst (λ (n : ℕ). AreGiven c.args.is_final (drop n c.args.clauses.now) c.loop-left.cells.pieces) e c.loop-left.invariant.given }
