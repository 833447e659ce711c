use Rattle.std.proofs.Common.{◌≡◌, ◌∷◌, ◌<◌, ◌-◌, ℕ, suc, sym, ap, ◌∙◌, subst, length, drop, arith}
use Rattle.std.specs.Prelude.{◌||◌}
use Rattle.std.proofs.Math.Seq.{drop-cons}
use Rattle.oss_model.specs.Rights.{any_cell, any_from, is_mixed, is_unjoinable, right_from}
use Rattle.oss_judge.specs.Seen.{right_at}
use Rattle.oss_judge.proofs.GivenLemmas.{Joins, gives-more}
use Rattle.oss_judge.proofs.TestLemmas.{mixed-more, flag-set, flag-stays}
use Rattle.oss_judge.proofs.given.join_all.Goals as goal
use Rattle.oss_judge.proofs.given.join_all.Goals.{then-is_any_unjoinable, else-is_any_unjoinable, then-is_final, else-is_final}

pub loop-left-preserved : goal.loop-left-preserved
loop-left-preserved c =
    let xs = c.args.clauses.now in
    let final = c.args.is_final in
    let at = c.loop-left.left - 1 in
    let a = c.index-clauses-left.result in
    let rest = drop c.loop-left.left xs in
    let within : at < length xs = let upper = c.loop-left.invariant.within in omega arith in
    let next : suc at ≡ c.loop-left.left = omega arith in
    let split : drop at xs ≡ a ∷ rest = drop-cons xs at a within ∙ ap (λ y. y ∷ drop (suc at) xs) (sym c.index-clauses-left.is) ∙ ap (λ k. a ∷ drop k xs) next in
    let test = λ (k : ℕ). is_unjoinable a.mode (right_at c.loop-left.rights.pieces k) in
    let any = any_from test a.range.lo (a.range.hi - a.range.lo) in
    let flag : c.if-is_any_unjoinable.is_mixed ≡ (c.loop-left.is_mixed || any) =
    elim c.if-is_any_unjoinable.branch [
      | then-is_any_unjoinable w ↦ w.is_mixed-is ∙ flag-set c.loop-left.is_mixed any (sym c.is_any_unjoinable.ensures ∙ w.if-is_any_unjoinable.true)
      | else-is_any_unjoinable w ↦ w.is_mixed-is ∙ flag-stays c.loop-left.is_mixed any (sym c.is_any_unjoinable.ensures ∙ w.if-is_any_unjoinable.false)
    ] in
    let strong : c.if-is_final.join ≡ (final || a.strong) =
    elim c.if-is_final.branch [
      | then-is_final w ↦ w.join-is ∙ w.if-is_final.true ∙ sym (ap (λ b. b || a.strong) w.if-is_final.true)
      | else-is_final w ↦ w.join-is ∙ sym (ap (λ b. b || a.strong) w.if-is_final.false)
    ] in
    let joins = subst (λ b. Joins a.mode b a.range.lo a.range.hi c.loop-left.rights.pieces c.join.new.rights.pieces) strong c.in_ok-join.ensures in
    let more = mixed-more final a rest test (λ k. ap (λ r. is_unjoinable a.mode r) (c.loop-left.invariant.given k)) in
    record {
      within = omega arith;
      given = λ k. gives-more final a rest c.loop-left.rights.pieces c.join.new.rights.pieces c.loop-left.invariant.given joins k ∙ sym (ap (λ ys. right_from final ys k) split);
      mixed = flag ∙ ap (λ b. b || any) c.loop-left.invariant.mixed ∙ sym more ∙ ap (λ ys. any_cell (is_mixed final ys) ys) (sym split);
    }
