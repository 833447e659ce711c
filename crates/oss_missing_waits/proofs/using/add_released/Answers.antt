use Rattle.std.proofs.Common.{◌≡◌, ◌∙◌, ℕ, subst, arith}
use Rattle.oss_missing_waits.specs.Kept.{IsAddedFrom}
use Rattle.oss_missing_waits.proofs.UsingLemmas.{added_none, added_past, added_run}
use Rattle.oss_missing_waits.proofs.using.add_released.Goals as goal

pub loop-from-init : goal.loop-from-init
loop-from-init c = record {
  low = omega arith;
  high = let o = c.args.range.ordered in omega (arith, o);
  added = added_none c.args.range.lo c.args.released.now c.args.used.now;
}

pub loop-from-preserved-in_ok-add : goal.loop-from-preserved-in_ok-add
loop-from-preserved-in_ok-add c =
    let low = c.loop-from.invariant.low in
    let some = c.run_from-held.ensures.some in
    record {
      low = omega (arith, low, some);
      high = c.run_from-held.ensures.within;
      added =
          added_run c.args.range.lo c.loop-from.from c.run_from-held.result.1 c.args.released.now c.args.used.now c.loop-from.used c.add.new.self low (omega (arith, some))
          (λ e l h. c.run_from-held.ensures.alike e l h ∙ c.if-held.true) c.in_ok-add.ensures c.loop-from.invariant.added;
    }

pub loop-from-preserved : goal.loop-from-preserved
loop-from-preserved c =
    let low = c.loop-from.invariant.low in
    let some = c.run_from-held.ensures.some in
    record {
      low = omega (arith, low, some);
      high = c.run_from-held.ensures.within;
      added =
          added_past c.args.range.lo c.loop-from.from c.run_from-held.result.1 c.args.released.now c.args.used.now c.loop-from.used low (omega (arith, some))
          (λ e l h. c.run_from-held.ensures.alike e l h ∙ c.if-held.false) c.loop-from.invariant.added;
    }

pub returns : goal.returns
returns c =
    let high = c.loop-from.invariant.high in
    let test = c.loop-from-test.false in
    let at : c.loop-from.from ≡ c.args.range.hi = omega (arith, high, test) in
    subst (λ (n : ℕ). IsAddedFrom c.args.range.lo n c.args.released.now c.args.used.now c.loop-from.used) at c.loop-from.invariant.added
