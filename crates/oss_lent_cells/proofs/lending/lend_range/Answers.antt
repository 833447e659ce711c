use Rattle.std.proofs.Common.{◌≡◌, ℕ, subst, arith}
use Rattle.oss_lent_cells.specs.Kept.{IsLentTo}
use Rattle.oss_lent_cells.proofs.LendLemmas.{lent_none, lent_run}
use Rattle.oss_lent_cells.proofs.lending.lend_range.Goals as goal

pub loop-from-init : goal.loop-from-init
loop-from-init c = record {
  low = omega arith;
  high = let o = c.args.range.ordered in omega (arith, o);
  lent = lent_none c.args.child c.args.range.lo c.args.cells.now.pieces;
}

pub loop-from-preserved : goal.loop-from-preserved
loop-from-preserved c =
    let low = c.loop-from.invariant.low in
    let some = c.run_from-lent.ensures.some in
    record {
      low = omega (arith, low, some);
      high = c.run_from-lent.ensures.within;
      lent =
          lent_run c.args.child c.args.range.lo c.loop-from.from c.run_from-lent.result.1 c.args.cells.now.pieces c.loop-from.cells.pieces c.assign.new.self.pieces c.run_from-lent.result.0 c.lent_to.result low (omega (arith, some)) c.run_from-lent.ensures.alike
          c.lent_to.ensures c.in_ok-assign.ensures.map c.loop-from.invariant.lent;
    }

pub returns : goal.returns
returns c =
    let high = c.loop-from.invariant.high in
    let test = c.loop-from-test.false in
    let at : c.loop-from.from ≡ c.args.range.hi = omega (arith, high, test) in
    subst (λ (n : ℕ). IsLentTo c.args.child c.args.range.lo n c.args.cells.now.pieces c.loop-from.cells.pieces) at c.loop-from.invariant.lent
