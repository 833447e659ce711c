use Rattle.std.proofs.Common.{◌≡◌, ℕ, subst, arith}
use Rattle.oss_task_needs.specs.Asking.{IsAsked}
use Rattle.oss_task_needs.proofs.AskLemmas.{asked_none, asked_run}
use Rattle.oss_task_needs.proofs.asking.ask_runs.Goals as goal

pub loop-from-init : goal.loop-from-init
loop-from-init c = record {
  low = omega arith;
  high = let o = c.args.range.ordered in omega (arith, o);
  asked = asked_none c.args.demand c.args.range.lo c.args.cells.now.pieces;
}

pub loop-from-preserved : goal.loop-from-preserved
loop-from-preserved c =
    let low = c.loop-from.invariant.low in
    let some = c.run_from-need.ensures.some in
    record {
      low = omega (arith, low, some);
      high = c.run_from-need.ensures.within;
      asked =
          asked_run c.args.demand c.args.range.lo c.loop-from.from c.run_from-need.result.1 c.args.cells.now.pieces c.loop-from.cells.pieces c.assign.new.self.pieces c.run_from-need.result.0 c.with_demand.result low (omega (arith, some)) c.run_from-need.ensures.alike
          c.with_demand.ensures c.in_ok-assign.ensures.map c.loop-from.invariant.asked;
    }

pub returns : goal.returns
returns c =
    let high = c.loop-from.invariant.high in
    let test = c.loop-from-test.false in
    let at : c.loop-from.from ≡ c.args.range.hi = omega (arith, high, test) in
    subst (λ (n : ℕ). IsAsked c.args.demand c.args.range.lo n c.args.cells.now.pieces c.loop-from.cells.pieces) at c.loop-from.invariant.asked
