use Rattle.std.proofs.Common.{◌∙◌, ap, arith}
use Rattle.oss_needs.specs.Givens.{with_clause}
use Rattle.oss_task_needs.proofs.SayLemmas.{said_none, said_run}
use Rattle.oss_task_needs.proofs.givens.say.Goals as goal

pub loop-from-init : goal.loop-from-init
loop-from-init c = record {
  low = omega arith;
  high = let o = c.args.range.ordered in omega (arith, o);
  said = said_none c.args.clause c.args.range.lo c.args.cells.now.pieces;
}

pub loop-from-preserved : goal.loop-from-preserved
loop-from-preserved c =
    let low = c.loop-from.invariant.low in
    let some = c.run_from-given.ensures.some in
    record {
      low = omega (arith, low, some);
      high = c.run_from-given.ensures.within;
      said =
          said_run c.args.clause c.args.range.lo c.loop-from.from c.run_from-given.result.1 c.args.cells.now.pieces c.loop-from.cells.pieces c.assign.new.self.pieces c.run_from-given.result.0 c.with.result low (omega (arith, some)) c.run_from-given.ensures.alike
          (c.with.ensures ∙ ap (with_clause c.args.clause) c.or_nothing.ensures) c.in_ok-assign.ensures.map c.loop-from.invariant.said;
    }
