use Rattle.std.proofs.Common.{arith, sym, subst, ap, ◌∙◌}
use Rattle.oss_span.specs.declared.best.Best.{Best}
use Rattle.oss_span.specs.declared.best.Mark.{Mark}
use Rattle.oss_span.specs.Bests.{better}
use Rattle.oss_span.specs.Tables.{IsGreatest}
use Rattle.oss_span.proofs.TableLemmas.{greatest_more, greatest_past}
use Rattle.oss_span.proofs.table.greatest.Goals as goal

pub loop-from-preserved-in-Some : goal.loop-from-preserved-in-Some
loop-from-preserved-in-Some c = record {
  low = omega arith;
  high = omega arith;
  best =
      subst (λ (b : Best). IsGreatest c.args.way c.args.table.now.pieces c.args.range.lo c.run_from-found.result.1 b)
      (sym (c.or-best.ensures ∙ ap (λ (m : Mark). better c.loop-from.best (record { mark = m; cell = c.loop-from.from })) c.picked.ensures))
      (greatest_more c.args.way c.args.table.now.pieces c.args.range.lo c.loop-from.from c.run_from-found.result.1 c.in-Some.marks c.loop-from.best c.loop-from.invariant.low c.run_from-found.ensures.some
      (λ k a b. c.run_from-found.ensures.alike k a b ∙ c.in-Some.is) c.loop-from.invariant.best);
}

pub loop-from-preserved : goal.loop-from-preserved
loop-from-preserved c = record {
  low = omega arith;
  high = omega arith;
  best =
      greatest_past c.args.way c.args.table.now.pieces c.args.range.lo c.loop-from.from c.run_from-found.result.1 c.loop-from.best c.run_from-found.ensures.some (λ k a b. c.run_from-found.ensures.alike k a b ∙ c.in_default.is) c.loop-from.invariant.best;
}
