use Rattle.std.proofs.Common.{◌≡◌, ◌∙◌, ℕ, subst, arith}
use Rattle.oss_lent_cells.specs.Kept.{AreLentBefore, IsLentTo}
use Rattle.oss_lent_cells.specs.declared.holder.Holder.{Holder}
use Rattle.oss_lent_cells.proofs.LendLemmas.{lends_all, lends_none, lends_past, lends_run}
use Rattle.oss_lent_cells.proofs.lending.lend_runs.Goals as goal

pub loop-from-init : goal.loop-from-init
loop-from-init c = record { high = omega arith; lent = lends_none c.args.child c.args.clauses.now.pieces c.args.cells.now.pieces }

pub loop-from-preserved-in_ok-lend_range : goal.loop-from-preserved-in_ok-lend_range
loop-from-preserved-in_ok-lend_range c =
    let some = c.run_from-clause.ensures.some in
    record {
      high = c.run_from-clause.ensures.within;
      lent =
          lends_run c.args.child c.loop-from.from c.run_from-clause.result.1 c.args.clauses.now.pieces c.in-Some.clause c.args.cells.now.pieces c.loop-from.cells.pieces c.lend_range.new.cells.pieces (omega (arith, some))
          (λ e l h. c.run_from-clause.ensures.alike e l h ∙ c.in-Some.is) (subst (λ (h : Holder). IsLentTo h c.loop-from.from c.run_from-clause.result.1 c.loop-from.cells.pieces c.lend_range.new.cells.pieces) c.holder_by.ensures c.in_ok-lend_range.ensures) c.loop-from.invariant.lent;
    }

pub loop-from-preserved : goal.loop-from-preserved
loop-from-preserved c =
    let some = c.run_from-clause.ensures.some in
    record {
      high = c.run_from-clause.ensures.within;
      lent =
          lends_past c.args.child c.loop-from.from c.run_from-clause.result.1 c.args.clauses.now.pieces c.args.cells.now.pieces c.loop-from.cells.pieces (omega (arith, some))
          (λ e l h. c.run_from-clause.ensures.alike e l h ∙ c.in_default.is) c.loop-from.invariant.lent;
    }

pub returns : goal.returns
returns c =
    let high = c.loop-from.invariant.high in
    let test = c.loop-from-test.false in
    let at : c.loop-from.from ≡ 1048576 = omega (arith, high, test) in
    lends_all c.args.child 1048576 c.args.clauses.now.pieces c.args.cells.now.pieces c.loop-from.cells.pieces c.run_from-past.ensures.past
    (subst (λ (n : ℕ). AreLentBefore c.args.child c.args.clauses.now.pieces n c.args.cells.now.pieces c.loop-from.cells.pieces) at c.loop-from.invariant.lent)
