use Rattle.std.proofs.Common.{◌≡◌, ◌∙◌, ℕ, subst, arith}
use Rattle.oss_task_needs.specs.Asking.{IsAskedFor}
use Rattle.oss_task_needs.proofs.AskLemmas.{asked_for_all, asked_for_none, asked_for_past, asked_for_run}
use Rattle.oss_task_needs.proofs.asking.ask_for_runs.Goals as goal

pub loop-from-init : goal.loop-from-init
loop-from-init c = (omega arith, asked_for_none c.args.clauses.now.pieces c.args.cells.now.pieces)

pub loop-from-preserved-in_ok-ask_runs : goal.loop-from-preserved-in_ok-ask_runs
loop-from-preserved-in_ok-ask_runs c =
    let some = c.run_from-clause.ensures.some in (
      c.run_from-clause.ensures.within,
      asked_for_run c.args.clauses.now.pieces c.loop-from.from c.run_from-clause.result.1 c.in-Some.clause c.args.cells.now.pieces c.loop-from.cells.pieces c.ask_runs.new.cells.pieces (omega (arith, some))
          (λ e l h. c.run_from-clause.ensures.alike e l h ∙ c.in-Some.is) c.in_ok-ask_runs.ensures c.loop-from.invariant.1,
    )

pub loop-from-preserved : goal.loop-from-preserved
loop-from-preserved c =
    let some = c.run_from-clause.ensures.some in (
      c.run_from-clause.ensures.within,
      asked_for_past c.args.clauses.now.pieces c.loop-from.from c.run_from-clause.result.1 c.args.cells.now.pieces c.loop-from.cells.pieces (omega (arith, some))
          (λ e l h. c.run_from-clause.ensures.alike e l h ∙ c.in_default.is) c.loop-from.invariant.1,
    )

pub returns : goal.returns
returns c =
    let high = c.loop-from.invariant.0 in
    let test = c.loop-from-test.false in
    let at : c.loop-from.from ≡ 1048576 = omega (arith, high, test) in
    asked_for_all c.args.clauses.now.pieces 1048576 c.args.cells.now.pieces c.loop-from.cells.pieces c.run_from-past.ensures.past
    (subst (λ (n : ℕ). IsAskedFor c.args.clauses.now.pieces n c.args.cells.now.pieces c.loop-from.cells.pieces) at c.loop-from.invariant.1)
