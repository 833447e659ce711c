use Rattle.std.proofs.Common.{◌≡◌, ◌<◌, ◌≤◌, ◌∙◌, ℕ, sym, ap, arith}
use Rattle.oss_ranges.specs.Cells.{value_at}
use Rattle.oss_needs.specs.Lacks.{lack_of, mended}
use Rattle.oss_task_needs.specs.Mends.{kept_lack}
use Rattle.oss_task_needs.specs.Saying.{given_at, or_no_word}
use Rattle.oss_task_needs.proofs.MendLemmas.{has_none, has_run}
use Rattle.oss_task_needs.proofs.mending.mend_all.Goals as goal

pub loop-from-init : goal.loop-from-init
loop-from-init c = record {
  high = omega arith;
  clauses = has_none mended (given_at c.args.givens.now.pieces) (value_at c.args.needs.now.pieces) c.args.clauses.now.pieces c.requires.clauses;
  lacks = has_none (λ g ds. kept_lack (lack_of g ds)) (given_at c.args.givens.now.pieces) (value_at c.args.needs.now.pieces) c.args.lacks.now.pieces c.requires.lacks;
}

pub loop-from-preserved : goal.loop-from-preserved
loop-from-preserved c =
    let from = c.loop-from.from in
    let to = c.run_from-need.result.1 in
    let some = c.run_from-need.ensures.some in
    let within = c.run_from-need.ensures.within in
    let given_within = c.run_from-given.ensures.within in
    let says : (e : ℕ) → from ≤ e → e < to → given_at c.args.givens.now.pieces e ≡ c.or_nothing.result =
    λ e l h. ap or_no_word (c.run_from-given.ensures.alike e l (omega (arith, h, within))) ∙ sym c.or_nothing.ensures in
    record {
      high = omega (arith, within, given_within);
      clauses =
          has_run mended (given_at c.args.givens.now.pieces) (value_at c.args.needs.now.pieces) from to c.loop-from.clauses.pieces c.mend_run.new.clauses.pieces c.or_nothing.result c.run_from-need.result.0 c.or_none.result some says
          c.run_from-need.ensures.alike c.or_none.ensures c.in_ok-mend_run.ensures.clauses c.loop-from.invariant.clauses;
      lacks =
          has_run (λ g ds. kept_lack (lack_of g ds)) (given_at c.args.givens.now.pieces) (value_at c.args.needs.now.pieces) from to c.loop-from.lacks.pieces c.mend_run.new.lacks.pieces c.or_nothing.result c.run_from-need.result.0 c.or_none.result some says
          c.run_from-need.ensures.alike c.or_none.ensures c.in_ok-mend_run.ensures.lacks c.loop-from.invariant.lacks;
    }
