use Rattle.std.proofs.Common.{◌∙◌, ℕ, sym, arith}
use Rattle.oss_judge.specs.Seen.{right_seen}
use Rattle.oss_model.specs.Context.{right_of}
use Rattle.oss_pieces.specs.CellSets.{has}
use Rattle.oss_ranges.specs.Cells.{value_at}
use Rattle.oss_explain.proofs.SearchLemmas.{covered_next}
use Rattle.oss_explain.proofs.failing.uncovered_cells.Goals as goal

pub runs-preserved : goal.runs-preserved
runs-preserved c =
    let a = c.right_run-right.ensures.within in
    let b = c.run_from-mode.ensures.within in
    let d = c.right_run-right.ensures.some in
    record {
      within = omega (arith, a, b);
      so_far =
          covered_next (λ (k : ℕ). right_of c.args.context.now k) (λ (k : ℕ). value_at c.args.wanted.now.modes.pieces k) (λ (k : ℕ). has c.runs.cells k) c.runs.from c.run_from-mode.result.1 c.right_run-right.result.1
          (right_seen c.right_run-right.result.0) c.run_from-mode.result.0 a c.right_run-right.ensures.alike c.run_from-mode.ensures.alike (sym c.is_uncovered.ensures ∙ c.if-is_uncovered.false) c.runs.invariant.so_far c.runs.invariant.past;
      past = λ k l. c.runs.invariant.past k (omega (arith, l, d));
      outside = λ z k l. c.run_from-mode.ensures.past k l;
    }
