use Rattle.std.proofs.Common.{arith}
use Rattle.oss_core.proofs.WriteLemmas.{all_runs, more_runs, no_runs}
use Rattle.oss_core.proofs.putting.write_all.Goals as goal

pub runs-init : goal.runs-init
runs-init c = record { put = no_runs c.args.writes.now.pieces c.args.cells.now; past = λ l. absurd (omega (arith, l)) }

pub runs-preserved : goal.runs-preserved
runs-preserved c = record {
  put = more_runs c.args.writes.now.pieces c.runs.from c.run_from-value.result.1 c.run_from-value.result.0 c.args.cells.now c.runs.cells c.put_run.new.cells c.run_from-value.ensures.some c.run_from-value.ensures.alike c.runs.invariant.put c.put_run.ensures;
  past = λ l. c.run_from-value.ensures.past;
}

pub returns : goal.returns
returns c = let l = c.runs-test.false in all_runs c.args.writes.now.pieces c.runs.from c.args.cells.now c.runs.cells l (c.runs.invariant.past (omega (arith, l))) c.runs.invariant.put
