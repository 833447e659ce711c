use Rattle.std.proofs.Common.{◌≡◌, ℕ, subst, arith}
use Rattle.oss_core.specs.Cores.{kept_of}
use Rattle.oss_core.specs.Passing.{CellsPassed, more_cells, no_cells}
use Rattle.oss_core.proofs.AddedLemmas.{none_from, read_there}
use Rattle.oss_core.proofs.RunsLemmas.{run_goes}
use Rattle.oss_core.proofs.machine.Core.pass_task.Goals as goal

pub runs-init : goal.runs-init
runs-init g c = record { running = c.requires.running; there = c.requires.there; within = omega arith; cells = no_cells }

pub runs-preserved : goal.runs-preserved
runs-preserved g c =
    let goes = run_goes c.runs.invariant.running c.runs.invariant.there c.in_ok-from.ensures.ends.0 c.in_ok-from.ensures.passed in
    record { running = goes.running; there = goes.there; within = c.in_ok-from.ensures.ends.1; cells = more_cells c.runs.invariant.cells c.in_ok-from.ensures.ends.0 c.in_ok-from.ensures.passed }

pub returns : goal.returns
returns g c =
    let l = c.runs.invariant.within in
    let m = c.runs-test.false in
    let e : c.runs.from ≡ 1048576 = omega (arith, l, m) in
    record {
      cells = subst (λ (n : ℕ). CellsPassed c.args.code.now c.args.task.0 (kept_of g.D.Deps.seen c.args.self.now) c.args.passed.now.items n (kept_of g.D.Deps.seen c.runs.self) c.runs.passed.items) e c.runs.invariant.cells;
      past = none_from (kept_of g.D.Deps.seen c.runs.self) c.args.task.0 1048576 c.index.result.now (read_there c.runs.self.tasks.items c.args.task.0 c.index.result.now c.runs.invariant.there c.index.ensures) c.owes_none_past.ensures;
    }
