use Rattle.std.proofs.Common.{◌≡◌, ℕ, suc, ◌+◌, sym, subst, arith, List, length, get_or}
use Rattle.std.proofs.lemmas.Option.{slice_get-get_or}
use Rattle.oss_core.specs.declared.passing.Passed.{Passed}
use Rattle.oss_core.specs.Cores.{kept_of}
use Rattle.oss_core.specs.Passing.{TasksPassed, more_tasks, no_tasks}
use Rattle.oss_core.proofs.LeavingLemmas.{tasks_leave}
use Rattle.oss_core.proofs.PassLemmas.{has_passed, is_asked}
use Rattle.oss_core.proofs.RunsLemmas.{cells_go, given_itself, given_then, there_in}
use Rattle.oss_core.proofs.machine.Core.pass.Goals as goal

pub loop-at-init : goal.loop-at-init
loop-at-init g c = record {
  running = c.requires.running;
  given = given_itself c.args.self.now.tree.tasks;
  passed = subst (λ (ps : List Passed). TasksPassed c.args.code.now c.args.asked.now (kept_of g.D.Deps.seen c.args.self.now) 0 (kept_of g.D.Deps.seen c.args.self.now) ps) (sym c.new-passed.ensures.items) no_tasks;
}

pub pass_task-requires-clause-there : goal.pass_task-requires-clause-there
pass_task-requires-clause-there g c =
    there_in c.loop-at.invariant.running c.loop-at.invariant.given (get_or c.args.asked.now c.loop-at.at (record { 0 = 0 })).0 (is_asked (kept_of g.D.Deps.seen c.args.self.now) c.args.asked.now c.requires.asked c.loop-at.at (record { 0 = 0 }) c.loop-at-test.true)

pub loop-at-preserved : goal.loop-at-preserved
loop-at-preserved g c =
    let done = c.in_ok-pass_task.ensures in
    let there =
    there_in c.loop-at.invariant.running c.loop-at.invariant.given (get_or c.args.asked.now c.loop-at.at (record { 0 = 0 })).0 (is_asked (kept_of g.D.Deps.seen c.args.self.now) c.args.asked.now c.requires.asked c.loop-at.at (record { 0 = 0 }) c.loop-at-test.true)
    in
    let go = cells_go c.loop-at.invariant.running there done.cells in
    let e : suc c.loop-at.at ≡ c.loop-at.at + 1 = omega arith in
    record {
      running = go.running;
      given = given_then c.loop-at.invariant.given go.given;
      passed = subst (λ (i : ℕ). TasksPassed c.args.code.now c.args.asked.now (kept_of g.D.Deps.seen c.args.self.now) i (kept_of g.D.Deps.seen c.pass_task.new.self) c.pass_task.new.passed.items) e
          (more_tasks c.loop-at.invariant.passed (slice_get-get_or c.args.asked.now c.loop-at.at (record { 0 = 0 }) c.loop-at-test.true) done);
    }

pub returns-clause-passed : goal.returns-clause-passed
returns-clause-passed g c =
    let l = c.loop-at.auto.at-end in
    let m = c.loop-at-test.false in
    let e : c.loop-at.at ≡ length c.args.asked.now = omega (arith, l, m) in
    has_passed c.args.code.now (kept_of g.D.Deps.seen c.args.self.now) (kept_of g.D.Deps.seen c.loop-at.self) c.args.asked.now c.loop-at.passed.items c.requires.asked
    (subst (λ (i : ℕ). TasksPassed c.args.code.now c.args.asked.now (kept_of g.D.Deps.seen c.args.self.now) i (kept_of g.D.Deps.seen c.loop-at.self) c.loop-at.passed.items) e c.loop-at.invariant.passed)

pub returns-clause-given_up : goal.returns-clause-given_up
returns-clause-given_up g c = tasks_leave c.loop-at.invariant.passed
