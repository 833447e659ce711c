use Rattle.std.proofs.Common.{List, subst, sym}
use Rattle.oss_model.specs.declared.task_no.TaskNo.{TaskNo}
use Rattle.oss_core.specs.declared.passing.Passed.{Passed}
use Rattle.oss_core.specs.Awake.{HaveGivers}
use Rattle.oss_core.specs.Cores.{kept_of}
use Rattle.oss_wakeups.specs.Watches.{IsBehindPass}
use Rattle.oss_wakeups.proofs.RoundLemmas.{has_givers}
use Rattle.oss_program_tests.proofs.TrialLemmas.{behind_pass, pass_running, passed_quiet, passed_there}
use Rattle.oss_program_tests.proofs.waving.pass_once.Goals as goal

pub pass-requires-clause-asked : goal.pass-requires-clause-asked
pass-requires-clause-asked g c = subst (λ (ts : List TaskNo). HaveGivers (kept_of g.D.Deps.seen c.args.core.now) ts) (sym c.awake.ensures) (has_givers (kept_of g.D.Deps.seen c.args.core.now) c.args.watch.now c.requires.watch)

pub after_pass-requires-clause-running : goal.after_pass-requires-clause-running
after_pass-requires-clause-running g c =
    (c.args.code.now, pass_running c.args.code.now (kept_of g.D.Deps.seen c.args.core.now) (kept_of g.D.Deps.seen c.pass.new.self) c.in_ok-passed.passed.items c.requires.running c.in_ok-passed.ensures.passed)

pub after_pass-requires-clause-behind : goal.after_pass-requires-clause-behind
after_pass-requires-clause-behind g c =
    subst (λ (ts : List Passed). IsBehindPass ts (kept_of g.D.Deps.seen c.pass.new.self) c.args.watch.now) (sym c.as_slice.ensures.value)
    (behind_pass c.args.code.now (kept_of g.D.Deps.seen c.args.core.now) (kept_of g.D.Deps.seen c.pass.new.self) c.in_ok-passed.passed.items c.args.watch.now c.requires.running c.requires.watch c.in_ok-passed.ensures.given_up c.in_ok-passed.ensures.tasks)

pub after_pass-requires-clause-there : goal.after_pass-requires-clause-there
after_pass-requires-clause-there g c = λ at one e.
    passed_there c.args.code.now (kept_of g.D.Deps.seen c.args.core.now) (kept_of g.D.Deps.seen c.pass.new.self) c.in_ok-passed.passed.items c.requires.running c.in_ok-passed.ensures.passed c.in_ok-passed.ensures.tasks at one (rw (sym c.as_slice.ensures.value) e)

pub returns-clause-running : goal.returns-clause-running
returns-clause-running g c =
    pass_running c.args.code.now (kept_of g.D.Deps.seen c.args.core.now) (kept_of g.D.Deps.seen c.pass.new.self) c.in_ok-passed.passed.items c.requires.running c.in_ok-passed.ensures.passed

pub returns-clause-quiet : goal.returns-clause-quiet
returns-clause-quiet g c = λ e.
    passed_quiet c.args.code.now (kept_of g.D.Deps.seen c.args.core.now) (kept_of g.D.Deps.seen c.pass.new.self) c.in_ok-passed.passed.items c.requires.running c.in_ok-passed.ensures.passed e
