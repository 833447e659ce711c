use Rattle.std.proofs.Common.{List, subst, sym}
use Rattle.oss_model.specs.declared.task_no.TaskNo.{TaskNo}
use Rattle.oss_core.specs.declared.turns.Turn.{Turn}
use Rattle.oss_core.specs.Awake.{HaveSteppers}
use Rattle.oss_core.specs.Cores.{kept_of}
use Rattle.oss_wakeups.specs.Watches.{IsBehindWave}
use Rattle.oss_wakeups.proofs.RoundLemmas.{has_steppers}
use Rattle.oss_program_tests.proofs.TrialLemmas.{behind_wave, turns_there, wave_running}
use Rattle.oss_program_tests.proofs.waving.wave.Goals as goal

pub bare_wave-requires-clause-asked : goal.bare_wave-requires-clause-asked
bare_wave-requires-clause-asked g c = subst (λ (ts : List TaskNo). HaveSteppers (kept_of g.D.Deps.seen c.args.core.now) ts) (sym c.awake.ensures) (has_steppers c.requires.running c.args.watch.now c.requires.watch)

pub after_wave-requires-clause-running : goal.after_wave-requires-clause-running
after_wave-requires-clause-running g c =
    (c.args.code.now, wave_running c.args.code.now (kept_of g.D.Deps.seen c.args.core.now) (kept_of g.D.Deps.seen c.bare_wave.new.core) c.in_ok-turns.turns.items c.requires.running c.in_ok-turns.ensures.waved)

pub after_wave-requires-clause-behind : goal.after_wave-requires-clause-behind
after_wave-requires-clause-behind g c =
    subst (λ (ts : List Turn). IsBehindWave ts (kept_of g.D.Deps.seen c.bare_wave.new.core) c.args.watch.now) (sym c.as_slice.ensures.value)
    (behind_wave c.args.code.now (kept_of g.D.Deps.seen c.args.core.now) (kept_of g.D.Deps.seen c.bare_wave.new.core) c.in_ok-turns.turns.items c.args.watch.now c.requires.running c.requires.watch c.in_ok-turns.ensures.turned c.in_ok-turns.ensures.tasks)

pub after_wave-requires-clause-there : goal.after_wave-requires-clause-there
after_wave-requires-clause-there g c = λ at one e.
    turns_there c.args.code.now (kept_of g.D.Deps.seen c.args.core.now) (kept_of g.D.Deps.seen c.bare_wave.new.core) c.in_ok-turns.turns.items c.requires.running c.in_ok-turns.ensures.turned c.in_ok-turns.ensures.tasks at one (rw (sym c.as_slice.ensures.value) e)

pub returns-clause-running : goal.returns-clause-running
returns-clause-running g c =
    wave_running c.args.code.now (kept_of g.D.Deps.seen c.args.core.now) (kept_of g.D.Deps.seen c.bare_wave.new.core) c.in_ok-turns.turns.items c.requires.running c.in_ok-turns.ensures.waved
