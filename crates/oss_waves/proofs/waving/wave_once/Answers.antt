use Rattle.std.proofs.Common.{◌≡◌, ◌∙◌, arith, length, subst, sym, List, vec_len}
use Rattle.oss_model.specs.declared.task_no.TaskNo.{TaskNo}
use Rattle.oss_core.specs.Awake.{HaveSteppers}
use Rattle.oss_core.specs.Cores.{kept_of}
use Rattle.oss_core.specs.declared.turns.Turn.{Turn}
use Rattle.oss_wakeups.specs.Watches.{IsBehindWave}
use Rattle.oss_wakeups.proofs.RoundLemmas.{has_steppers}
use Rattle.oss_waves.specs.Noting.{IsStepOf, Notes}
use Rattle.oss_waves.proofs.WavingLemmas.{behind_wave, wave_made, waved_running, waved_there}
use Rattle.oss_waves.proofs.waving.wave_once.Goals as goal

pub wave-requires-clause-asked : goal.wave-requires-clause-asked
wave-requires-clause-asked g c κs within =
    subst (λ (ts : List TaskNo). HaveSteppers (kept_of g.D.Deps.seen c.args.core.now) ts) (sym c.awake.ensures) (has_steppers c.requires.running c.args.watch.now c.requires.watch)

pub note_turns-requires : goal.note_turns-requires
note_turns-requires g c = λ at one e.
    waved_there c.args.code.now (kept_of g.D.Deps.seen c.args.core.now) (kept_of g.D.Deps.seen c.wave.new.core) c.in_ok-turns.turns.items c.requires.running c.in_ok-turns.ensures.waved c.in_ok-turns.ensures.tasks at one (rw (sym c.as_slice.ensures.value) e)

pub after_wave-requires-clause-running : goal.after_wave-requires-clause-running
after_wave-requires-clause-running g c =
    (c.args.code.now, waved_running c.args.code.now (kept_of g.D.Deps.seen c.args.core.now) (kept_of g.D.Deps.seen c.wave.new.core) c.in_ok-turns.turns.items c.requires.running c.in_ok-turns.ensures.waved)

pub after_wave-requires-clause-behind : goal.after_wave-requires-clause-behind
after_wave-requires-clause-behind g c =
    subst (λ (ts : List Turn). IsBehindWave ts (kept_of g.D.Deps.seen c.wave.new.core) c.args.watch.now) (sym c.as_slice-2.ensures.value)
    (behind_wave c.args.code.now (kept_of g.D.Deps.seen c.args.core.now) (kept_of g.D.Deps.seen c.wave.new.core) c.in_ok-turns.turns.items c.args.watch.now c.requires.running c.requires.watch c.in_ok-turns.ensures.turned c.in_ok-turns.ensures.tasks)

pub after_wave-requires-clause-there : goal.after_wave-requires-clause-there
after_wave-requires-clause-there g c = λ at one e.
    waved_there c.args.code.now (kept_of g.D.Deps.seen c.args.core.now) (kept_of g.D.Deps.seen c.wave.new.core) c.in_ok-turns.turns.items c.requires.running c.in_ok-turns.ensures.waved c.in_ok-turns.ensures.tasks at one (rw (sym c.as_slice-2.ensures.value) e)

pub returns-clause-wave : goal.returns-clause-wave
returns-clause-wave g c =
    wave_made c.args.code.now (kept_of g.D.Deps.seen c.args.core.now) (kept_of g.D.Deps.seen c.wave.new.core) c.in_ok-turns.turns.items c.args.lines.now c.note_turns.new.lines _ c.in_ok-turns.ensures.waved c.in_ok-turns.ensures.tasks
    (subst (λ (told : List Turn). Notes (IsStepOf c.wave.new.core.tree.tasks) told c.args.lines.now c.note_turns.new.lines) c.as_slice.ensures.value c.in_ok-note_turns.ensures) (let l : vec_len c.in_ok-turns.turns ≡ length c.in_ok-turns.turns.items = omega (arith, c.in_ok-turns.turns.ok.0) in c.len.ensures ∙ l)
