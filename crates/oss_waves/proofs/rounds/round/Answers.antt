use Rattle.std.proofs.Common.{subst, sym}
use Rattle.oss_core.specs.Cores.{kept_of}
use Rattle.oss_core.specs.Kept.{Kept}
use Rattle.oss_waves.specs.Rounding.{HasMadePasses}
use Rattle.oss_waves.proofs.PassingLemmas.{passes_running, rest_quiet}
use Rattle.oss_waves.proofs.RoundLemmas.{none_acts, round_made, wave_running}
use Rattle.oss_waves.proofs.rounds.round.Goals as goal

-- no task had a turn
pub returns-then-turns-eq0-clause-went : goal.returns-then-turns-eq0-clause-went
returns-then-turns-eq0-clause-went g c =
    none_acts c.args.code.now (kept_of g.D.Deps.seen c.args.core.now) (kept_of g.D.Deps.seen c.wave_once.new.core) c.args.lines.now c.wave_once.new.lines c.in_ok-turns.turns c.if-turns-eq0.true c.in_ok-turns.ensures.wave

pub pass_all-requires-clause-running : goal.pass_all-requires-clause-running
pass_all-requires-clause-running g c =
    wave_running c.args.code.now (kept_of g.D.Deps.seen c.args.core.now) (kept_of g.D.Deps.seen c.wave_once.new.core) c.args.lines.now c.wave_once.new.lines c.in_ok-turns.turns c.requires.running c.in_ok-turns.ensures.wave

-- behind the passes no cell may be given up
pub rest-requires-clause-running : goal.rest-requires-clause-running
rest-requires-clause-running g c = (
  c.args.code.now,
  passes_running c.args.code.now (kept_of g.D.Deps.seen c.wave_once.new.core) (kept_of g.D.Deps.seen c.pass_all.new.core) c.wave_once.new.lines c.pass_all.new.lines
      (wave_running c.args.code.now (kept_of g.D.Deps.seen c.args.core.now) (kept_of g.D.Deps.seen c.wave_once.new.core) c.args.lines.now c.wave_once.new.lines c.in_ok-turns.turns c.requires.running c.in_ok-turns.ensures.wave) c.in_ok-pass_all.ensures.passes,
)

pub rest-requires-clause-quiet : goal.rest-requires-clause-quiet
rest-requires-clause-quiet g c =
    rest_quiet c.args.code.now (kept_of g.D.Deps.seen c.wave_once.new.core) (kept_of g.D.Deps.seen c.pass_all.new.core) c.wave_once.new.lines c.pass_all.new.lines
    (wave_running c.args.code.now (kept_of g.D.Deps.seen c.args.core.now) (kept_of g.D.Deps.seen c.wave_once.new.core) c.args.lines.now c.wave_once.new.lines c.in_ok-turns.turns c.requires.running c.in_ok-turns.ensures.wave) c.in_ok-pass_all.ensures.passes

-- wave and passes are a round
pub returns-clause-went : goal.returns-clause-went
returns-clause-went g c =
    round_made c.args.code.now (kept_of g.D.Deps.seen c.args.core.now) (kept_of g.D.Deps.seen c.wave_once.new.core) (kept_of g.D.Deps.seen c.rest.new.core) c.args.lines.now c.wave_once.new.lines c.pass_all.new.lines c.in_ok-turns.turns c.if-turns-eq0.false
    c.in_ok-turns.ensures.wave (subst (λ (k : Kept). HasMadePasses c.args.code.now (kept_of g.D.Deps.seen c.wave_once.new.core) k c.wave_once.new.lines c.pass_all.new.lines) (sym c.rest.ensures.same) c.in_ok-pass_all.ensures.passes)
