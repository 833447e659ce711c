use Rattle.std.proofs.Common.{◌≡◌, arith, length, List, max, rules, subst, sym}
use Rattle.oss_core.specs.Cores.{kept_of}
use Rattle.oss_sched.specs.declared.moves.TextMove.{TextMove}
use Rattle.oss_waves.specs.Rounding.{HaveRoundsGone}
use Rattle.oss_waves.proofs.RoundLemmas.{last_round, one_round, resting_runs, round_falls, rounds_resting, rounds_room, went_nowhere, went_on}
use Rattle.oss_waves.proofs.rounds.run_rounds.Goals as goal

pub round-requires-clause-running : goal.round-requires-clause-running
round-requires-clause-running g c κs within =
    resting_runs c.args.code.now (kept_of g.D.Deps.seen c.rounds.core)
    (rounds_resting c.args.code.now (kept_of g.D.Deps.seen c.args.core.now) (kept_of g.D.Deps.seen c.rounds.core) c.rounds.waves c.rounds.widest c.requires.resting c.rounds.invariant.gone)

pub round-requires-clause-room : goal.round-requires-clause-room
round-requires-clause-room g c κs within =
    let e : length c.rounds.core.cells.items ≡ length c.args.core.now.cells.items
    = rounds_room c.args.code.now (kept_of g.D.Deps.seen c.args.core.now) (kept_of g.D.Deps.seen c.rounds.core) c.rounds.waves c.rounds.widest c.requires.resting c.rounds.invariant.gone in
    let r = c.requires.room in
    omega (arith, e, r)

-- no task may act, so no move is left
pub returns-in-Stopped : goal.returns-in-Stopped
returns-in-Stopped g c =
    last_round c.args.code.now (kept_of g.D.Deps.seen c.args.core.now) (kept_of g.D.Deps.seen c.rounds.core) (kept_of g.D.Deps.seen c.round.new.core) (record { waves = c.rounds.waves; widest = c.rounds.widest }) c.rounds.invariant.gone
    (went_nowhere c.args.code.now (kept_of g.D.Deps.seen c.rounds.core) (kept_of g.D.Deps.seen c.round.new.core) c.in_ok-round.field-0 c.new-lines.result c.round.new.lines c.in-Stopped.is c.in_ok-round.ensures.went)

-- else a round was made
pub rounds-smaller : goal.rounds-smaller
rounds-smaller g c =
    round_falls c.args.code.now (kept_of g.D.Deps.seen c.args.core.now) (kept_of g.D.Deps.seen c.rounds.core) (kept_of g.D.Deps.seen c.round.new.core) c.rounds.waves c.rounds.widest c.round.new.lines c.in-On.turns c.requires.resting
    c.rounds.invariant.gone
    (went_on c.args.code.now (kept_of g.D.Deps.seen c.rounds.core) (kept_of g.D.Deps.seen c.round.new.core) c.in_ok-round.field-0 c.in-On.turns c.new-lines.result c.round.new.lines c.in-On.is c.new-lines.ensures
    c.in_ok-round.ensures.went)

pub rounds-preserved : goal.rounds-preserved
rounds-preserved g c =
    let made = went_on c.args.code.now (kept_of g.D.Deps.seen c.rounds.core) (kept_of g.D.Deps.seen c.round.new.core) c.in_ok-round.field-0 c.in-On.turns c.new-lines.result c.round.new.lines c.in-On.is c.new-lines.ensures
    c.in_ok-round.ensures.went in
    let most : c.max-widest.result ≡ max c.rounds.widest c.in-On.turns = search rules in record {
      gone = subst (λ (waves : List (List TextMove)). HaveRoundsGone c.args.code.now (kept_of g.D.Deps.seen c.args.core.now) (kept_of g.D.Deps.seen c.round.new.core) waves c.max-widest.result) (sym c.in_ok-push-in-On.ensures.ok)
          (one_round c.args.code.now (kept_of g.D.Deps.seen c.args.core.now) (kept_of g.D.Deps.seen c.rounds.core) (kept_of g.D.Deps.seen c.round.new.core) c.rounds.waves c.rounds.widest c.round.new.lines c.in-On.turns c.max-widest.result
          c.rounds.invariant.gone made most);
      watch = c.in_ok-round.ensures.watch;
    }
