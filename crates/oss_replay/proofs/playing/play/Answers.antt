use Rattle.std.proofs.Common.{◌+◌, subst, List, [], drop, arith}
use Rattle.oss_core.specs.Cores.{kept_of}
use Rattle.oss_core.proofs.CallLemmas.{if_ok}
use Rattle.oss_sched.specs.declared.moves.TextMove.{TextMove}
use Rattle.oss_replay.specs.Making.{HasReplayed}
use Rattle.oss_replay.proofs.MakingLemmas.{left_from, none_left, move_runs, replays_more, replays_stuck}
use Rattle.oss_replay.proofs.playing.play.Goals as goal

pub returns-then-not-branch : goal.returns-then-not-branch
returns-then-not-branch g c =
    let e = left_from c.args.moves.now c.moves.what-index c.what-item.result c.moves-test.true c.what-item.is in
    replays_stuck c.args.code.now (kept_of g.D.Deps.seen c.args.core.now) (kept_of g.D.Deps.seen c.moves.core) 1 c.moves.number c.args.moves.now c.what-item.result (drop (c.moves.what-index + 1) c.args.moves.now)
    (subst (λ (rest : List TextMove). HasReplayed c.args.code.now (kept_of g.D.Deps.seen c.args.core.now) 1 c.args.moves.now (kept_of g.D.Deps.seen c.moves.core) c.moves.number rest) e c.moves.invariant.2)
    (c.in_ok-make.ensures.refused c.if-not-branch.true)

pub moves-preserved : goal.moves-preserved
moves-preserved g c =
    let made = c.in_ok-make.ensures.made c.if-not-branch.false in
    let e = left_from c.args.moves.now c.moves.what-index c.what-item.result c.moves-test.true c.what-item.is in (
      omega arith,
      move_runs c.args.code.now (kept_of g.D.Deps.seen c.moves.core) (kept_of g.D.Deps.seen c.make.new.core) c.what-item.result c.moves.invariant.1 made,
      replays_more c.args.code.now (kept_of g.D.Deps.seen c.args.core.now) (kept_of g.D.Deps.seen c.moves.core) (kept_of g.D.Deps.seen c.make.new.core) 1 c.moves.number c.args.moves.now c.what-item.result
          (drop (c.moves.what-index + 1) c.args.moves.now)
          (subst (λ (rest : List TextMove). HasReplayed c.args.code.now (kept_of g.D.Deps.seen c.args.core.now) 1 c.args.moves.now (kept_of g.D.Deps.seen c.moves.core) c.moves.number rest) e c.moves.invariant.2)
          made,
    )

pub returns : goal.returns
returns g c =
    let so_far : HasReplayed c.args.code.now (kept_of g.D.Deps.seen c.args.core.now) 1 c.args.moves.now (kept_of g.D.Deps.seen c.moves.core) c.moves.number []
    = subst (λ (rest : List TextMove). HasReplayed c.args.code.now (kept_of g.D.Deps.seen c.args.core.now) 1 c.args.moves.now (kept_of g.D.Deps.seen c.moves.core) c.moves.number rest)
    (none_left c.args.moves.now c.moves.what-index c.moves-test.false) c.moves.invariant.2 in
    if_ok c.finish.result (λ replayed h. so_far replayed (h c.args.code.now c.moves.number)) c.finish.ensures
