use Rattle.std.proofs.Common.{rules}
use Rattle.oss_waves.specs.Noting.{IsStepOf}
use Rattle.oss_waves.proofs.ListLemmas.{given_one, slice_item}
use Rattle.oss_waves.proofs.noting.note_turns.Goals as goal

pub loop-turn-preserved : goal.loop-turn-preserved
loop-turn-preserved g c =
    given_one (IsStepOf c.args.core.now.tree.tasks) c.args.turns.now c.loop-turn.turn-index _ c.in_ok-what.what c.args.lines.now c.loop-turn.lines c.push.new.self
    (slice_item c.args.turns.now c.loop-turn.turn-index _ (search rules)) c.in_ok-what.ensures c.in_ok-push.ensures.ok c.loop-turn.invariant
