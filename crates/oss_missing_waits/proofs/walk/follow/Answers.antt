use Rattle.std.proofs.Common.{subst}
use Rattle.oss_free_run.specs.declared.run.Turned.{Turned}
use Rattle.oss_free_run.specs.Stages.{IsTurned}
use Rattle.oss_missing_waits.proofs.WalkLemmas.{beside_ended, beside_failed, beside_next}
use Rattle.oss_missing_waits.proofs.walk.follow.Goals as goal

pub turns-smaller : goal.turns-smaller
turns-smaller c =
    (subst (λ (t : Turned). IsTurned c.args.code.now c.args.fuel c.turns.run c.turns.invariant.stage c.turn.new.self t) c.in-On.is (c.in_ok-turn.ensures c.args.fuel c.turns.invariant.stage)).less

pub turns-preserved : goal.turns-preserved
turns-preserved c =
    beside_next c.args.code.now c.args.fuel c.args.layout.now c.args.tasks.now c.turns.run c.turns.following c.note.new.following c.turns.invariant (c.in_ok-note.ensures) c.turn.new.self
    (subst (λ (t : Turned). IsTurned c.args.code.now c.args.fuel c.turns.run c.turns.invariant.stage c.turn.new.self t) c.in-On.is (c.in_ok-turn.ensures c.args.fuel c.turns.invariant.stage))

pub returns-in-Ended : goal.returns-in-Ended
returns-in-Ended c =
    beside_ended c.args.code.now c.args.fuel c.args.layout.now c.args.tasks.now c.turns.run c.turns.following c.note.new.following c.turns.invariant (c.in_ok-note.ensures) c.turn.new.self.cells.items
    (subst (λ (t : Turned). IsTurned c.args.code.now c.args.fuel c.turns.run c.turns.invariant.stage c.turn.new.self t) c.in-Ended.is (c.in_ok-turn.ensures c.args.fuel c.turns.invariant.stage))

pub returns-in-Failed : goal.returns-in-Failed
returns-in-Failed c =
    beside_failed c.args.code.now c.args.fuel c.args.layout.now c.args.tasks.now c.turns.run c.turns.following c.note.new.following c.turns.invariant (c.in_ok-note.ensures) c.turn.new.self _ _
    (subst (λ (t : Turned). IsTurned c.args.code.now c.args.fuel c.turns.run c.turns.invariant.stage c.turn.new.self t) c.in-Failed.is (c.in_ok-turn.ensures c.args.fuel c.turns.invariant.stage))
