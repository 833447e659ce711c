use Rattle.std.proofs.Common.{subst, length}
use Rattle.oss_body.specs.Mains.{code_main}
use Rattle.oss_serial.specs.Stages.{IsTurned}
use Rattle.oss_serial.proofs.StageLemmas.{runs_still}
use Rattle.oss_span_check.specs.Following.{IsFollowed}
use Rattle.oss_span_check.proofs.FollowLemmas.{recording_ends, recording_next}
use Rattle.oss_span_check.proofs.run.follow.Goals as goal

pub pending-requires : goal.pending-requires
pending-requires c = record { running = runs_still c.args.code.now (code_main c.args.code.now c.args.fuel) c.args.code.now.first c.turns.stage c.turns.invariant.is_stage }

pub turn-requires : goal.turn-requires
turn-requires c = record { running = runs_still c.args.code.now (code_main c.args.code.now c.args.fuel) c.args.code.now.first c.turns.stage c.turns.invariant.is_stage }

pub turns-smaller : goal.turns-smaller
turns-smaller c =
    (subst (λ t. IsTurned c.args.code.now (code_main c.args.code.now c.args.fuel) c.args.code.now.first c.turns.stage c.turns.invariant.is_stage c.turn.new.self t) c.in-On.is
    (c.in_ok-turn.ensures (code_main c.args.code.now c.args.fuel) c.args.code.now.first c.turns.invariant.setting c.turns.invariant.is_stage)).less

pub turns-preserved : goal.turns-preserved
turns-preserved c =
    recording_next c.args.code.now c.args.fuel c.turns.stage c.turns.watch c.turns.invariant c.pending.result.now
    (c.pending.ensures.act c.args.code.now c.turns.invariant.is_stage.current.start c.turns.invariant.is_stage.current.found c.turns.invariant.is_stage.is_current) c.note.new.self c.in_ok-note.ensures c.turn.new.self
    (subst (λ t. IsTurned c.args.code.now (code_main c.args.code.now c.args.fuel) c.args.code.now.first c.turns.stage c.turns.invariant.is_stage c.turn.new.self t) c.in-On.is
    (c.in_ok-turn.ensures (code_main c.args.code.now c.args.fuel) c.args.code.now.first c.turns.invariant.setting c.turns.invariant.is_stage)) c.follow.new.self
    (subst (λ d. IsFollowed d (length c.turn.new.self.above) c.turn.new.self.current c.note.new.self c.follow.new.self) c.len-depth.ensures
    (subst (λ d. IsFollowed c.len-depth.result d c.turn.new.self.current c.note.new.self c.follow.new.self) c.len.ensures c.in_ok-follow-in-On.ensures))

pub returns-in-Ended : goal.returns-in-Ended
returns-in-Ended c =
    recording_ends c.args.code.now c.args.fuel c.turns.stage c.turns.watch c.turns.invariant c.pending.result.now
    (c.pending.ensures.act c.args.code.now c.turns.invariant.is_stage.current.start c.turns.invariant.is_stage.current.found c.turns.invariant.is_stage.is_current) c.note.new.self c.in_ok-note.ensures
    (subst (λ t. IsTurned c.args.code.now (code_main c.args.code.now c.args.fuel) c.args.code.now.first c.turns.stage c.turns.invariant.is_stage c.turn.new.self t) c.in-Ended.is
    (c.in_ok-turn.ensures (code_main c.args.code.now c.args.fuel) c.args.code.now.first c.turns.invariant.setting c.turns.invariant.is_stage))

pub returns-in-Failed : goal.returns-in-Failed
returns-in-Failed c =
    let h = subst (λ t. IsTurned c.args.code.now (code_main c.args.code.now c.args.fuel) c.args.code.now.first c.turns.stage c.turns.invariant.is_stage c.turn.new.self t) c.in-Failed.is
    (c.in_ok-turn.ensures (code_main c.args.code.now c.args.fuel) c.args.code.now.first c.turns.invariant.setting c.turns.invariant.is_stage) in
    record { kind = c.in-Failed.field-0; line = c.in-Failed.field-1; output = c.turn.new.self.output.items; tasks = c.turn.new.self.tasks; entries = h.0.0; outcome = h.0.1 }
