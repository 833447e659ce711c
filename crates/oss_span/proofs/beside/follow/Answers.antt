use Rattle.std.proofs.Common.{subst}
use Rattle.oss_body.specs.Mains.{code_main}
use Rattle.oss_serial.specs.Stages.{IsTurned}
use Rattle.oss_serial.proofs.StageLemmas.{runs_still}
use Rattle.oss_span.proofs.BesideLemmas.{begins_beside, ends_beside, fails_beside, goes_beside}
use Rattle.oss_span.proofs.beside.follow.Goals as goal

pub turns-init : goal.turns-init
turns-init c = begins_beside c.args.code.now c.args.fuel c.args.stage.now c.args.pass.now c.requires.first c.requires.begun

pub pending-requires : goal.pending-requires
pending-requires c = record { running = runs_still c.args.code.now (code_main c.args.code.now c.args.fuel) c.args.code.now.first c.turns.stage c.turns.invariant.is_stage }

pub turn-requires : goal.turn-requires
turn-requires c = record { running = runs_still c.args.code.now (code_main c.args.code.now c.args.fuel) c.args.code.now.first c.turns.stage c.turns.invariant.is_stage }

pub turns-smaller : goal.turns-smaller
turns-smaller c =
    (subst (λ t. IsTurned c.args.code.now (code_main c.args.code.now c.args.fuel) c.args.code.now.first c.turns.stage c.turns.invariant.is_stage c.turn.new.self t) c.in-On.is
    (c.in_ok-turn.ensures (code_main c.args.code.now c.args.fuel) c.args.code.now.first c.turns.invariant.setting c.turns.invariant.is_stage)).less

pub turns-preserved : goal.turns-preserved
turns-preserved c =
    goes_beside c.args.code.now c.args.fuel c.turns.stage c.turns.pass c.turns.invariant c.pending.result.now c.pending.ensures.kept
    (c.pending.ensures.act c.args.code.now c.turns.invariant.is_stage.current.start c.turns.invariant.is_stage.current.found c.turns.invariant.is_stage.is_current) c.act.new.self c.in_ok-act.ensures c.turn.new.self
    (subst (λ t. IsTurned c.args.code.now (code_main c.args.code.now c.args.fuel) c.args.code.now.first c.turns.stage c.turns.invariant.is_stage c.turn.new.self t) c.in-On.is
    (c.in_ok-turn.ensures (code_main c.args.code.now c.args.fuel) c.args.code.now.first c.turns.invariant.setting c.turns.invariant.is_stage))
    c.len-depth.result c.len-depth.ensures c.go_on.new.pass c.in_ok-go_on-in-On.ensures

pub returns-in-Ended : goal.returns-in-Ended
returns-in-Ended c =
    ends_beside c.args.code.now c.args.fuel c.turns.stage c.turns.pass c.turns.invariant c.pending.result.now c.pending.ensures.kept
    (c.pending.ensures.act c.args.code.now c.turns.invariant.is_stage.current.start c.turns.invariant.is_stage.current.found c.turns.invariant.is_stage.is_current) c.act.new.self c.in_ok-act.ensures
    c.turn.new.self.cells.items c.turn.new.self.output.items c.turn.new.self.tasks
    (subst (λ t. IsTurned c.args.code.now (code_main c.args.code.now c.args.fuel) c.args.code.now.first c.turns.stage c.turns.invariant.is_stage c.turn.new.self t) c.in-Ended.is
    (c.in_ok-turn.ensures (code_main c.args.code.now c.args.fuel) c.args.code.now.first c.turns.invariant.setting c.turns.invariant.is_stage))

pub returns-in-Failed : goal.returns-in-Failed
returns-in-Failed c =
    fails_beside c.args.code.now c.args.fuel c.in-Failed.kind c.in-Failed.line c.turn.new.self.output.items c.turn.new.self.tasks
    (subst (λ t. IsTurned c.args.code.now (code_main c.args.code.now c.args.fuel) c.args.code.now.first c.turns.stage c.turns.invariant.is_stage c.turn.new.self t) c.in-Failed.is
    (c.in_ok-turn.ensures (code_main c.args.code.now c.args.fuel) c.args.code.now.first c.turns.invariant.setting c.turns.invariant.is_stage)).0
