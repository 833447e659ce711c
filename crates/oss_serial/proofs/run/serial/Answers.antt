use Rattle.std.proofs.Common.{arith, subst}
use Rattle.oss_machine.specs.Machines.{asks}
use Rattle.oss_body.specs.Mains.{code_main}
use Rattle.oss_serial.specs.Stages.{IsTurned}
use Rattle.oss_serial.proofs.TurnLemmas.{ended_outcome}
use Rattle.oss_serial.proofs.StageLemmas.{runs_still}
use Rattle.oss_serial.proofs.run.serial.Goals as goal

pub turns-init : goal.turns-init
turns-init c = (c.in_ok-stage.ensures.setting, c.in_ok-stage.ensures.stage.stage)

pub rush-requires : goal.rush-requires
rush-requires c = record { running = runs_still c.args.code.now (code_main c.args.code.now c.args.fuel) c.args.code.now.first c.turns.stage c.turns.invariant.1 }

pub turns-smaller : goal.turns-smaller
turns-smaller c =
    let main = code_main c.args.code.now c.args.fuel in
    let first = c.args.code.now.first in
    let on = c.rush.ensures.further main first c.turns.invariant.1 in
    let next =
    (subst (λ t. IsTurned c.args.code.now main first c.rush.new.self on.stage c.turn.new.self t) c.in-On.is
    (c.in_ok-turn.ensures main first c.turns.invariant.0 on.stage)).less in
    let less = on.less in
    omega (arith, next, less)

pub turns-preserved : goal.turns-preserved
turns-preserved c =
    let main = code_main c.args.code.now c.args.fuel in
    let first = c.args.code.now.first in
    let on = c.rush.ensures.further main first c.turns.invariant.1 in (
      c.turns.invariant.0,
      (subst (λ t. IsTurned c.args.code.now main first c.rush.new.self on.stage c.turn.new.self t) c.in-On.is
          (c.in_ok-turn.ensures main first c.turns.invariant.0 on.stage)).stage,
    )

pub returns-in-Ended : goal.returns-in-Ended
returns-in-Ended c =
    let main = code_main c.args.code.now c.args.fuel in
    let first = c.args.code.now.first in
    let on = c.rush.ensures.further main first c.turns.invariant.1 in
    let e = subst (λ t. IsTurned c.args.code.now main first c.rush.new.self on.stage c.turn.new.self t) c.in-Ended.is
    (c.in_ok-turn.ensures main first c.turns.invariant.0 on.stage) in
    let r = ended_outcome (asks c.args.code.now) main first on.stage.stands.stage c.turn.new.self.cells.items c.turn.new.self.output.items c.turn.new.self.tasks e in
    (r.0, rw (c.done.ensures.answer, c.done.ensures.tasks) r.1)

pub returns-in-Failed : goal.returns-in-Failed
returns-in-Failed c =
    let main = code_main c.args.code.now c.args.fuel in
    let first = c.args.code.now.first in
    let on = c.rush.ensures.further main first c.turns.invariant.1 in
    let r = subst (λ t. IsTurned c.args.code.now main first c.rush.new.self on.stage c.turn.new.self t) c.in-Failed.is
    (c.in_ok-turn.ensures main first c.turns.invariant.0 on.stage) in
    (r.0.0, rw (c.failed.ensures.answer, c.failed.ensures.tasks) r.0.1)
