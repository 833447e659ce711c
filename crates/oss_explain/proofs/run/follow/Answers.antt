use Rattle.std.proofs.Common.{sym, subst, ap, ◌∙◌}
use Rattle.oss_body.specs.Mains.{code_main}
use Rattle.oss_body.specs.Acts.{HasContext}
use Rattle.oss_serial.specs.Stages.{IsTurned}
use Rattle.oss_serial.proofs.StageLemmas.{runs_still}
use Rattle.oss_serial.proofs.TurnLemmas.{ended_outcome}
use Rattle.oss_machine.specs.Machines.{asks}
use Rattle.oss_explain.proofs.FollowingLemmas.{following_fails, following_next, has_room}
use Rattle.oss_explain.specs.Noting.{acts_at}
use Rattle.oss_explain.proofs.run.follow.Goals as goal

pub acting-requires : goal.acting-requires
acting-requires c = record { running = runs_still c.args.code.now (code_main c.args.code.now c.args.fuel) c.args.code.now.first c.turns.stage c.turns.invariant.is_stage }

pub pending-requires : goal.pending-requires
pending-requires c = record { running = runs_still c.args.code.now (code_main c.args.code.now c.args.fuel) c.args.code.now.first c.turns.stage c.turns.invariant.is_stage }

pub line-requires : goal.line-requires
line-requires c = record { running = runs_still c.args.code.now (code_main c.args.code.now c.args.fuel) c.args.code.now.first c.turns.stage c.turns.invariant.is_stage }

pub note-requires : goal.note-requires
note-requires c = has_room c.args.code.now c.args.fuel c.turns.stage c.turns.ledger c.turns.invariant c.pending.result.now (c.pending.ensures.act c.args.code.now c.turns.invariant.is_stage.current.start c.turns.invariant.is_stage.current.found c.turns.invariant.is_stage.is_current)

pub turn-requires : goal.turn-requires
turn-requires c = record { running = runs_still c.args.code.now (code_main c.args.code.now c.args.fuel) c.args.code.now.first c.turns.stage c.turns.invariant.is_stage }

pub turns-smaller : goal.turns-smaller
turns-smaller c =
    (subst (λ t. IsTurned c.args.code.now (code_main c.args.code.now c.args.fuel) c.args.code.now.first c.turns.stage c.turns.invariant.is_stage c.turn.new.self t) c.in-On.is
    (c.in_ok-turn.ensures (code_main c.args.code.now c.args.fuel) c.args.code.now.first c.turns.invariant.setting c.turns.invariant.is_stage)).less

pub turns-preserved : goal.turns-preserved
turns-preserved c =
    following_next c.args.code.now c.args.fuel c.turns.stage c.turns.ledger c.turns.invariant c.pending.result.now
    (c.pending.ensures.act c.args.code.now c.turns.invariant.is_stage.current.start c.turns.invariant.is_stage.current.found c.turns.invariant.is_stage.is_current)
    (subst (λ a. HasContext (acts_at c.args.code.now c.args.fuel c.turns.stage c.turns.invariant.is_stage).context a) (sym c.pending.ensures.kept) (c.turns.invariant.is_stage.is_current.child (runs_still c.args.code.now (code_main c.args.code.now c.args.fuel) c.args.code.now.first c.turns.stage c.turns.invariant.is_stage)))
    c.line.result c.created_count-created.result
    (c.line.ensures c.args.code.now c.turns.invariant.is_stage.current.start c.turns.invariant.is_stage.current.found c.turns.invariant.is_stage.is_current)
    (c.created_count-created.ensures.count ∙ ap (λ x. x.created) (c.acting.ensures c.args.code.now c.turns.invariant.is_stage.current.start c.turns.invariant.is_stage.current.found c.turns.invariant.is_stage.is_current))
    c.note.new.self c.in_ok-note.ensures c.turn.new.self
    (subst (λ t. IsTurned c.args.code.now (code_main c.args.code.now c.args.fuel) c.args.code.now.first c.turns.stage c.turns.invariant.is_stage c.turn.new.self t) c.in-On.is
    (c.in_ok-turn.ensures (code_main c.args.code.now c.args.fuel) c.args.code.now.first c.turns.invariant.setting c.turns.invariant.is_stage))

pub returns-in-Ended : goal.returns-in-Ended
returns-in-Ended c =
    let r = ended_outcome (asks c.args.code.now) (code_main c.args.code.now c.args.fuel) c.args.code.now.first c.turns.invariant.is_stage.stands.stage c.turn.new.self.cells.items c.turn.new.self.output.items c.turn.new.self.tasks
    (subst (λ t. IsTurned c.args.code.now (code_main c.args.code.now c.args.fuel) c.args.code.now.first c.turns.stage c.turns.invariant.is_stage c.turn.new.self t) c.in-Ended.is
    (c.in_ok-turn.ensures (code_main c.args.code.now c.args.fuel) c.args.code.now.first c.turns.invariant.setting c.turns.invariant.is_stage)) in
    (c.turn.new.self.output.items, (c.turn.new.self.cells.items, (c.turn.new.self.tasks, r)))

pub returns-in-Failed : goal.returns-in-Failed
returns-in-Failed c =
    let h = subst (λ t. IsTurned c.args.code.now (code_main c.args.code.now c.args.fuel) c.args.code.now.first c.turns.stage c.turns.invariant.is_stage c.turn.new.self t) c.in-Failed.is
    (c.in_ok-turn.ensures (code_main c.args.code.now c.args.fuel) c.args.code.now.first c.turns.invariant.setting c.turns.invariant.is_stage) in
    following_fails c.args.code.now c.args.fuel c.turns.stage c.turns.ledger c.turns.invariant c.pending.result.now
    (c.pending.ensures.act c.args.code.now c.turns.invariant.is_stage.current.start c.turns.invariant.is_stage.current.found c.turns.invariant.is_stage.is_current)
    (subst (λ a. HasContext (acts_at c.args.code.now c.args.fuel c.turns.stage c.turns.invariant.is_stage).context a) (sym c.pending.ensures.kept) (c.turns.invariant.is_stage.is_current.child (runs_still c.args.code.now (code_main c.args.code.now c.args.fuel) c.args.code.now.first c.turns.stage c.turns.invariant.is_stage)))
    c.line.result c.created_count-created.result
    (c.line.ensures c.args.code.now c.turns.invariant.is_stage.current.start c.turns.invariant.is_stage.current.found c.turns.invariant.is_stage.is_current)
    (c.created_count-created.ensures.count ∙ ap (λ x. x.created) (c.acting.ensures c.args.code.now c.turns.invariant.is_stage.current.start c.turns.invariant.is_stage.current.found c.turns.invariant.is_stage.is_current))
    c.note.new.self c.in_ok-note.ensures c.in-Failed.kind c.in-Failed.line c.turn.new.self.current h.1.0 h.1.1
