use Rattle.std.proofs.Common.{ℕ, sym, subst, ap, ◌∙◌}
use Rattle.oss_body.specs.Relation.{IsBody}
use Rattle.oss_body.specs.Mains.{code_main}
use Rattle.oss_serial.specs.Stages.{IsTurned}
use Rattle.oss_serial.proofs.StageLemmas.{runs_still}
use Rattle.oss_graph.specs.Finding.{IsFollowed}
use Rattle.oss_graph.proofs.FollowLemmas.{following_next, graph_done, graph_failed}
use Rattle.oss_graph.proofs.run.follow.Goals as goal

pub acting-requires : goal.acting-requires
acting-requires c = record { running = runs_still c.args.code.now (code_main c.args.code.now c.args.fuel) c.args.code.now.first c.turns.stage c.turns.invariant.is_stage }

pub pending-requires : goal.pending-requires
pending-requires c = record { running = runs_still c.args.code.now (code_main c.args.code.now c.args.fuel) c.args.code.now.first c.turns.stage c.turns.invariant.is_stage }

pub line-requires : goal.line-requires
line-requires c = record { running = runs_still c.args.code.now (code_main c.args.code.now c.args.fuel) c.args.code.now.first c.turns.stage c.turns.invariant.is_stage }

pub turn-requires : goal.turn-requires
turn-requires c = record { running = runs_still c.args.code.now (code_main c.args.code.now c.args.fuel) c.args.code.now.first c.turns.stage c.turns.invariant.is_stage }

pub turns-smaller : goal.turns-smaller
turns-smaller c =
    (subst (λ t. IsTurned c.args.code.now (code_main c.args.code.now c.args.fuel) c.args.code.now.first c.turns.stage c.turns.invariant.is_stage c.turn.new.self t) c.in-On.is
    (c.in_ok-turn.ensures (code_main c.args.code.now c.args.fuel) c.args.code.now.first c.turns.invariant.setting c.turns.invariant.is_stage)).less

pub turns-preserved : goal.turns-preserved
turns-preserved c =
    following_next c.args.code.now c.args.fuel c.args._program.now.items c.turns.stage c.turns.found c.turns.invariant c.pending.result.now
    (c.pending.ensures.act c.args.code.now c.turns.invariant.is_stage.current.start c.turns.invariant.is_stage.current.found c.turns.invariant.is_stage.is_current)
    c.line.result c.created_count-created.result
    (c.line.ensures c.args.code.now c.turns.invariant.is_stage.current.start c.turns.invariant.is_stage.current.found c.turns.invariant.is_stage.is_current)
    (c.created_count-created.ensures.count ∙ ap (λ x. x.created) (c.acting.ensures c.args.code.now c.turns.invariant.is_stage.current.start c.turns.invariant.is_stage.current.found c.turns.invariant.is_stage.is_current))
    c.turn.new.self
    (subst (λ t. IsTurned c.args.code.now (code_main c.args.code.now c.args.fuel) c.args.code.now.first c.turns.stage c.turns.invariant.is_stage c.turn.new.self t) c.in-On.is
    (c.in_ok-turn.ensures (code_main c.args.code.now c.args.fuel) c.args.code.now.first c.turns.invariant.setting c.turns.invariant.is_stage))
    c.task_created-coming.result c.task_created-coming.ensures c.follow.new.self
    (subst (λ (n : ℕ). IsFollowed c.turn.new.self.current n c.task_created-coming.result c.turns.found c.follow.new.self) c.len.ensures c.in_ok-follow-in-On.ensures)

pub returns-in-Ended : goal.returns-in-Ended
returns-in-Ended c =
    graph_done c.args.code.now c.args.fuel c.args._program.now.items c.turns.stage c.turns.found c.turns.invariant c.turn.new.self.cells.items c.turn.new.self.output.items c.turn.new.self.tasks
    (subst (λ t. IsTurned c.args.code.now (code_main c.args.code.now c.args.fuel) c.args.code.now.first c.turns.stage c.turns.invariant.is_stage c.turn.new.self t) c.in-Ended.is
    (c.in_ok-turn.ensures (code_main c.args.code.now c.args.fuel) c.args.code.now.first c.turns.invariant.setting c.turns.invariant.is_stage))

pub returns-in-Failed : goal.returns-in-Failed
returns-in-Failed c =
    let h = subst (λ t. IsTurned c.args.code.now (code_main c.args.code.now c.args.fuel) c.args.code.now.first c.turns.stage c.turns.invariant.is_stage c.turn.new.self t) c.in-Failed.is
    (c.in_ok-turn.ensures (code_main c.args.code.now c.args.fuel) c.args.code.now.first c.turns.invariant.setting c.turns.invariant.is_stage) in
    graph_failed c.args.code.now c.args.fuel c.args._program.now.items c.turns.stage c.turns.found c.turns.invariant (record { task = c.in_ok-task-in-Failed.task; kind = c.in-Failed.kind; line = c.in-Failed.line }) h.1.1
    (c.in_ok-task-in-Failed.ensures
    ∙ c.point.ensures c.args.code.now c.turns.invariant.is_stage.current.start c.turns.invariant.is_stage.current.found
    (subst (λ k. IsBody c.args.code.now c.turns.invariant.is_stage.current.start c.turns.invariant.is_stage.current.found k) (sym h.1.0) c.turns.invariant.is_stage.is_current))
