use Rattle.std.proofs.Common.{subst, Bool}
use Rattle.oss_core.specs.Acting.{HasActed}
use Rattle.oss_core.specs.Cores.{kept_of}
use Rattle.oss_prior.proofs.SteppingLemmas.{idle_steps, no_steps, nothing_left, step_falls, step_gone, step_left, steps_left, steps_made, steps_running}
use Rattle.oss_prior.proofs.stepping.steps.Goals as goal

pub steps-init : goal.steps-init
steps-init g c = record { gone = no_steps c.args.code.now c.args.task (kept_of g.D.Deps.seen c.args.core.now); left = nothing_left c.args.task.0 (kept_of g.D.Deps.seen c.args.core.now) }

pub act-requires : goal.act-requires
act-requires g c = steps_running c.args.code.now c.args.task (kept_of g.D.Deps.seen c.args.core.now) (kept_of g.D.Deps.seen c.steps.core) c.steps.acts c.requires.running c.requires.there c.steps.invariant.gone

pub steps-smaller : goal.steps-smaller
steps-smaller g c =
    step_falls c.args.code.now c.args.task (kept_of g.D.Deps.seen c.steps.core) (kept_of g.D.Deps.seen c.act.new.self)
    (steps_running c.args.code.now c.args.task (kept_of g.D.Deps.seen c.args.core.now) (kept_of g.D.Deps.seen c.steps.core) c.steps.acts c.requires.running c.requires.there c.steps.invariant.gone)
    (subst (λ (b : Bool). HasActed b c.args.code.now c.args.task (kept_of g.D.Deps.seen c.steps.core) (kept_of g.D.Deps.seen c.act.new.self)) c.if-not-branch.false c.in_ok-act.ensures)

pub steps-preserved : goal.steps-preserved
steps-preserved g c =
    let acted = subst (λ (b : Bool). HasActed b c.args.code.now c.args.task (kept_of g.D.Deps.seen c.steps.core) (kept_of g.D.Deps.seen c.act.new.self)) c.if-not-branch.false c.in_ok-act.ensures in
    record {
      gone = step_gone c.args.code.now c.args.task (kept_of g.D.Deps.seen c.args.core.now) (kept_of g.D.Deps.seen c.steps.core) (kept_of g.D.Deps.seen c.act.new.self) c.steps.acts _ c.steps.invariant.gone c.steps.invariant.left acted c.saturating_add-acts.ensures;
      left = step_left c.args.code.now c.args.task (kept_of g.D.Deps.seen c.args.core.now) (kept_of g.D.Deps.seen c.steps.core) (kept_of g.D.Deps.seen c.act.new.self) c.steps.acts _ c.steps.invariant.left acted c.saturating_add-acts.ensures;
    }

pub returns-then-not-branch-clause-made : goal.returns-then-not-branch-clause-made
returns-then-not-branch-clause-made g c =
    steps_made c.args.code.now c.args.task (kept_of g.D.Deps.seen c.args.core.now) (kept_of g.D.Deps.seen c.steps.core) (kept_of g.D.Deps.seen c.act.new.self) c.steps.acts c.steps.invariant.gone c.steps.invariant.left
    (subst (λ (b : Bool). HasActed b c.args.code.now c.args.task (kept_of g.D.Deps.seen c.steps.core) (kept_of g.D.Deps.seen c.act.new.self)) c.if-not-branch.true c.in_ok-act.ensures)

pub returns-then-not-branch-clause-left : goal.returns-then-not-branch-clause-left
returns-then-not-branch-clause-left g c =
    steps_left c.args.code.now c.args.task (kept_of g.D.Deps.seen c.args.core.now) (kept_of g.D.Deps.seen c.steps.core) (kept_of g.D.Deps.seen c.act.new.self) c.steps.acts c.steps.invariant.left
    (subst (λ (b : Bool). HasActed b c.args.code.now c.args.task (kept_of g.D.Deps.seen c.steps.core) (kept_of g.D.Deps.seen c.act.new.self)) c.if-not-branch.true c.in_ok-act.ensures)

pub returns-then-not-branch-clause-idle : goal.returns-then-not-branch-clause-idle
returns-then-not-branch-clause-idle g c =
    idle_steps c.args.code.now c.args.task (kept_of g.D.Deps.seen c.args.core.now) (kept_of g.D.Deps.seen c.steps.core) (kept_of g.D.Deps.seen c.act.new.self) c.steps.acts c.steps.invariant.left
    (subst (λ (b : Bool). HasActed b c.args.code.now c.args.task (kept_of g.D.Deps.seen c.steps.core) (kept_of g.D.Deps.seen c.act.new.self)) c.if-not-branch.true c.in_ok-act.ensures)
