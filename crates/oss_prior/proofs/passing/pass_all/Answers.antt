use Rattle.oss_core.specs.Cores.{kept_of}
use Rattle.oss_prior.proofs.PassingLemmas.{bodies_stay, bodies_then, goes_running, keeps_itself, keeps_then, last_pass, no_passes, one_more, pass_falls}
use Rattle.oss_prior.proofs.passing.pass_all.Goals as goal

pub passes-init : goal.passes-init
passes-init g c = record { gone = no_passes c.args.code.now (kept_of g.D.Deps.seen c.args.core.now); watch = λ from task was. was; keeps = keeps_itself c.args.core.now.tree.tasks; bodies = bodies_stay (kept_of g.D.Deps.seen c.args.core.now) }

pub pass_once-requires-clause-running : goal.pass_once-requires-clause-running
pass_once-requires-clause-running g c = goes_running c.args.code.now (kept_of g.D.Deps.seen c.args.core.now) (kept_of g.D.Deps.seen c.passes.core) c.requires.running c.passes.invariant.gone

pub pass_once-requires-clause-watch : goal.pass_once-requires-clause-watch
pass_once-requires-clause-watch g c = (c.requires.watch.0, c.requires.watch.1, c.passes.invariant.watch c.requires.watch.0 c.requires.watch.1 c.requires.watch.2)

pub passes-smaller : goal.passes-smaller
passes-smaller g c =
    pass_falls c.args.code.now (kept_of g.D.Deps.seen c.args.core.now) (kept_of g.D.Deps.seen c.passes.core) (kept_of g.D.Deps.seen c.pass_once.new.core) _ c.if-not-branch.false c.requires.running c.passes.invariant.gone
    c.in_ok-pass_once.ensures.pass

pub passes-preserved : goal.passes-preserved
passes-preserved g c = record {
  gone = one_more c.args.code.now (kept_of g.D.Deps.seen c.args.core.now) (kept_of g.D.Deps.seen c.passes.core) (kept_of g.D.Deps.seen c.pass_once.new.core) _ c.if-not-branch.false c.passes.invariant.gone c.in_ok-pass_once.ensures.pass;
  watch = λ from task was. c.in_ok-pass_once.ensures.watch from task (c.passes.invariant.watch from task was);
  keeps = keeps_then c.args.core.now.tree.tasks c.passes.core.tree.tasks c.pass_once.new.core.tree.tasks c.passes.invariant.keeps c.in_ok-pass_once.ensures.keeps;
  bodies = bodies_then (kept_of g.D.Deps.seen c.args.core.now) (kept_of g.D.Deps.seen c.passes.core) (kept_of g.D.Deps.seen c.pass_once.new.core) c.passes.invariant.bodies c.in_ok-pass_once.ensures.bodies;
}

pub returns-then-not-branch-clause-passes : goal.returns-then-not-branch-clause-passes
returns-then-not-branch-clause-passes g c =
    last_pass c.args.code.now (kept_of g.D.Deps.seen c.args.core.now) (kept_of g.D.Deps.seen c.passes.core) (kept_of g.D.Deps.seen c.pass_once.new.core) _ c.if-not-branch.true c.passes.invariant.gone c.in_ok-pass_once.ensures.pass

pub returns-then-not-branch-clause-keeps : goal.returns-then-not-branch-clause-keeps
returns-then-not-branch-clause-keeps g c = keeps_then c.args.core.now.tree.tasks c.passes.core.tree.tasks c.pass_once.new.core.tree.tasks c.passes.invariant.keeps c.in_ok-pass_once.ensures.keeps

pub returns-then-not-branch-clause-watch : goal.returns-then-not-branch-clause-watch
returns-then-not-branch-clause-watch g c = λ from task was. c.in_ok-pass_once.ensures.watch from task (c.passes.invariant.watch from task was)

pub returns-then-not-branch-clause-bodies : goal.returns-then-not-branch-clause-bodies
returns-then-not-branch-clause-bodies g c = bodies_then (kept_of g.D.Deps.seen c.args.core.now) (kept_of g.D.Deps.seen c.passes.core) (kept_of g.D.Deps.seen c.pass_once.new.core) c.passes.invariant.bodies c.in_ok-pass_once.ensures.bodies
