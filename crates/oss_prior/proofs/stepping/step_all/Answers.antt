use Rattle.std.proofs.Common.{arith, length, refl, subst, sym, ◌<◌, ◌≤◌, ℕ}
use Rattle.oss_core.specs.Cores.{kept_of}
use Rattle.oss_core.proofs.CallLemmas.{on_ok}
use Rattle.oss_prior.proofs.SteppingLemmas.{alone_others, made_running, nothing_taken, one_turn, stood_aside}
use Rattle.oss_prior.proofs.stepping.step_all.Goals as goal

pub returns-then-acts-eq0-clause-made : goal.returns-then-acts-eq0-clause-made
returns-then-acts-eq0-clause-made g c = (c.in_ok-acts.acts, c.in_ok-acts.ensures.made)

pub returns-then-acts-eq0-clause-watch : goal.returns-then-acts-eq0-clause-watch
returns-then-acts-eq0-clause-watch g c =
    nothing_taken c.args.task c.in_ok-acts.acts (kept_of g.D.Deps.seen c.args.core.now) (kept_of g.D.Deps.seen c.steps.new.core) c.args.watch.now c.if-acts-eq0.true c.in_ok-acts.ensures.left c.in_ok-acts.ensures.idle c.requires.watch

pub returns-then-acts-eq0-clause-keeps : goal.returns-then-acts-eq0-clause-keeps
returns-then-acts-eq0-clause-keeps g c = c.in_ok-acts.ensures.left.alone.keeps

pub returns-then-acts-eq0-clause-others : goal.returns-then-acts-eq0-clause-others
returns-then-acts-eq0-clause-others g c = alone_others c.args.task.0 (kept_of g.D.Deps.seen c.args.core.now) (kept_of g.D.Deps.seen c.steps.new.core) c.in_ok-acts.ensures.left.alone

pub after_turn-requires-clause-running : goal.after_turn-requires-clause-running
after_turn-requires-clause-running g c = (c.args.code.now, made_running c.args.code.now c.args.task (kept_of g.D.Deps.seen c.args.core.now) (kept_of g.D.Deps.seen c.steps.new.core) c.in_ok-acts.acts c.requires.running c.requires.there c.in_ok-acts.ensures.made)

pub after_turn-requires-clause-apart : goal.after_turn-requires-clause-apart
after_turn-requires-clause-apart g c = c.requires.watch.watch.apart

pub after_turn-requires-clause-idle : goal.after_turn-requires-clause-idle
after_turn-requires-clause-idle g c =
    let some = c.if-acts-eq0.false in
    stood_aside c.args.task c.in_ok-acts.acts (kept_of g.D.Deps.seen c.args.core.now) (kept_of g.D.Deps.seen c.steps.new.core) c.args.watch.now (omega (arith, some)) c.in_ok-acts.ensures.left c.requires.watch

pub after_turn-requires-clause-there : goal.after_turn-requires-clause-there
after_turn-requires-clause-there g c = subst (λ (n : ℕ). c.args.task.0 < n) (sym c.requires.watch.watch.size) c.requires.there

pub after_turn-requires-clause-more : goal.after_turn-requires-clause-more
after_turn-requires-clause-more g c = subst (λ (n : ℕ). n ≤ length c.steps.new.core.tree.tasks) (sym c.requires.watch.watch.size) c.in_ok-acts.ensures.left.alone.keeps.more

pub returns-clause-made : goal.returns-clause-made
returns-clause-made g c = on_ok c.after_turn.result (λ h. (c.in_ok-acts.acts, c.in_ok-acts.ensures.made)) c.after_turn.ensures

pub returns-clause-watch : goal.returns-clause-watch
returns-clause-watch g c =
    let some = c.if-acts-eq0.false in
    on_ok c.after_turn.result
    (λ h. h c.args.code.now (kept_of g.D.Deps.seen c.args.core.now) c.requires.running c.requires.watch
    (one_turn c.args.task c.in_ok-acts.acts _ (kept_of g.D.Deps.seen c.args.core.now) (kept_of g.D.Deps.seen c.steps.new.core) refl (omega (arith, some)) c.in_ok-acts.ensures.left)) c.after_turn.ensures

pub returns-clause-keeps : goal.returns-clause-keeps
returns-clause-keeps g c = on_ok c.after_turn.result (λ h. c.in_ok-acts.ensures.left.alone.keeps) c.after_turn.ensures

pub returns-clause-others : goal.returns-clause-others
returns-clause-others g c = on_ok c.after_turn.result (λ h. alone_others c.args.task.0 (kept_of g.D.Deps.seen c.args.core.now) (kept_of g.D.Deps.seen c.steps.new.core) c.in_ok-acts.ensures.left.alone) c.after_turn.ensures
