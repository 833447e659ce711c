use Rattle.std.proofs.Common.{subst, sym, ◌<◌, length}
use Rattle.oss_core.specs.Cores.{kept_of}
use Rattle.oss_core.specs.Kept.{IsRunning, Kept}
use Rattle.oss_core.specs.Turns.{KeepsTasks}
use Rattle.oss_core.proofs.CallLemmas.{on_ok}
use Rattle.oss_wakeups.specs.Asides.{IsSetAside, IsWatchBut, StoodAside}
use Rattle.oss_prior.specs.Choosing.{KeepsOthers}
use Rattle.oss_prior.specs.Turning.{HasMadeSteps}
use Rattle.oss_prior.proofs.PassingLemmas.{keeps_then, others_then, rest_quiet}
use Rattle.oss_prior.proofs.SteppingLemmas.{made_running}
use Rattle.oss_prior.proofs.TurnLemmas.{turn_made}
use Rattle.oss_prior.proofs.turning.turn.Goals as goal

pub step_all-requires-clause-running : goal.step_all-requires-clause-running
step_all-requires-clause-running g c = subst (λ (k : Kept). IsRunning c.args.code.now k) (sym c.begin.ensures.same) c.requires.running

pub step_all-requires-clause-watch : goal.step_all-requires-clause-watch
step_all-requires-clause-watch g c = subst (λ (k : Kept). IsSetAside k c.args.watch.now) (sym c.begin.ensures.same) c.requires.watch

pub step_all-requires-clause-there : goal.step_all-requires-clause-there
step_all-requires-clause-there g c = subst (λ (k : Kept). c.args.task.0 < length k.tree.tasks) (sym c.begin.ensures.same) c.requires.there

pub pass_all-requires-clause-running : goal.pass_all-requires-clause-running
pass_all-requires-clause-running g c =
    let made = subst (λ (k : Kept). HasMadeSteps c.args.code.now c.args.task k (kept_of g.D.Deps.seen c.step_all.new.core) c.in_ok-step_all.ensures.made.0) c.begin.ensures.same c.in_ok-step_all.ensures.made.1 in
    made_running c.args.code.now c.args.task (kept_of g.D.Deps.seen c.args.core.now) (kept_of g.D.Deps.seen c.step_all.new.core) c.in_ok-step_all.ensures.made.0 c.requires.running c.requires.there made

pub pass_all-requires-clause-watch : goal.pass_all-requires-clause-watch
pass_all-requires-clause-watch g c = (kept_of g.D.Deps.seen c.begin.new.core, c.args.task.0, c.in_ok-step_all.ensures.watch)

pub returns-clause-made : goal.returns-clause-made
returns-clause-made g c =
    let made = subst (λ (k : Kept). HasMadeSteps c.args.code.now c.args.task k (kept_of g.D.Deps.seen c.step_all.new.core) c.in_ok-step_all.ensures.made.0) c.begin.ensures.same c.in_ok-step_all.ensures.made.1 in
    on_ok c.pass_all.result
    (λ h. turn_made c.args.code.now c.args.task (kept_of g.D.Deps.seen c.args.core.now) (kept_of g.D.Deps.seen c.step_all.new.core) (kept_of g.D.Deps.seen c.pass_all.new.core) c.in_ok-step_all.ensures.made.0 c.args.order.now c.begin.new.order c.in_ok-begin.ensures.noted made h) c.pass_all.ensures.passes

pub returns-clause-watch : goal.returns-clause-watch
returns-clause-watch g c =
    let was = subst (λ (k : Kept). IsWatchBut (StoodAside k c.args.task.0) (kept_of g.D.Deps.seen c.step_all.new.core) c.step_all.new.watch) c.begin.ensures.same c.in_ok-step_all.ensures.watch in
    on_ok c.pass_all.result (λ h. h (kept_of g.D.Deps.seen c.args.core.now) c.args.task.0 was) c.pass_all.ensures.watch

pub returns-clause-quiet : goal.returns-clause-quiet
returns-clause-quiet g c =
    let made = subst (λ (k : Kept). HasMadeSteps c.args.code.now c.args.task k (kept_of g.D.Deps.seen c.step_all.new.core) c.in_ok-step_all.ensures.made.0) c.begin.ensures.same c.in_ok-step_all.ensures.made.1 in
    let runs = made_running c.args.code.now c.args.task (kept_of g.D.Deps.seen c.args.core.now) (kept_of g.D.Deps.seen c.step_all.new.core) c.in_ok-step_all.ensures.made.0 c.requires.running c.requires.there made in
    on_ok c.pass_all.result (λ h. rest_quiet c.args.code.now (kept_of g.D.Deps.seen c.step_all.new.core) (kept_of g.D.Deps.seen c.pass_all.new.core) runs h) c.pass_all.ensures.passes

pub returns-clause-keeps : goal.returns-clause-keeps
returns-clause-keeps g c =
    let steps = subst (λ (k : Kept). KeepsTasks k.tree.tasks c.step_all.new.core.tree.tasks) c.begin.ensures.same c.in_ok-step_all.ensures.keeps in
    on_ok c.pass_all.result (λ h. keeps_then c.args.core.now.tree.tasks c.step_all.new.core.tree.tasks c.pass_all.new.core.tree.tasks steps h) c.pass_all.ensures.keeps

pub returns-clause-others : goal.returns-clause-others
returns-clause-others g c =
    let steps = subst (λ (k : Kept). KeepsOthers c.args.task.0 k (kept_of g.D.Deps.seen c.step_all.new.core)) c.begin.ensures.same c.in_ok-step_all.ensures.others in
    on_ok c.pass_all.result (λ h. others_then c.args.task.0 (kept_of g.D.Deps.seen c.args.core.now) (kept_of g.D.Deps.seen c.step_all.new.core) (kept_of g.D.Deps.seen c.pass_all.new.core) steps h) c.pass_all.ensures.bodies
