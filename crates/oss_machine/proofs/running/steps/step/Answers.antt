use Rattle.std.proofs.Common.{◌<◌}
use Rattle.oss_machine.specs.Runs.{config_in}
use Rattle.oss_machine.proofs.RunSteps.{brought, run_settles, run_slid}
use Rattle.oss_machine.proofs.running.steps.step.Goals as goal

pub leave-requires-clause-run : goal.leave-requires-clause-run
leave-requires-clause-run c = run_slid c.args.code.now c.args.still.now c.args.run.now c.slide_on.new.run c.requires c.in_ok-outcome.ensures.rest c.in_ok-outcome.ensures.slides

pub returns-clause-step : goal.returns-clause-step
returns-clause-step c =
    let code = c.args.code.now in
    let still = c.args.still.now in
    let few : c.args.run.now.open_count < 257 = c.if-run-ge-TOO_MANY.false in
    let slid = run_settles code still c.args.run.now c.slide_on.new.run c.requires few c.in_ok-outcome.ensures.rest c.in_ok-outcome.ensures.slides in
    brought code (config_in still c.args.run.now) (config_in still c.slide_on.new.run) (config_in still c.leave.new.run) c.in_ok-leave.field-0 slid c.in_ok-leave.ensures.step
