use Rattle.std.proofs.Common.{◌≡◌, ◌∙◌, sym}
use Rattle.oss_machine.specs.Outcomes.{Gone, gone}
use Rattle.oss_machine.specs.Runs.{config_in}
use Rattle.oss_machine.specs.Steps.{effect, line_of}
use Rattle.oss_machine.proofs.RunSteps.{moved_config, resumed_went}
use Rattle.oss_machine.proofs.running.resume.go_on.Goals as goal

pub returns-in-Went-clause-resumed : goal.returns-in-Went-clause-resumed
returns-in-Went-clause-resumed c =
    let still = c.args.still.now in
    let next = c.take_on.new.run in
    let code = c.args.code.now in
    let old = config_in still c.args.run.now in
    let e = effect code old.frame c.args.instr.now in
    let went : gone e c.args.loaded old.frame ≡ Gone.Went (config_in still next).frame = rw c.in-Went.is at c.in_ok-take_on.ensures.gone in
    moved_config still c.args.run.now next c.in_ok-take_on.ensures.rest ∙ sym (resumed_went e (line_of code old.frame) c.args.loaded old (config_in still next).frame went)
