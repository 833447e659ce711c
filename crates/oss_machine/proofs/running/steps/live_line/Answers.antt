use Rattle.std.proofs.Common.{◌≡◌, ◌+◌, ◌-◌, ◌<◌, length, sym, ap, ◌∙◌, arith}
use Rattle.oss_machine.specs.declared.activation.Activation.{Activation}
use Rattle.oss_machine.specs.Activations.{frame_on, no_base}
use Rattle.oss_machine.specs.Steps.{line_of, line_of_newest}
use Rattle.oss_machine.proofs.RunSteps.{live_at}
use Rattle.oss_machine.proofs.running.steps.live_line.Goals as goal

pub returns : goal.returns
returns c =
    let callers = c.args.still.now.callers.items in
    let live = c.args.live in
    let more : live ≡ live - 1 + 1 = omega arith in
    let within : live - 1 < length callers = omega arith in
    c.line_of.ensures no_base
    ∙ ap (λ (a : Activation). line_of c.args.code.now (frame_on no_base a)) c.index.ensures
    ∙ sym (ap (line_of_newest c.args.code.now) (live_at callers live (live - 1) c.index.result.now more within))
