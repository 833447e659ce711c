use Rattle.std.proofs.Common.{◌≡◌, ◌+◌, ◌-◌, eqb, false, length, take, sym, ap, ◌∙◌, vec_len, arith}
use Rattle.std.proofs.lemmas.Bool.Decides.{nat_tests}
use Rattle.oss_machine.specs.declared.activation.Activation.{Activation}
use Rattle.oss_machine.specs.Activations.{frame_on}
use Rattle.oss_machine.specs.Runs.{base_above, base_at, below_live}
use Rattle.oss_machine.specs.Steps.{line_of, line_of_newest}
use Rattle.oss_machine.proofs.RunSteps.{newest_waiting}
use Rattle.oss_machine.proofs.running.steps.newest_line.Goals as goal

pub returns : goal.returns
returns c =
    let ws = c.args.run.now.waiting.items in
    let n = c.len-count.result - 1 in
    let b = base_at c.args.still.now c.args.run.now.live in
    let some : eqb (vec_len c.args.run.now.waiting) 0 ≡ false = sym c.is_empty.ensures ∙ c.if-is_empty.false in
    let size : length ws ≡ n + 1 = grind (arith, nat_tests, c.args.run.now.waiting.ok.0) in
    c.line_of.ensures (base_above b (take n ws))
    ∙ ap (λ (a : Activation). line_of c.args.code.now (frame_on (base_above b (take n ws)) a)) c.index.ensures
    ∙ sym (ap (line_of_newest c.args.code.now) (newest_waiting b ws (below_live c.args.still.now c.args.run.now.live) n c.index.result.now size))
