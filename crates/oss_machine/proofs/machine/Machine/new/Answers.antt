use Rattle.std.proofs.Common.{◌≡◌, ◌∷◌, [], List, None, ap, sym, ◌∙◌, arith}
use Rattle.oss_machine.specs.declared.activation.Activation.{Activation}
use Rattle.oss_machine.specs.declared.running.body.Still.{Still}
use Rattle.oss_machine.specs.Activations.{Base, frame_on}
use Rattle.oss_machine.specs.Asks.{script_of}
use Rattle.oss_machine.specs.Frames.{CodeScript, Config, first_frame, open_functions, start_of}
use Rattle.oss_machine.specs.Machines.{poised, settled, standing}
use Rattle.oss_machine.specs.Runs.{base_above, base_at, below_live, stacked}
use Rattle.oss_machine.proofs.CommitLemmas.{config_is}
use Rattle.oss_machine.proofs.machine.Machine.new.Goals as goal

-- a run beside which nothing stands is at the beginning where its function is
begun : (still : Still) (work : Activation) (waiting : List Activation) (s : CodeScript) → waiting ≡ [] → ((b : Base) → frame_on b work ≡ first_frame None s.entry s.copies)
    → ◌≡◌ {A = Config} (record { frame = frame_on (base_above (base_at still 0) waiting) work; callers = stacked (base_at still 0) waiting (below_live still 0) }) (start_of s)
begun still work waiting s none first =
    let here : Config = record { frame = frame_on (base_above (base_at still 0) waiting) work; callers = stacked (base_at still 0) waiting (below_live still 0) } in
    config_is here (start_of s) (first (base_above (base_at still 0) waiting)) (ap (λ (xs : List Activation). stacked (base_at still 0) xs (below_live still 0)) none)

pub settle-requires : goal.settle-requires
settle-requires c =
    let script = script_of c.args.order.now in
    let still : Still = record { callers = c.new.result; top = c.blank.result } in
    let first : (b : Base) → frame_on b c.in_ok-work.work ≡ first_frame None script.entry script.copies = λ b. c.in_ok-work.ensures b ∙ ap (first_frame None script.entry) c.as_slice.ensures in
    let start = begun still c.in_ok-work.work c.new-2.result.items script c.new-2.ensures.items first in
    record {
      live = omega (arith);
      counted = sym (ap (λ (d : Config). open_functions (d.frame ∷ d.callers)) start);
    }

pub returns : goal.returns
returns c =
    let code = c.args.code.now in
    let script = script_of c.args.order.now in
    let still : Still = record { callers = c.new.result; top = c.blank.result } in
    let first : (b : Base) → frame_on b c.in_ok-work.work ≡ first_frame None script.entry script.copies = λ b. c.in_ok-work.ensures b ∙ ap (first_frame None script.entry) c.as_slice.ensures in
    let start = begun still c.in_ok-work.work c.new-2.result.items script c.new-2.ensures.items first in
    ap poised (sym c.in_ok-asked.ensures.standing ∙ ap (λ d. standing code (settled code d)) start)
