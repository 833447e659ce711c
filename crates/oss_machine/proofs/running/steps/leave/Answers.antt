use Rattle.std.proofs.Common.{◌≡◌, ◌∷◌, ◌∙◌, ◌<◌, Some, drop, reverse, slice_get, take, sym, ap, subst, refl, arith}
use Rattle.oss_model.specs.Bodies.{Ask}
use Rattle.oss_model.specs.Bodies.Ask.{End, Fails}
use Rattle.oss_meaning.specs.declared.value.Value.{Value}
use Rattle.oss_meaning.specs.Expressions.{value_at}
use Rattle.oss_machine.specs.declared.outcome.Outcome.TheVariants as outcome
use Rattle.oss_machine.specs.Frames.{CodeScript, first_frame, open_functions}
use Rattle.oss_machine.specs.Machines.{IsWaiting, asked_in}
use Rattle.oss_machine.specs.Runs.{IsStepped, base_above, base_at, config_in}
use Rattle.oss_machine.specs.Slides.{acted_at, ask_at}
use Rattle.oss_machine.specs.Steps.{Goes, given, line_of, one_step, with_stack}
use Rattle.oss_machine.proofs.RunSteps.{goes_is}
use Rattle.oss_machine.proofs.SlideLemmas.{at_asks, at_creates, at_end, at_gives, at_stops, creating, few_step, waits_told}
use Rattle.oss_machine.proofs.running.steps.leave.Goals as goal

pub returns-in_ok-give-in-Gives-clause-step : goal.returns-in_ok-give-in-Gives-clause-step
returns-in_ok-give-in-Gives-clause-step c =
    let code = c.args.code.now in
    let old = config_in c.args.still.now c.args.run.now in
    let few : open_functions (old.frame ∷ old.callers) < 257 = omega (arith, c.requires.run.counted, c.requires.few) in
    let lines : c.line_of-line.result ≡ line_of code old.frame = c.line_of-line.ensures (base_above (base_at c.args.still.now c.args.run.now.live) c.args.run.now.waiting.items) in
    let v : c.value_below-value.result ≡ value_at old.frame.stack 0 = rw (c.value_below-value.ensures, c.as_slice.ensures.value) in
    let h : acted_at code old.frame ≡ (old.frame, outcome.Gives) = rw c.in-Gives.is at c.requires.told in
    let new = config_in c.args.still.now c.give.new.run in
    let answer = c.in_ok-give-in-Gives.field-0 in
    let at_line = subst (λ (x : Value). IsStepped (given old.callers x (line_of code old.frame) old) old new answer) v (subst (λ l. IsStepped (given old.callers c.value_below-value.result l old) old new answer) lines c.in_ok-give-in-Gives.ensures.step) in
    subst (λ s. IsStepped s old new answer) (sym (few_step code old few ∙ at_gives code old (slice_get code.instrs old.frame.at) h)) at_line

pub returns-in-Stops-clause-step : goal.returns-in-Stops-clause-step
returns-in-Stops-clause-step c =
    let code = c.args.code.now in
    let old = config_in c.args.still.now c.args.run.now in
    let few : open_functions (old.frame ∷ old.callers) < 257 = omega (arith, c.requires.run.counted, c.requires.few) in
    let lines : c.line_of-line.result ≡ line_of code old.frame = c.line_of-line.ensures (base_above (base_at c.args.still.now c.args.run.now.live) c.args.run.now.waiting.items) in
    let h : acted_at code old.frame ≡ (old.frame, outcome.Stops c.in-Stops.kind) = rw c.in-Stops.is at c.requires.told in
    waits_told code old (Fails c.in-Stops.kind) (line_of code old.frame) c.line_of-line.result few (at_stops code old c.in-Stops.kind (slice_get code.instrs old.frame.at) h) lines

pub returns-in_ok-ask-in-Asks-clause-step : goal.returns-in_ok-ask-in-Asks-clause-step
returns-in_ok-ask-in-Asks-clause-step c =
    let code = c.args.code.now in
    let old = config_in c.args.still.now c.args.run.now in
    let few : open_functions (old.frame ∷ old.callers) < 257 = omega (arith, c.requires.run.counted, c.requires.few) in
    let lines : c.line_of-line.result ≡ line_of code old.frame = c.line_of-line.ensures (base_above (base_at c.args.still.now c.args.run.now.live) c.args.run.now.waiting.items) in
    let h : acted_at code old.frame ≡ (old.frame, outcome.Asks) = rw c.in-Asks.is at c.requires.told in
    subst (λ (a : Ask CodeScript). IsWaiting (one_step code old) × (asked_in (one_step code old) ≡ record { ask = a; line = c.line_of-line.result }) × (old ≡ old)) (sym c.in_ok-ask-in-Asks.ensures)
    (waits_told code old (ask_at code old.frame) (line_of code old.frame) c.line_of-line.result few (at_asks code old (slice_get code.instrs old.frame.at) h) lines)

pub returns-in_ok-enter-in-Creates-clause-step : goal.returns-in_ok-enter-in-Creates-clause-step
returns-in_ok-enter-in-Creates-clause-step c =
    let code = c.args.code.now in
    let old = config_in c.args.still.now c.args.run.now in
    let few : open_functions (old.frame ∷ old.callers) < 257 = omega (arith, c.requires.run.counted, c.requires.few) in
    let lines : c.line_of-line.result ≡ line_of code old.frame = c.line_of-line.ensures (base_above (base_at c.args.still.now c.args.run.now.live) c.args.run.now.waiting.items) in
    let entry = c.spawn_at-entry.result.0 in
    let count = c.spawn_at-entry.result.1 in
    let vs = reverse (take count old.frame.stack) in
    let k = with_stack (drop count old.frame.stack) old.frame in
    let h : acted_at code old.frame ≡ (old.frame, outcome.Creates) = rw c.in-Creates.is at c.requires.told in
    let d = config_in c.args.still.now c.enter.new.run in
    let frame : d.frame ≡ first_frame (Some (line_of code old.frame)) entry vs = c.in_ok-enter-in-Creates.ensures.frame ∙ ap (λ l. first_frame (Some l) entry vs) lines in
    few_step code old few
    ∙ at_creates code old (slice_get code.instrs old.frame.at) h
    ∙ ap (λ p. Goes (creating code old p)) (sym c.spawn_at-entry.ensures)
    ∙ goes_is d (first_frame (Some (line_of code old.frame)) entry vs) (k ∷ old.callers) frame c.in_ok-enter-in-Creates.ensures.callers

pub returns-in-Ends-clause-step : goal.returns-in-Ends-clause-step
returns-in-Ends-clause-step c =
    let code = c.args.code.now in
    let old = config_in c.args.still.now c.args.run.now in
    let few : open_functions (old.frame ∷ old.callers) < 257 = omega (arith, c.requires.run.counted, c.requires.few) in
    let h : acted_at code old.frame ≡ (old.frame, outcome.Ends) = rw c.in-Ends.is at c.requires.told in
    waits_told code old End 0 0 few (at_end code old (slice_get code.instrs old.frame.at) h) refl
