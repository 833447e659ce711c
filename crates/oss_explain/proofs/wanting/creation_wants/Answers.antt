use Rattle.std.proofs.Common.{ℕ, List, subst, sym, Option}
use Rattle.std.specs.Prelude.{◌||◌}
use Rattle.oss_explanation.specs.declared.explained.Held.{Held}
use Rattle.oss_explanation.specs.declared.explained.Word.{Word}
use Rattle.oss_explanation.specs.Explanations.{wanted}
use Rattle.oss_explanation.specs.Held.{AreHeld, all_words}
use Rattle.oss_machine.specs.Asks.{meant_order}
use Rattle.oss_machine.specs.Frames.{CodeScript}
use Rattle.oss_model.specs.Bodies.{Create}
use Rattle.oss_syntax.specs.declared.fault.FaultKind.TheVariants as fault
use Rattle.oss_explain.proofs.DirectiveLemmas.{creation_at}
use Rattle.oss_explain.proofs.HoldingLemmas.{if_ok_as}
use Rattle.oss_explain.proofs.WantingLemmas.{creation_word, none_held, unwanted_kind}
use Rattle.oss_explain.proofs.wanting.creation_wants.Goals as goal

pub child_words-requires-clause-depth : goal.child_words-requires-clause-depth
child_words-requires-clause-depth c = (creation_at c.args.context.now (λ i. c.args.order.now.accesses) (λ i. c.args.context.now.final || c.args.order.now.last) c.in-Released.is c.requires.fault).1

pub child_words-requires-in-NotCovered-clause-depth : goal.child_words-requires-in-NotCovered-clause-depth
child_words-requires-in-NotCovered-clause-depth c = (creation_at c.args.context.now (λ i. c.args.order.now.accesses) (λ i. c.args.context.now.final || c.args.order.now.last) c.in-NotCovered.is c.requires.fault).1

pub returns-in-Released : goal.returns-in-Released
returns-in-Released c =
    if_ok_as c.child_words.result
    (λ (hs : List Held) h. subst (λ (w : ℕ → Option Word). AreHeld c.args.program.now.items w all_words hs) (creation_word c.args.kind fault.Released (meant_order c.args.order.now) c.args.context.now c.in-Released.is) h) c.child_words.ensures

pub returns-in-NotCovered : goal.returns-in-NotCovered
returns-in-NotCovered c =
    if_ok_as c.child_words-in-NotCovered.result
    (λ (hs : List Held) h. subst (λ (w : ℕ → Option Word). AreHeld c.args.program.now.items w all_words hs) (creation_word c.args.kind fault.NotCovered (meant_order c.args.order.now) c.args.context.now c.in-NotCovered.is) h)
    c.child_words-in-NotCovered.ensures

pub returns-in_default : goal.returns-in_default
returns-in_default c =
    subst (λ (hs : List Held). AreHeld c.args.program.now.items (wanted {S = CodeScript} c.args.kind (Create (meant_order c.args.order.now)) c.args.context.now) all_words hs) (sym c.new.ensures)
    (none_held c.args.program.now.items (wanted {S = CodeScript} c.args.kind (Create (meant_order c.args.order.now)) c.args.context.now)
    (unwanted_kind c.args.kind (meant_order c.args.order.now) c.args.context.now c.in_default.not-Released c.in_default.not-NotCovered) all_words)
