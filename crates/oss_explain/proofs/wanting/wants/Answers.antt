use Rattle.std.proofs.Common.{◌≡◌, List, subst, sym}
use Rattle.std.specs.Prelude.{◌||◌, Some}
use Rattle.oss_code.specs.declared.order.TaskOrder.{TaskOrder}
use Rattle.oss_explanation.specs.declared.explained.Held.{Held}
use Rattle.oss_explanation.specs.Explanations.{wanted}
use Rattle.oss_explanation.specs.Held.{AreHeld, all_words}
use Rattle.oss_machine.specs.Asks.{meant_ask, meant_order}
use Rattle.oss_machine.specs.Frames.{CodeScript}
use Rattle.oss_machine.specs.declared.ask.Ask.{Ask as CodeAsk}
use Rattle.oss_model.specs.Bodies.{Create}
use Rattle.oss_model.specs.Context.{creation_fault}
use Rattle.oss_explain.specs.Reasons.{IsFaultOf}
use Rattle.oss_explain.proofs.HoldingLemmas.{if_ok_as}
use Rattle.oss_explain.proofs.WantingLemmas.{none_held, unwanted_ask}
use Rattle.oss_explain.proofs.wanting.wants.Goals as goal

pub creation_wants-requires-clause-fault : goal.creation_wants-requires-clause-fault
creation_wants-requires-clause-fault c =
    let x = c.args.context.now in
    subst (λ (o : TaskOrder). creation_fault x o.accesses (x.final || o.last) ≡ Some c.args.kind) (sym c.get.ensures) (subst (λ (a : CodeAsk). IsFaultOf x (meant_ask a) c.args.kind) c.in-Create.is c.requires.fault)

pub returns-in-Create : goal.returns-in-Create
returns-in-Create c =
    rw c.in-Create.is
    (if_ok_as c.creation_wants.result
    (λ (hs : List Held) h. subst (λ (o : TaskOrder). AreHeld c.args.program.now.items (wanted {S = CodeScript} c.args.kind (Create (meant_order o)) c.args.context.now) all_words hs) c.get.ensures h) c.creation_wants.ensures)

pub returns-in_default : goal.returns-in_default
returns-in_default c =
    subst (λ (hs : List Held). AreHeld c.args.program.now.items (wanted {S = CodeScript} c.args.kind (meant_ask c.args.ask.now) c.args.context.now) all_words hs) (sym c.new.ensures)
    (none_held c.args.program.now.items (wanted {S = CodeScript} c.args.kind (meant_ask c.args.ask.now) c.args.context.now) (unwanted_ask c.args.kind c.args.ask.now c.args.context.now c.in_default.not-Create) all_words)
