use Rattle.std.proofs.Common.{ap, ◌∙◌, Option}
use Rattle.std.specs.Prelude.{◌||◌}
use Rattle.oss_machine.specs.Asks.{meant_order}
use Rattle.oss_model.specs.Bodies.{Created, judged_act}
use Rattle.oss_model.specs.Context.{creation_fault}
use Rattle.oss_syntax.specs.declared.fault.FaultKind.{FaultKind}
use Rattle.oss_body.specs.declared.act.Creation.{Creation}
use Rattle.oss_body.specs.Places.{Placed}
use Rattle.oss_body.proofs.place.Place.judged.Goals as goal

pub returns-in-Creation-clause-act : goal.returns-in-Creation-clause-act
returns-in-Creation-clause-act c = rw c.in-Creation.is (λ f e.
    let x = c.args.self.now.context in
    let o = c.in-Creation.creation.order in
    let found = c.creation_fault-found.ensures ∙ ap (λ (q : Creation). creation_fault x q.order.accesses (x.final || q.order.last)) c.get.ensures
    ∙ ap (λ (p : Placed). creation_fault p.context o.accesses (p.context.final || o.last)) e in
    c.unless_fault-in-Creation.ensures.act f e ∙ ap (λ (k : Option FaultKind). judged_act f c.args.line k (Created (meant_order o) c.in-Creation.included)) found)
