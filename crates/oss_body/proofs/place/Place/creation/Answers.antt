use Rattle.std.proofs.Common.{◌≡◌, sym, ap, ◌∙◌}
use Rattle.std.specs.Prelude.{◌||◌}
use Rattle.oss_machine.specs.Asks.{meant_order}
use Rattle.oss_model.specs.Bodies.{Created, judged_act}
use Rattle.oss_model.specs.Context.{creation_fault}
use Rattle.oss_body.specs.declared.act.Creation.{Creation}
use Rattle.oss_body.specs.Places.{Placed}
use Rattle.oss_body.proofs.place.Place.creation.Goals as goal

pub returns-clause-means : goal.returns-clause-means
returns-clause-means c = λ f line k.
    let o : c.args.order.now ≡ c.in_ok-creation.creation.order = sym (ap (λ (q : Creation). q.order) c.in_ok-creation.ensures ∙ c.in_ok-order.ensures) in
    let final : f.context.final ≡ c.is_final-2.result = sym (c.is_final-2.ensures ∙ ap (λ (p : Placed). p.context.final) c.self.view_is ∙ k.final) in
    λ i. judged_act f line (creation_fault f.context (o i).accesses (f.context.final || (o i).last)) (Created (meant_order (o i)) (final i))
