use Rattle.std.proofs.Common.{◌≡◌, ap, sym, ◌∙◌}
use Rattle.oss_machine.specs.Machines.{asks}
use Rattle.oss_model.specs.Bodies.{child_start, stack_from}
use Rattle.oss_body.specs.declared.act.Act.{Act}
use Rattle.oss_body.specs.declared.act.Act.TheVariants as acts
use Rattle.oss_body.specs.declared.act.Creation.{Creation}
use Rattle.oss_body.proofs.Results.{if_ok}
use Rattle.oss_body.proofs.Advancing as advancing
use Rattle.oss_body.proofs.body.Body.child.Goals as goal

pub returns : goal.returns
returns c = if_ok c.begin.result (λ child begun start found order is h.
    let code = c.args.code.now in
    let b = c.args.self.now in
    let creation = c.get-creation.result.now in
    let included = c.in-Create.included in
    let act : b.act ≡ acts.Create creation included = c.in-Create.is ∙ ap {B = Act} (λ (x : Creation). acts.Create x included) (sym c.get-creation.ensures) in
    let f = (stack_from (asks code) start found).base in
    let own = c.in_ok-own-in-Create.ensures in
    let top = advancing.top_is code start found b is c.requires.running creation included act order h in
    let context = advancing.context_is code start found b is c.requires.running creation included act order h in
    begun (child_start f order)
    (advancing.child_has_started code start found b is c.requires.running creation included act order h c.in_ok-own-in-Create.own own.context own.wait own.priority own.slots)
    (advancing.child_begins code start found b is c.requires.running creation included act order h c.in_ok-top-in-Create.top (c.in_ok-top-in-Create.ensures f top context))) c.begin.ensures
