use Rattle.std.proofs.Common.{◌≡◌, sym, ap, ◌∙◌}
use Rattle.oss_machine.specs.Machines.{Poised, machine_after, machine_at}
use Rattle.oss_model.specs.Bodies.{act_of_ask, frame_after}
use Rattle.oss_body.specs.declared.act.Act.{Act}
use Rattle.oss_body.specs.Acts.{act_seen, answer_to}
use Rattle.oss_body.specs.Behind.{answered_standing, awaits_by}
use Rattle.oss_body.specs.Places.{Framed, place_of}
use Rattle.oss_body.proofs.BehindLemmas.{awaits_after, light_answered, light_awaits, machine_behind, place_behind}
use Rattle.oss_body.proofs.FrameLemmas.{at_once_act, at_once_kept}
use Rattle.oss_body.proofs.frame.Frame.follow_at_once.Goals as goal

pub returns-clause-frame : goal.returns-clause-frame
returns-clause-frame c = λ next some f e h.
    let code = c.args.code.now in
    let act = c.args.act.now in
    let v = answer_to (act_seen act) c.args.loaded in
    let x = c.self.inside in
    let is = c.self.view_is ∙ e in
    let g = frame_after (act_seen act) v f in
    let light = c.is_light.ensures c.if-not-is_light.false in
    let machine : c.answer_at_once.new.self.stands ≡ machine_at code g.script g.answers =
    ap (λ (q : Poised). q.stands) (c.answer_at_once.ensures.done c.if-not-answer_at_once.false)
    ∙ ap (λ w. machine_after code w x.machine.stands) c.found_by.ensures
    ∙ light_answered code act x.place.context v x.machine.stands light
    ∙ ap (λ (y : Framed). answered_standing code (act_seen act) v y.machine) is
    ∙ machine_behind code act c.args.loaded f in
    let place : c.pass.new.self ≡ place_of g = c.pass.ensures ∙ place_behind act v f x.place (ap (λ (y : Framed). y.place) is) h in
    let awaits : x.awaits ≡ g.awaits = light_awaits act x.place.context x.awaits light ∙ ap (λ (y : Framed). awaits_by act y.awaits) is ∙ sym (awaits_after act v f) in
    at_once_kept code g c.answer_at_once.new.self.stands c.pass.new.self x.awaits machine place awaits (c.answer_at_once.ensures.quick c.if-not-answer_at_once.false)

pub returns-clause-act : goal.returns-clause-act
returns-clause-act c = λ next some slots included f e h.
    let code = c.args.code.now in
    let act = c.args.act.now in
    let v = answer_to (act_seen act) c.args.loaded in
    let x = c.self.inside in
    let is = c.self.view_is ∙ e in
    let g = frame_after (act_seen act) v f in
    let light = c.is_light.ensures c.if-not-is_light.false in
    let machine : c.answer_at_once.new.self.stands ≡ machine_at code g.script g.answers =
    ap (λ (q : Poised). q.stands) (c.answer_at_once.ensures.done c.if-not-answer_at_once.false)
    ∙ ap (λ w. machine_after code w x.machine.stands) c.found_by.ensures
    ∙ light_answered code act x.place.context v x.machine.stands light
    ∙ ap (λ (y : Framed). answered_standing code (act_seen act) v y.machine) is
    ∙ machine_behind code act c.args.loaded f in
    let place : c.pass.new.self ≡ place_of g = c.pass.ensures ∙ place_behind act v f x.place (ap (λ (y : Framed). y.place) is) h in
    let awaits : x.awaits ≡ g.awaits = light_awaits act x.place.context x.awaits light ∙ ap (λ (y : Framed). awaits_by act y.awaits) is ∙ sym (awaits_after act v f) in
    let told : c.judged_at_once.result ≡ next = cc in
    ap {A = Act} act_seen (sym told)
    ∙ at_once_act code g c.answer_at_once.new.self.stands slots included (act_seen c.judged_at_once.result) machine (sym awaits ∙ c.if-self.false) (c.answer_at_once.ensures.quick c.if-not-answer_at_once.false)
    (c.judged_at_once.ensures.act slots included g place ∙ (λ i. act_of_ask slots included g (c.ask.ensures i) (c.line.ensures i)))
