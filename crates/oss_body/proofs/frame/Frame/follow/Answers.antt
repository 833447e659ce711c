use Rattle.std.proofs.Common.{ℕ, sym, ap, ◌∙◌}
use Rattle.oss_machine.specs.Machines.{Poised, asks}
use Rattle.oss_model.specs.Bodies.{frame_after, judged_act, settled_frame}
use Rattle.oss_body.specs.Acts.{act_seen, answer_to}
use Rattle.oss_body.specs.Behind.{awaits_by}
use Rattle.oss_body.specs.Drafts.{draft_fault, drafted}
use Rattle.oss_body.specs.Places.{Framed}
use Rattle.oss_body.proofs.BehindLemmas.{awaits_after, behind_ahead, place_behind}
use Rattle.oss_body.proofs.FrameLemmas.{settled_kept, settled_place_is}
use Rattle.oss_body.proofs.frame.Frame.follow.Goals as goal

pub returns-in-Ok-clause-frame : goal.returns-in-Ok-clause-frame
returns-in-Ok-clause-frame c = λ f e h.
    let code = c.args.code.now in
    let act = c.args.act.now in
    let v = answer_to (act_seen act) c.args.loaded in
    let x = c.self.inside in
    let is = c.self.view_is ∙ e in
    let a = behind_ahead code act c.args.loaded f x.machine.stands x.place x.awaits x.machine.ahead c.created_behind-created.result c.awaits_behind.result c.self.invariant is h c.created_behind-created.ensures.created c.awaits_behind.ensures in
    let place = c.in-Ok.ensures.place ∙ place_behind act v f x.place (ap (λ (y : Framed). y.place) is) h in
    settled_kept code (frame_after (act_seen act) v f) c.go.new.self.stands c.reach_behind.new.place c.awaits_behind.result (ap (λ (q : Poised). q.stands) c.go.ensures ∙ c.in-Ok.ensures.ahead (frame_after (act_seen act) v f) a) place
    (c.awaits_behind.ensures ∙ ap (λ (y : Framed). awaits_by act y.awaits) is ∙ sym (awaits_after act v f))

pub returns-in-Ok-clause-act : goal.returns-in-Ok-clause-act
returns-in-Ok-clause-act c = λ f e h.
    let code = c.args.code.now in
    let act = c.args.act.now in
    let v = answer_to (act_seen act) c.args.loaded in
    let x = c.self.inside in
    let is = c.self.view_is ∙ e in
    let a = behind_ahead code act c.args.loaded f x.machine.stands x.place x.awaits x.machine.ahead c.created_behind-created.result c.awaits_behind.result c.self.invariant is h c.created_behind-created.ensures.created c.awaits_behind.ensures in
    let place = c.in-Ok.ensures.place ∙ place_behind act v f x.place (ap (λ (y : Framed). y.place) is) h in
    let g = settled_frame (asks code) (frame_after (act_seen act) v f) in
    let d = c.in-Ok.draft in
    c.judged.ensures.act g (settled_place_is code (frame_after (act_seen act) v f) c.reach_behind.new.place place)
    ∙ ap (λ (n : ℕ). judged_act g n (draft_fault g.context d) (drafted d)) (c.line.ensures ∙ ap (λ (q : Poised). q.stands.asked.line) c.go.ensures)
    ∙ sym (c.in-Ok.ensures.means (frame_after (act_seen act) v f) a)
