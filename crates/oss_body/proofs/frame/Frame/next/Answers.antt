use Rattle.std.proofs.Common.{ℕ, sym, ap, ◌∙◌}
use Rattle.oss_machine.specs.Machines.{Poised, asks}
use Rattle.oss_model.specs.Bodies.{judged_act, settled_frame}
use Rattle.oss_model.specs.Context.{Context}
use Rattle.oss_body.specs.Drafts.{draft_fault, drafted}
use Rattle.oss_body.specs.Places.{Framed}
use Rattle.oss_body.proofs.BehindLemmas.{same_ahead}
use Rattle.oss_body.proofs.FrameLemmas.{settled_kept, settled_place_is}
use Rattle.oss_body.proofs.frame.Frame.next.Goals as goal

pub returns-in-Ok-clause-frame : goal.returns-in-Ok-clause-frame
returns-in-Ok-clause-frame c = λ f e.
    let code = c.args.code.now in
    let x = c.self.inside in
    let is = c.self.view_is ∙ e in
    let count = c.created_count-created.ensures.count ∙ ap (λ (y : Context). y.created) c.context.ensures in
    let a = same_ahead code f x.machine.stands x.place x.awaits x.machine.ahead c.created_count-created.result c.self.invariant is count in
    settled_kept code f c.go.new.self.stands x.place x.awaits (ap (λ (q : Poised). q.stands) c.go.ensures ∙ c.in-Ok.ensures.ahead f a) (ap (λ (y : Framed). y.place) is) (ap (λ (y : Framed). y.awaits) is)

pub returns-in-Ok-clause-act : goal.returns-in-Ok-clause-act
returns-in-Ok-clause-act c = λ f e.
    let code = c.args.code.now in
    let x = c.self.inside in
    let is = c.self.view_is ∙ e in
    let count = c.created_count-created.ensures.count ∙ ap (λ (y : Context). y.created) c.context.ensures in
    let a = same_ahead code f x.machine.stands x.place x.awaits x.machine.ahead c.created_count-created.result c.self.invariant is count in
    let g = settled_frame (asks code) f in
    let d = c.in-Ok.draft in
    c.judged.ensures.act g (settled_place_is code f x.place (ap (λ (y : Framed). y.place) is))
    ∙ ap (λ (n : ℕ). judged_act g n (draft_fault g.context d) (drafted d)) (c.line.ensures ∙ ap (λ (q : Poised). q.stands.asked.line) c.go.ensures)
    ∙ sym (c.in-Ok.ensures.means f a)
