use Rattle.std.proofs.Common.{ap, ◌∙◌}
use Rattle.oss_body.specs.Places.{Framed, key_at}
use Rattle.oss_body.proofs.FrameLemmas.{child_is}
use Rattle.oss_body.proofs.Results.{if_ok}
use Rattle.oss_body.proofs.frame.Frame.child.Goals as goal

pub returns : goal.returns
returns c = if_ok c.new-2.result (λ child n f e h.
    child_is c.args.code.now c.args.creation.now.order f c.args.self.now c.in_ok-context.context c.in_ok-path.path c.new.result child e
    (c.in_ok-path.ensures.key ∙ ap (λ (y : Framed). key_at y.place) c.self.view_is) (c.in_ok-context.ensures ∙ h) c.new.ensures n) c.new-2.ensures
