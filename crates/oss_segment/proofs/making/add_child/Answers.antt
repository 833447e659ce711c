use Rattle.std.proofs.Common.{rules, ◌≡◌, sym, subst, ap, ◌∙◌, Bool, true}
use Rattle.oss_body.specs.Acts.{creates}
use Rattle.oss_body.specs.Relation.{pending_of}
use Rattle.oss_segment.specs.Made.{AddsWhen}
use Rattle.oss_segment.proofs.making.add_child.Goals as goal

-- the act creates a task
pub returns : goal.returns
returns c =
    let made : c.creates.result ≡ true = search rules in
    let test : creates (pending_of c.args.body.now) ≡ true = ap creates (sym c.pending.ensures.kept) ∙ sym c.creates.ensures ∙ made in
    subst (λ (t : Bool). AddsWhen t c.args.code.now c.args.body.now c.args.children.now.items c.push.new.self.items) (sym test) (c.in_ok-child.child, c.in_ok-push.ensures.items, c.in_ok-child.ensures)
