use Rattle.std.proofs.Common.{sym, ap, ◌∙◌, Bool}
use Rattle.std.specs.Prelude.{◌||◌}
use Rattle.oss_needs.specs.Lacks.{refuses}
use Rattle.oss_needs.proofs.LackingLemmas.{refused_of}
use Rattle.oss_needs.proofs.need.Need.refused_by.Goals as goal

pub returns-then-is_refused : goal.returns-then-is_refused
returns-then-is_refused c = λ ds i.
    c.if-is_refused.true
    ∙ sym (refused_of c.args.mode ds c.args.self i ∙ ap (λ (x : Bool). x || refuses c.args.mode c.args.self.others) (sym c.is_refused.ensures ∙ c.if-is_refused.true))

pub returns-else-is_refused : goal.returns-else-is_refused
returns-else-is_refused c = λ ds i.
    c.is_refused-else-is_refused.ensures
    ∙ sym (refused_of c.args.mode ds c.args.self i ∙ ap (λ (x : Bool). x || refuses c.args.mode c.args.self.others) (sym c.is_refused.ensures ∙ c.if-is_refused.false))
