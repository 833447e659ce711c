use Rattle.std.proofs.Common.{sym, ap, ◌∙◌, Bool}
use Rattle.std.specs.Prelude.{◌&&◌, not}
use Rattle.oss_needs.proofs.LackingLemmas.{own_of}
use Rattle.oss_needs.proofs.need.Need.is_too_much_for.Goals as goal

pub returns-then-is_some : goal.returns-then-is_some
returns-then-is_some c = λ ds i. sym (ap (λ (x : Bool). x && not c.args.clause.strong) (own_of ds c.args.self i ∙ sym c.is_some.ensures ∙ c.if-is_some.true))

pub returns-else-is_some : goal.returns-else-is_some
returns-else-is_some c = λ ds i. c.if-is_some.false ∙ sym (ap (λ (x : Bool). x && not c.args.clause.strong) (own_of ds c.args.self i ∙ sym c.is_some.ensures ∙ c.if-is_some.false))
