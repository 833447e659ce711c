use Rattle.std.proofs.Common.{sym, ap, ◌∙◌, Bool}
use Rattle.std.specs.Prelude.{◌||◌}
use Rattle.oss_syntax.specs.declared.access.Mode.TheVariants as modes
use Rattle.oss_needs.specs.Lacks.{refuses}
use Rattle.oss_needs.specs.Demands.{is_own}
use Rattle.oss_needs.specs.Lacks.{least_mode}
use Rattle.oss_needs.proofs.need.Need.is_more_than_read.Goals as goal

pub returns-then-is_too_much_for : goal.returns-then-is_too_much_for
returns-then-is_too_much_for c = λ ds i.
    c.if-is_too_much_for.true ∙ sym (ap (λ (x : Bool). x || refuses modes.Read (least_mode is_own ds)) (sym (c.is_too_much_for.ensures ds i) ∙ c.if-is_too_much_for.true))

pub returns-else-is_too_much_for : goal.returns-else-is_too_much_for
returns-else-is_too_much_for c = λ ds i.
    c.is_refused.ensures ∙ ap (refuses modes.Read) i.own
    ∙ sym (ap (λ (x : Bool). x || refuses modes.Read (least_mode is_own ds)) (sym (c.is_too_much_for.ensures ds i) ∙ c.if-is_too_much_for.false))
