use Rattle.std.proofs.Common.{sym, ap, ◌∙◌, Bool, false, Some, None}
use Rattle.std.specs.Prelude.{if◌then◌else◌}
use Rattle.oss_syntax.specs.declared.access.Mode.TheVariants as modes
use Rattle.oss_needs.specs.Lacks.{clause_for, least_of}
use Rattle.oss_needs.proofs.LackingLemmas.{least_is, own_of}
use Rattle.oss_needs.proofs.need.Need.least.Goals as goal

pub returns-in-Some : goal.returns-in-Some
returns-in-Some c = λ ds i.
    ap Some (c.clause.ensures ds i ∙ ap (clause_for ds c.in-Some.mode) (c.is_some.ensures ∙ sym (own_of ds c.args.self i)))
    ∙ sym (ap (least_of ds) (least_is ds c.args.self i ∙ sym c.mode_with.ensures ∙ c.in-Some.is))

pub returns-then-self : goal.returns-then-self
returns-then-self c = λ ds i.
    sym (ap (least_of ds) (least_is ds c.args.self i ∙ sym c.mode_with.ensures ∙ c.in-None.is)
    ∙ ap (λ (b : Bool). if b then Some (record { mode = modes.Read; strong = false; fresh = false }) else None) (sym i.waited ∙ c.if-self.true))

pub returns-else-self : goal.returns-else-self
returns-else-self c = λ ds i.
    sym (ap (least_of ds) (least_is ds c.args.self i ∙ sym c.mode_with.ensures ∙ c.in-None.is)
    ∙ ap (λ (b : Bool). if b then Some (record { mode = modes.Read; strong = false; fresh = false }) else None) (sym i.waited ∙ c.if-self.false))
