use Rattle.std.proofs.Common.{sym, ap, ◌∙◌, true, false}
use Rattle.oss_syntax.specs.declared.access.Mode.TheVariants as modes
use Rattle.oss_needs.specs.declared.lack.Lack.TheVariants as lack
use Rattle.oss_needs.specs.Lacks.{refuses}
use Rattle.oss_needs.proofs.LackingLemmas.{write_broken, write_enough, write_strong}
use Rattle.oss_needs.proofs.need.Need.lack_of_write.Goals as goal

pub returns-then-is_refused : goal.returns-then-is_refused
returns-then-is_refused c = λ ds i.
    ap lack.Adds (c.clause.ensures ds i)
    ∙ write_strong c.args.clause ds true c.requires (sym (c.is_too_much_for.ensures ds i) ∙ c.if-is_too_much_for.true)
    (ap (refuses modes.Read) (sym i.own) ∙ sym c.is_refused.ensures ∙ c.if-is_refused.true)

pub returns-else-is_refused : goal.returns-else-is_refused
returns-else-is_refused c = λ ds i.
    ap lack.Adds (c.clause-else-is_refused.ensures ds i)
    ∙ write_strong c.args.clause ds false c.requires (sym (c.is_too_much_for.ensures ds i) ∙ c.if-is_too_much_for.true)
    (ap (refuses modes.Read) (sym i.own) ∙ sym c.is_refused.ensures ∙ c.if-is_refused.false)

pub returns-then-is_read_first : goal.returns-then-is_read_first
returns-then-is_read_first c = λ ds i.
    ap lack.Adds (c.clause-then-is_read_first.ensures ds i)
    ∙ write_broken c.args.clause ds c.requires (sym (c.is_too_much_for.ensures ds i) ∙ c.if-is_too_much_for.false) (sym (c.is_read_first.ensures ds i) ∙ c.if-is_read_first.true)

pub returns-else-is_read_first : goal.returns-else-is_read_first
returns-else-is_read_first c = λ ds i.
    write_enough c.args.clause ds c.requires (sym (c.is_too_much_for.ensures ds i) ∙ c.if-is_too_much_for.false) (sym (c.is_read_first.ensures ds i) ∙ c.if-is_read_first.false)
