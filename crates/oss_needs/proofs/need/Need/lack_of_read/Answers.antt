use Rattle.std.proofs.Common.{sym, ap, ◌∙◌}
use Rattle.oss_needs.specs.declared.lack.Lack.TheVariants as lack
use Rattle.oss_needs.proofs.LackingLemmas.{read_enough, read_more, read_strong}
use Rattle.oss_needs.proofs.need.Need.lack_of_read.Goals as goal

pub returns-then-refused_by : goal.returns-then-refused_by
returns-then-refused_by c = λ ds i.
    ap lack.Adds (c.clause.ensures ds i)
    ∙ read_more c.args.clause ds c.is_more_than_read.result c.requires (sym (c.refused_by.ensures ds i) ∙ c.if-refused_by.true) (c.is_more_than_read.ensures ds i)

pub returns-then-is_too_much_for : goal.returns-then-is_too_much_for
returns-then-is_too_much_for c = λ ds i.
    ap lack.Adds (c.clause-then-is_too_much_for.ensures ds i)
    ∙ read_strong c.args.clause ds c.requires (sym (c.refused_by.ensures ds i) ∙ c.if-refused_by.false) (sym (c.is_too_much_for.ensures ds i) ∙ c.if-is_too_much_for.true)

pub returns-else-is_too_much_for : goal.returns-else-is_too_much_for
returns-else-is_too_much_for c = λ ds i.
    read_enough c.args.clause ds c.requires (sym (c.refused_by.ensures ds i) ∙ c.if-refused_by.false) (sym (c.is_too_much_for.ensures ds i) ∙ c.if-is_too_much_for.false)
