use Rattle.std.proofs.Common.{sym, ◌∙◌, true, false}
use Rattle.oss_needs.proofs.LackingLemmas.{fold_told}
use Rattle.oss_needs.proofs.need.Need.lack_of_fold.Goals as goal

pub returns-then-is_too_much_for : goal.returns-then-is_too_much_for
returns-then-is_too_much_for c = λ ds i.
    sym (fold_told c.args.clause ds true (sym (c.refused_by.ensures ds i) ∙ c.if-refused_by.false) (sym (c.is_too_much_for.ensures ds i) ∙ c.if-is_too_much_for.true))

pub returns-else-is_too_much_for : goal.returns-else-is_too_much_for
returns-else-is_too_much_for c = λ ds i.
    sym (fold_told c.args.clause ds false (sym (c.refused_by.ensures ds i) ∙ c.if-refused_by.false) (sym (c.is_too_much_for.ensures ds i) ∙ c.if-is_too_much_for.false))
