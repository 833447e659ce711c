use Rattle.std.proofs.Common.{◌∙◌, ap, sym, take}
use Rattle.oss_grammar.specs.declared.kinds.Wanted.TheVariants as wanted
use Rattle.oss_grammar.specs.Broken.{first}
use Rattle.oss_grammar.specs.ExpressionRules.{value_rules}
use Rattle.oss_grammar.specs.SectionRules.{loop_clause_rules}
use Rattle.oss_names.proofs.sections.loop_clause.Goals as goal

pub returns-in-Grain-clause-rules : goal.returns-in-Grain-clause-rules
returns-in-Grain-clause-rules c =
    let all = c.args.globals.now in
    let ls = c.args.locals.now in
    c.value_in.ensures ∙ ap (λ xs. first (value_rules all xs wanted.Number c.in-Grain.expr)) c.first.ensures
    ∙ ap (λ one. first (loop_clause_rules all (take c.args.outer ls) ls c.args.before one)) (sym c.in-Grain.is)
