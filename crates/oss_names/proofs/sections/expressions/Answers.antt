use Rattle.std.proofs.Common.{◌∙◌, ap, sym}
use Rattle.oss_grammar.specs.Broken.{first}
use Rattle.oss_grammar.specs.SectionRules.{form_rules}
use Rattle.oss_names.proofs.sections.expressions.Goals as goal

pub returns-in-Many : goal.returns-in-Many
returns-in-Many c = c.several.ensures ∙ ap (λ f. first (form_rules c.args.globals.now c.args.locals.now f)) (sym c.in-Many.is)
