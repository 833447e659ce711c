use Rattle.std.proofs.Common.{◌∷◌, ◌++◌, ◌∙◌, [], ap, length, nat_le}
use Rattle.oss_syntax.specs.declared.refusal.RefusedKind.TheVariants as refused
use Rattle.oss_grammar.specs.declared.kinds.Wanted.TheVariants as wanted
use Rattle.oss_grammar.specs.Broken.{first, where_so}
use Rattle.oss_grammar.specs.ExpressionRules.{value_rules}
use Rattle.oss_grammar.specs.SectionRules.{optional_rules}
use Rattle.oss_names.proofs.Parts.{first-both}
use Rattle.oss_names.proofs.sections.several.Goals as goal

pub returns : goal.returns
returns c =
    let all = c.args.globals.now in
    let ls = c.args.locals.now in
    let turns = c.args.turns.now in
    let inside = ls ++ turns.variable ∷ [] in
    let row = value_rules all inside wanted.Number c.args.index.now in
    let column = optional_rules all inside c.args.second.now in
    let rest = where_so (nat_le 255 (length ls)) refused.TooLarge turns.variable.line ++ (optional_rules all ls turns.variable.first ++ value_rules all ls wanted.Number turns.count) in
    c.before-3.ensures
    ∙ first-both row (column ++ rest) _ _ (c.value_in-row.ensures ∙ ap (λ xs. first (value_rules all xs wanted.Number c.args.index.now)) c.with-scope.ensures)
    (c.before-2.ensures ∙ first-both column rest _ _ (c.optional_in-column.ensures ∙ ap (λ xs. first (optional_rules all xs c.args.second.now)) c.with-scope.ensures) c.turns_alone.ensures)
