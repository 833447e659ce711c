use Rattle.std.proofs.Common.{◌≡◌, ◌≤◌, ◌∙◌, ap, length, subst, sym}
use Rattle.oss_grammar.specs.Layout.{cells_in}
use Rattle.oss_lower_laws.proofs.OutcomeLaws.{cells_are}
use Rattle.oss_missing.specs.Missing.{IsMissing}
use Rattle.oss_top.proofs.FormLemmas.{if_ok}
use Rattle.oss_top.proofs.MissingLemmas.{missing_by_code}
use Rattle.oss_top.proofs.missing.missing_of.Goals as goal

-- a code has as many cells as its program
pub find_missing-requires-clause-cells : goal.find_missing-requires-clause-cells
find_missing-requires-clause-cells c =
    let stands = c.codes_stand_at_places.ensures c.args.known.now.items c.args.code.now c.requires.lowered in
    subst (λ p. cells_in p.items ≤ 1048576) (sym c.program.ensures.same)
    (subst (λ n. n ≤ 1048576) (ap length stands.of.first ∙ cells_are c.args.known.now.items) c.requires.few)

pub returns : goal.returns
returns c =
    if_ok c.find_missing.result
    (λ m is. missing_by_code c.args.known.now c.args.code.now c.args.fuel m c.requires.lowered (subst (λ p. IsMissing c.args.code.now c.args.fuel p.items m) c.program.ensures.same is))
    c.find_missing.ensures
