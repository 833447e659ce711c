use Rattle.std.proofs.Common.{◌≤◌, ◌∙◌, ap, length, subst, sym}
use Rattle.oss_grammar.specs.Layout.{cells_in}
use Rattle.oss_model.specs.Agreement.{AreWords}
use Rattle.oss_lower_laws.proofs.OutcomeLaws.{cells_are}
use Rattle.oss_explain.specs.Endings.{IsEndingOf}
use Rattle.oss_top.proofs.EndingLemmas.{ended_by_code}
use Rattle.oss_top.proofs.FormLemmas.{if_ok}
use Rattle.oss_top.proofs.RunLemmas.{failure_told}
use Rattle.oss_top.proofs.explain.ended.Goals as goal

-- a code has as many cells as its program
pub explain-requires-clause-layout : goal.explain-requires-clause-layout
explain-requires-clause-layout c =
    let stands = c.codes_stand_at_places.ensures c.args.known.now.items c.args.code.now c.requires.lowered in
    subst (λ p. cells_in p.items ≤ 1048576) (sym c.program.ensures.same)
    (subst (λ n. n ≤ 1048576) (ap length stands.of.first ∙ cells_are c.args.known.now.items) c.requires.few)

pub returns : goal.returns
returns c =
    if_ok c.explain.result
    (λ finish is. (
      ended_by_code c.endings_alike.ensures c.args.known.now c.args.code.now (c.codes_stand_at_places.ensures c.args.known.now.items c.args.code.now c.requires.lowered)
          (subst AreWords (c.as_slice.ensures ∙ c.first.ensures) c.are_words.ensures) c.args.fuel finish.ending
          (subst (λ p. IsEndingOf c.args.code.now c.args.fuel p.items finish.ending) c.program.ensures.same is.ending),
      failure_told c.args.fuel c.args.known.now c.args.code.now c.requires.lowered finish.ending finish.failure is.failure,
    ))
    c.explain.ensures
