use Rattle.std.proofs.Common.{◌∙◌, subst}
use Rattle.oss_model.specs.Agreement.{AreWords}
use Rattle.oss_top.proofs.FormLemmas.{if_ok}
use Rattle.oss_top.proofs.span.spanned.Goals as goal

pub returns : goal.returns
returns c =
    if_ok c.span.result
    (λ run is.
    (c.spans_alike.ensures c.args.known.now.items c.in_ok-code.code c.in_ok-code.ensures.code_of (subst AreWords (c.as_slice.ensures ∙ c.first.ensures) c.are_words.ensures) c.args.fuel run.answer run.work run.span run.chain).1 is)
    c.span.ensures
