use Rattle.std.proofs.Common.{◌∙◌, subst}
use Rattle.oss_model.specs.Agreement.{AreWords}
use Rattle.oss_top.proofs.FormLemmas.{if_ok}
use Rattle.oss_top.proofs.RunLemmas.{single_of}
use Rattle.oss_top.proofs.worked.single_run.Goals as goal

pub returns : goal.returns
returns g c =
    if_ok c.single.result
    (λ run is. single_of c.args.known.now c.in_ok-code.code c.args.fuel run.answer run.order run.tasks c.in_ok-code.ensures.code_of (subst AreWords (c.as_slice.ensures ∙ c.first.ensures) c.are_words.ensures) is)
    c.single.ensures
