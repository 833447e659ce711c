use Rattle.std.proofs.Common.{◌∙◌, subst}
use Rattle.oss_model.specs.Agreement.{AreWords}
use Rattle.oss_top.proofs.FormLemmas.{if_ok}
use Rattle.oss_top.proofs.RunLemmas.{ran-of}
use Rattle.oss_top.proofs.run.serial_run.Goals as goal

pub returns : goal.returns
returns c =
    if_ok c.serial.result
    (λ ran is. ran-of c.args.known.now c.in_ok-code.code c.args.fuel ran c.in_ok-code.ensures.code_of (subst AreWords (c.as_slice.ensures ∙ c.first.ensures) c.are_words.ensures) is)
    c.serial.ensures
