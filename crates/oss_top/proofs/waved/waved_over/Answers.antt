use Rattle.std.proofs.Common.{◌∙◌, subst}
use Rattle.oss_model.specs.Agreement.{AreWords}
use Rattle.oss_top.proofs.RunLemmas.{waves_kept, waves_of}
use Rattle.oss_top.proofs.waved.waved_over.Goals as goal

pub returns : goal.returns
returns g c =
    waves_kept c.args.known.now c.args.options.fuel _ _ _ _ c.without_deps.ensures.answer c.without_deps.ensures.waves
    (waves_of c.args.known.now c.in_ok-code.code c.args.options.fuel _ _ _ c.in_ok-code.ensures.code_of (subst AreWords (c.as_slice.ensures ∙ c.first.ensures) c.are_words.ensures) c.in_ok-run.ensures)
