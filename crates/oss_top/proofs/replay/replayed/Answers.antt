use Rattle.std.proofs.Common.{◌∙◌, subst}
use Rattle.oss_model.specs.Agreement.{AreWords}
use Rattle.oss_top.proofs.FormLemmas.{if_ok}
use Rattle.oss_top.proofs.ReplayLemmas.{replay_replies}
use Rattle.oss_top.proofs.replay.replayed.Goals as goal

pub returns : goal.returns
returns c =
    if_ok c.replay.result
    (λ replayed is. replay_replies c.args.known.now c.in_ok-code.code c.in_ok-code.ensures.code_of (subst AreWords (c.as_slice.ensures ∙ c.first.ensures) c.are_words.ensures) c.args.fuel c.args.moves.now replayed is)
    c.replay.ensures
