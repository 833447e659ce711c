use Rattle.oss_explanation.proofs.TextLemmas.{on_ok, then}
use Rattle.oss_explanation.proofs.reason.add_was_released.Goals as goal

pub returns : goal.returns
returns c = on_ok c.add.result (λ last. then _ _ _ _ _ (then _ _ _ _ _ c.in_ok-add_release_line.ensures c.in_ok-add_failing.ensures) last) c.add.ensures
