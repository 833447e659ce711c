use Rattle.oss_explanation.proofs.TextLemmas.{on_ok, then}
use Rattle.oss_explanation.proofs.uncovered.add_wanted.Goals as goal

pub returns : goal.returns
returns c = on_ok c.add_named.result (λ last. then _ _ _ _ _ (then _ _ _ _ _ c.in_ok-add_who.ensures c.in_ok-add.ensures) last) c.add_named.ensures
