use Rattle.oss_explanation.proofs.TextLemmas.{on_ok, then}
use Rattle.oss_explanation.proofs.uncovered.add_uncovered.Goals as goal

pub returns : goal.returns
returns c = on_ok c.add_failing.result (λ last. then _ _ _ _ _ c.in_ok-add_lack.ensures last) c.add_failing.ensures
