use Rattle.oss_explanation.proofs.TextLemmas.{on_ok, then}
use Rattle.oss_explanation.proofs.reason.add_lack_for_child.Goals as goal

pub returns : goal.returns
returns c = on_ok c.add_child_rule.result (λ last. then _ _ _ _ _ c.in_ok-add_uncovered.ensures last) c.add_child_rule.ensures
