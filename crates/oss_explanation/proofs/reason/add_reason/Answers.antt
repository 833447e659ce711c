use Rattle.oss_explanation.proofs.TextLemmas.{on_ok, then}
use Rattle.oss_explanation.proofs.reason.add_reason.Goals as goal

pub returns-in_ok-add_wanted-in-CreationNotCovered : goal.returns-in_ok-add_wanted-in-CreationNotCovered
returns-in_ok-add_wanted-in-CreationNotCovered c = rw c.in-CreationNotCovered.is (on_ok c.add_lack_for_child.result
    (λ last. then _ _ _ _ _ c.in_ok-add_wanted-in-CreationNotCovered.ensures last) c.add_lack_for_child.ensures)

pub returns-in_ok-add_released-in-ReleaseNotCovered : goal.returns-in_ok-add_released-in-ReleaseNotCovered
returns-in_ok-add_released-in-ReleaseNotCovered c = rw c.in-ReleaseNotCovered.is (on_ok c.add_lack_for_release.result
    (λ last. then _ _ _ _ _ c.in_ok-add_released-in-ReleaseNotCovered.ensures last) c.add_lack_for_release.ensures)
