use Rattle.oss_labels.proofs.LabelLemmas.{labels_are_told}
use Rattle.oss_labels.proofs.laws.labels_are_told.Goals as goal

pub returns : goal.returns
returns c = labels_are_told
