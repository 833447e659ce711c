use Rattle.oss_words.proofs.KnowLemmas.{no_child_hangs}
use Rattle.oss_words.proofs.laws.owners_know_children.Goals as goal

pub returns : goal.returns
returns c = λ n draw net gave states infos views id v o rule at own none. no_child_hangs n draw net gave states infos views rule id v o at own none
