use Rattle.oss_words.proofs.KnowLemmas.{not_given}
use Rattle.oss_words.proofs.laws.owners_know_gives.Goals as goal

pub returns : goal.returns
returns c = λ n draw net gave states infos views id v e rule at own none. not_given n draw net gave states infos views rule id v e at own none
