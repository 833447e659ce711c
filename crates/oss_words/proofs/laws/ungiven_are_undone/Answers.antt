use Rattle.oss_words.proofs.KnowLemmas.{ungiven_undone}
use Rattle.oss_words.proofs.laws.ungiven_are_undone.Goals as goal

pub returns : goal.returns
returns c = λ n draw net gave states infos views e rule l g. ungiven_undone n draw net gave states infos views rule e l g
