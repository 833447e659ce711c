use Rattle.oss_words.proofs.KnowLemmas.{childless_unheaded}
use Rattle.oss_words.proofs.laws.childless_are_unheaded.Goals as goal

pub returns : goal.returns
returns c = λ n draw net gave states infos views o rule l none. childless_unheaded n draw net gave states infos views rule o l none
