use Rattle.oss_words.proofs.KnowLemmas.{last_unlinked}
use Rattle.oss_words.proofs.laws.lasts_are_unlinked.Goals as goal

pub returns : goal.returns
returns c = λ n draw net gave states infos views o rule h none g. last_unlinked n draw net gave states infos views rule o h none g
