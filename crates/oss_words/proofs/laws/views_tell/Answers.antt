use Rattle.oss_words.proofs.RestLaw.{views_tell}
use Rattle.oss_words.proofs.laws.views_tell.Goals as goal

pub returns : goal.returns
returns c = λ n draw net gave states infos views rule. views_tell n net gave states infos draw views rule
