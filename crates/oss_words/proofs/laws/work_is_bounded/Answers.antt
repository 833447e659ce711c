use Rattle.oss_words.proofs.WorkLemmas.{work_bounded}
use Rattle.oss_words.proofs.laws.work_is_bounded.Goals as goal

pub returns : goal.returns
returns c = λ n draw net gave states infos views rule. work_bounded n net gave states infos draw views rule
