use Rattle.oss_words.proofs.RuleLaw.{rule_split}
use Rattle.oss_words.proofs.laws.splits_keep.Goals as goal

pub returns : goal.returns
returns c = λ n draw net gave states infos views v w x rule at d. rule_split n net gave states infos draw views rule v w x at d
