use Rattle.oss_words.proofs.RuleLaw.{rule_fill}
use Rattle.oss_words.proofs.laws.fills_keep.Goals as goal

pub returns : goal.returns
returns c = λ n draw net gave states states' infos infos' views e rule d. rule_fill n net gave states states' infos infos' draw views e rule d
