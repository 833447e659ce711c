use Rattle.oss_words.proofs.RuleLaw.{rule_link}
use Rattle.oss_words.proofs.laws.links_keep.Goals as goal

pub returns : goal.returns
returns c = λ n draw net gave states states' infos views id v w net' o e rule at d t. rule_link n net net' gave states states' infos draw views id v w o e rule at d t
