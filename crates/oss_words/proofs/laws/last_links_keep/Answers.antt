use Rattle.oss_words.proofs.RuleLaw.{rule_rise}
use Rattle.oss_words.proofs.laws.last_links_keep.Goals as goal

pub returns : goal.returns
returns c = λ n draw net gave states states' infos views id v w e rule at d t. rule_rise n net gave states states' infos draw views id v w rule at e d t
