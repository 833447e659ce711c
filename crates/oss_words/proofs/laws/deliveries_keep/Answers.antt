use Rattle.oss_words.proofs.RuleLaw.{rule_deliver}
use Rattle.oss_words.proofs.laws.deliveries_keep.Goals as goal

pub returns : goal.returns
returns c = λ n draw net gave states states' infos views id v w m rest rule at d t. rule_deliver n net gave states states' infos draw views id v w rule at m rest d t
