use Rattle.oss_words.proofs.RuleLaw.{rule_fill, rule_first}
use Rattle.oss_words.proofs.laws.first_fills_keep.Goals as goal

pub returns : goal.returns
returns c = λ n draw net gave states states' infos views id v w infos' net' e rule at f d x y t. rule_first n net net' gave states' infos' draw views id v w e (rule_fill n net gave states states' infos infos' draw views e rule f) at d x y t
