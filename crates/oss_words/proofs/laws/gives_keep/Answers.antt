use Rattle.oss_words.proofs.RuleLaw.{rule_give}
use Rattle.oss_words.proofs.laws.gives_keep.Goals as goal

pub returns : goal.returns
returns c = λ n draw net gave states states' infos views id v w gave' e rule at l h up d t. rule_give n net gave states states' infos draw views id v w rule at gave' e l up t h d
