use Rattle.oss_words.proofs.RuleLaw.{rule_draw}
use Rattle.oss_words.proofs.laws.draws_keep.Goals as goal

pub returns : goal.returns
returns c = λ n draw draw' k net gave states infos views id v w rule at d. rule_draw n net gave states infos draw views rule draw' k id v w at d
