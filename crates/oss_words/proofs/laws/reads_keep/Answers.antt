use Rattle.oss_words.proofs.RuleLaw.{rule_read}
use Rattle.oss_words.proofs.laws.reads_keep.Goals as goal

pub returns : goal.returns
returns c = λ n draw net gave states infos views id v w e rule at live d. rule_read n net gave states infos draw views rule id v w e at live d
