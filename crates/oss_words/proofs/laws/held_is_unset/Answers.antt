use Rattle.oss_words.proofs.FirstLemmas.{held_unset}
use Rattle.oss_words.proofs.laws.held_is_unset.Goals as goal

pub returns : goal.returns
returns c = λ n draw net gave states infos views id v m rule at h. held_unset n net states infos views rule.kept.flow id v at m h
