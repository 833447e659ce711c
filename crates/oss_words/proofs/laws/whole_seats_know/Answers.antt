use Rattle.oss_words.proofs.RestLaw.{all_parts}
use Rattle.oss_words.proofs.laws.whole_seats_know.Goals as goal

pub returns : goal.returns
returns c = λ n draw net gave states infos views id v rule at p x y. all_parts n net gave states infos draw views rule id v at p x y
