use Rattle.oss_words.proofs.RestLaw.{rest_exact}
use Rattle.oss_words.proofs.laws.rest_is_exact.Goals as goal

pub returns : goal.returns
returns c = λ n draw net gave states infos views place gives e rule tell quiet h. rest_exact n net gave states infos draw views rule place gives tell quiet e h
