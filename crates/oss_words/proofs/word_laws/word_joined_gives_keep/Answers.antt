use Rattle.oss_words.proofs.KeptLaw.{joins_gives_kept}
use Rattle.oss_words.proofs.word_laws.word_joined_gives_keep.Goals as goal

pub returns : goal.returns
returns c = λ n net gave states states' infos views id v w gave' e rest kept at l up d. joins_gives_kept n net gave states states' infos views id v w kept at gave' e l up rest d
