use Rattle.oss_words.proofs.KeptLaw.{leaves_kept}
use Rattle.oss_words.proofs.word_laws.word_leaves_keep.Goals as goal

pub returns : goal.returns
returns c = λ n net gave states states' infos views id v w e kept at l h d. leaves_kept n net gave states states' infos views id v w kept at e l h d
