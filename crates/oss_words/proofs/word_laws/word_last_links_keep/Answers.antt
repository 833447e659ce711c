use Rattle.oss_words.proofs.KeptLaw.{rises_kept}
use Rattle.oss_words.proofs.word_laws.word_last_links_keep.Goals as goal

pub returns : goal.returns
returns c = λ n net gave states states' infos views id v w e kept at d. rises_kept n net gave states states' infos views id v w kept at e d
