use Rattle.oss_words.proofs.GrowLaw.{links_kept}
use Rattle.oss_words.proofs.word_laws.word_links_keep.Goals as goal

pub returns : goal.returns
returns c = λ n net gave states states' infos views id v w net' o e kept at d. links_kept n net net' gave states states' infos views id v w o e kept at d
