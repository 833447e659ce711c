use Rattle.oss_words.proofs.KeptLaw.{deliver_kept}
use Rattle.oss_words.proofs.word_laws.word_deliveries_keep.Goals as goal

pub returns : goal.returns
returns c = λ n net gave states states' infos views id v w m rest kept at d. deliver_kept n net gave states states' infos views id v w kept at m rest d
