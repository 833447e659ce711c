use Rattle.oss_words.proofs.PlaceLaw.{looked_kept}
use Rattle.oss_words.proofs.word_laws.word_looks_keep.Goals as goal

pub returns : goal.returns
returns c = λ n net gave states infos views id v w kept at x y. looked_kept n net gave states infos views kept id v w at x y
