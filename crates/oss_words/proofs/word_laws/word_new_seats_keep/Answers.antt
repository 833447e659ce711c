use Rattle.oss_words.proofs.PlaceLaw.{joined_kept}
use Rattle.oss_words.proofs.word_laws.word_new_seats_keep.Goals as goal

pub returns : goal.returns
returns c = λ n net gave states infos views w kept x y. joined_kept n net gave states infos views kept w x y
