use Rattle.oss_words.proofs.BoundLemmas.{room_bound}
use Rattle.oss_words.proofs.laws.room_is_bounded.Goals as goal

pub returns : goal.returns
returns c = λ n draw net gave states infos views id v rule at. room_bound n net states infos views rule.kept.flow id v at rule.kept.modes.shallow
