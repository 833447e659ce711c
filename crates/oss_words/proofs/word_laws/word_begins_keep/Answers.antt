use Rattle.oss_words.proofs.PlaceLaw.{begun_kept}
use Rattle.oss_words.proofs.word_laws.word_begins_keep.Goals as goal

pub returns : goal.returns
returns c = begun_kept
