use Rattle.oss_words.proofs.PlaceLaw.{fills_kept}
use Rattle.oss_words.proofs.word_laws.word_fills_keep.Goals as goal

pub returns : goal.returns
returns c = fills_kept
