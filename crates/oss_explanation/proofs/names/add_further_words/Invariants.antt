use Rattle.std.proofs.Common.{◌≡◌, ◌++◌, drop}
use Rattle.oss_explanation.specs.Sentences.{further_words}
use Rattle.oss_explanation.proofs.names.add_further_words.Given as goal

-- what is left goes behind what is written
abbrev pub invariant-loop-word : goal.invariant-loop-word
invariant-loop-word l = l.text.items ++ further_words (drop l.word-index l.words) ≡ l.initial.text.items ++ further_words l.words
