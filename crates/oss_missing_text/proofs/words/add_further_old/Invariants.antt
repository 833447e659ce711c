use Rattle.std.proofs.Common.{◌≡◌, ◌++◌, drop}
use Rattle.oss_missing_text.specs.Clauses.{further_old}
use Rattle.oss_missing_text.proofs.words.add_further_old.Given as goal

-- what is left goes behind what is written
abbrev pub invariant-loop-word : goal.invariant-loop-word
invariant-loop-word l = l.text.items ++ further_old (drop l.word-index l.words) ≡ l.initial.text.items ++ further_old l.words
