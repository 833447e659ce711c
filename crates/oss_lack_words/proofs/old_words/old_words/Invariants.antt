use Rattle.std.proofs.Common.{◌≡◌, ◌++◌, [], drop}
use Rattle.oss_explanation.specs.Held.{once}
use Rattle.oss_pieces.specs.CellSets.{has}
use Rattle.oss_lack_words.specs.Told.{words_for}
use Rattle.oss_lack_words.proofs.old_words.old_words.Given as goal

-- what is left goes behind what is there
abbrev pub invariant-loop-clause : goal.invariant-loop-clause
invariant-loop-clause l = l.words.items ++ once l.words.items (words_for (has l.set) l.is_final (drop l.clause-index l.clauses)) ≡ once [] (words_for (has l.set) l.is_final l.clauses)
