use Rattle.std.proofs.Common.{◌≡◌, ◌++◌, [], drop}
use Rattle.oss_explanation.specs.Held.{clause_words, once}
use Rattle.oss_explain.proofs.directives.words_at.Given as goal

-- what is left goes behind what is there
abbrev pub invariant-loop-clause : goal.invariant-loop-clause
invariant-loop-clause l = l.words.items ++ once l.words.items (clause_words l.is_final (drop l.clause-index l.clauses) l.cell) ≡ once [] (clause_words l.is_final l.clauses l.cell)
