use Rattle.std.proofs.Common.{◌≡◌, drop}
use Rattle.oss_labels.specs.Labels.{label_in}
use Rattle.oss_labels.proofs.clauses.text_of.Given as goal

-- the clauses so far give no label
abbrev pub invariant-loop-clause : goal.invariant-loop-clause
invariant-loop-clause l = label_in (drop l.clause-index l.clauses) ≡ label_in l.clauses
