use Rattle.std.proofs.Common.{◌≡◌, ◌++◌, drop}
use Rattle.oss_labels.specs.Creations.{creations}
use Rattle.oss_labels.proofs.creations.creations.Given as goal

-- the entries so far and those of the instructions left are all entries
abbrev pub invariant-loop-at : goal.invariant-loop-at
invariant-loop-at l = l.entries.items ++ creations l.at (drop l.at l.code.instrs) ≡ creations 0 l.code.instrs
