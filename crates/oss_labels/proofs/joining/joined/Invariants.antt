use Rattle.std.proofs.Common.{◌≡◌, ◌++◌, drop}
use Rattle.oss_labels.specs.Creations.{joined}
use Rattle.oss_labels.proofs.joining.joined.Given as goal

-- the list so far and what is left of entries and labels are the whole list
abbrev pub invariant-loop-label : goal.invariant-loop-label
invariant-loop-label l = l.list.items ++ joined l.left (drop l.label-index l.labels) ≡ joined l.entries l.labels
