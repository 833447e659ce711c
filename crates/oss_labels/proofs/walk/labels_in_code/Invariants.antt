use Rattle.std.proofs.Common.{◌≡◌, ◌++◌, drop}
use Rattle.oss_meaning.specs.Names.{functions_of}
use Rattle.oss_labels.specs.Creations.{labels_in_code}
use Rattle.oss_labels.proofs.walk.labels_in_code.Given as goal

-- the labels so far and those of the items left are all labels
abbrev pub invariant-loop-item : goal.invariant-loop-item
invariant-loop-item l = l.labels.items ++ labels_in_code (functions_of (drop l.item-index l.items)) ≡ labels_in_code (functions_of l.items)
