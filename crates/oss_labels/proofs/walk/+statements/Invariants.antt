use Rattle.std.proofs.Common.{◌≡◌, ◌+◌, ◌*◌, ◌++◌, drop}
use Rattle.oss_labels.specs.Labels.{body_labels}
use Rattle.oss_labels.proofs.Weights.{part_weight, weight, weights}
use Rattle.oss_labels.proofs.walk.+statements.Given as goal

-- the labels so far and those of the statements left are all labels
abbrev pub invariant-statements-loop-one : goal.invariant-statements-loop-one
invariant-statements-loop-one l = l.labels.items ++ (body_labels (drop l.one-index l.list)).in_code ≡ l.fn.labels.items ++ (body_labels l.list).in_code

-- each function has a smaller part of the statement than its caller, or stands below it
abbrev pub decreases-statement : goal.decreases-statement
decreases-statement l = 8 * weight l.one.now

abbrev pub decreases-statements : goal.decreases-statements
decreases-statements l = 8 * weights l.list.now + 1

abbrev pub decreases-part : goal.decreases-part
decreases-part l = 8 * part_weight l.one.now + 1
