use Rattle.std.proofs.Common.{◌≤◌}
use Rattle.oss_core.specs.Stops.{AreUnfinishedTo}
use Rattle.oss_core.proofs.answering.unfinished_in.Given as goal

-- so many of the tasks so far are not complete
abbrev pub invariant-loop-at : goal.invariant-loop-at
invariant-loop-at l = record { few : l.unfinished ≤ l.at; told : AreUnfinishedTo l.tree.tasks l.at l.unfinished }
