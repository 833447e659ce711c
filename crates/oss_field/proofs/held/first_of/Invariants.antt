use Rattle.std.proofs.Common.{◌<◌, ◌≤◌, length}
use Rattle.oss_field.specs.Messages.{NoneBefore}
use Rattle.oss_field.proofs.held.first_of.Given as goal

abbrev pub invariant-loop-at : goal.invariant-loop-at
invariant-loop-at l = (l.best < length l.held) × (1 ≤ l.at) × NoneBefore l.held l.at l.best
