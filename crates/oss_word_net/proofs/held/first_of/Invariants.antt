use Rattle.std.proofs.Common.{◌<◌, ◌≤◌, length}
use Rattle.oss_word_net.specs.Standing.{NoneBefore}
use Rattle.oss_word_net.proofs.held.first_of.Given as goal

abbrev pub invariant-loop-at : goal.invariant-loop-at
invariant-loop-at l = (l.best < length l.held) × (1 ≤ l.at) × NoneBefore l.held l.at l.best
