use Rattle.std.proofs.Common.{◌<◌, ◌≤◌, ◌-◌}
use Rattle.oss_word_deps.proofs.words.doubled.Given as goal

abbrev pub invariant-loop-found : goal.invariant-loop-found
invariant-loop-found l = record {
  some : 0 < l.found;
  least : l.fn.size ≤ l.found;
  most : l.found ≤ l.most;
}

abbrev pub decreases-loop-found : goal.decreases-loop-found
decreases-loop-found l = l.most - l.found
