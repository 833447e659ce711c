use Rattle.std.proofs.Common.{◌≡◌, ◌++◌}
use Rattle.oss_core.proofs.putting.print_all.Given as goal

-- what was printed, and the prints so far
abbrev pub invariant-loop-print : goal.invariant-loop-print
invariant-loop-print l = record {
  tasks : l.tree.tasks ≡ l.initial.tree.tasks;
  prints : l.tree.prints ≡ l.initial.tree.prints ++ l.yielded;
}
