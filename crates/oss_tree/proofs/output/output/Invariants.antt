use Rattle.std.proofs.Common.{◌≡◌, map, take}
use Rattle.oss_tree.proofs.output.output.Given as goal

abbrev pub invariant-loop-print : goal.invariant-loop-print
invariant-loop-print l = map (λ print. print.now) l.shown.items ≡ take l.print-index l.prints
