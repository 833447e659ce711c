use Rattle.std.proofs.Common.{◌≡◌, map, take}
use Rattle.oss_tree.specs.Output.{texts}
use Rattle.oss_tree.proofs.output.in_order.Given as goal

abbrev pub invariant-loop-print : goal.invariant-loop-print
invariant-loop-print l = l.texts ≡ texts (map (λ print. print.now) (take l.print-index l.print-items))
