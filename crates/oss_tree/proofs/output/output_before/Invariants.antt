use Rattle.std.proofs.Common.{◌≡◌, map, take}
use Rattle.oss_tree.specs.Output.{up_to}
use Rattle.oss_tree.proofs.output.output_before.Given as goal

abbrev pub invariant-loop-print : goal.invariant-loop-print
invariant-loop-print l = map (λ print. print.now) l.shown.items ≡ up_to l.last (take l.print-index l.prints)
