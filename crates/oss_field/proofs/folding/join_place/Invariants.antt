use Rattle.oss_field.specs.Folding.{FindsJoin}
use Rattle.oss_field.proofs.folding.join_place.Given as goal

abbrev pub invariant-loop-at : goal.invariant-loop-at
invariant-loop-at l = FindsJoin l.held l.entry l.at l.place
