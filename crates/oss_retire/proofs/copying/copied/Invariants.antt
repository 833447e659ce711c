use Rattle.oss_retire.specs.Copies.{AreCopied, AreHolding}
use Rattle.oss_retire.proofs.copying.copied.Given as goal

abbrev pub invariant-loop-at : goal.invariant-loop-at
invariant-loop-at l = record {
  copied : AreCopied l.line.hangs l.line.stand l.numbers l.at l.copy.line.hangs l.copy.numbers.items l.copy.places.items l.copy.owners.items;
  holding : AreHolding l.copy.line.hangs;
}
