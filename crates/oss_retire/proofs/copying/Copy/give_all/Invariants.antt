use Rattle.std.proofs.Common.{length}
use Rattle.oss_retire.specs.Copies.{AreCopied, AreGivenUp}
use Rattle.oss_retire.proofs.copying.Copy.give_all.Given as goal

abbrev pub invariant-loop-at : goal.invariant-loop-at
invariant-loop-at l = record {
  copied : AreCopied l.line.hangs l.line.stand l.numbers (length l.line.hangs) l.self.line.hangs l.self.numbers.items l.self.places.items l.self.owners.items;
  given : AreGivenUp l.line.hangs l.line.stand (length l.line.hangs) l.at l.self.line.hangs l.self.places.items;
}
