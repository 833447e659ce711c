use Rattle.std.proofs.Common.{◌≡◌, [], length}
use Rattle.oss_filing.specs.Owned.{HasGiven, HasLinked, IsAlone}
use Rattle.oss_filing.proofs.filing.give_all.Given as goal

-- of the rows before this one those that are given up are given up
abbrev pub invariant-loop-at : goal.invariant-loop-at
invariant-loop-at l = record {
  alone : IsAlone l.net.known l.net.size;
  empty : l.net.known.view.held ≡ [];
  linked : HasLinked l.net.known l.rows (length l.rows);
  given : HasGiven l.net.known l.rows l.at;
  size : l.net.size ≡ l.fn.net.size;
}
