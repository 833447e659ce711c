use Rattle.std.proofs.Common.{◌≡◌, []}
use Rattle.oss_filing.specs.Owned.{HasLinked, IsAlone}
use Rattle.oss_filing.proofs.filing.link_all.Given as goal

-- the rows before this one are linked
abbrev pub invariant-loop-at : goal.invariant-loop-at
invariant-loop-at l = record {
  alone : IsAlone l.net.known l.net.size;
  empty : l.net.known.view.held ≡ [];
  linked : HasLinked l.net.known l.rows l.at;
  gives : l.net.known.view.gives ≡ [];
  size : l.net.size ≡ l.fn.net.size;
}
