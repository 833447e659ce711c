use Rattle.std.proofs.Common.{◌≡◌, []}
use Rattle.oss_word_deps.specs.Known.{HasLinked, IsAlone}
use Rattle.oss_word_deps.proofs.words.link_from.Given as goal

-- the entries before this one are linked
abbrev pub invariant-loop-at : goal.invariant-loop-at
invariant-loop-at l = record {
  alone : IsAlone l.net.known l.net.size;
  empty : l.net.known.view.held ≡ [];
  linked : HasLinked l.net.known l.book.entries.items l.at;
  gives : l.net.known.view.gives ≡ l.fn.net.known.view.gives;
  size : l.net.size ≡ l.fn.net.size;
}
