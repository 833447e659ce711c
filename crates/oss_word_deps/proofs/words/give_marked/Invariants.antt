use Rattle.std.proofs.Common.{◌≡◌, [], length}
use Rattle.oss_word_deps.specs.Known.{HasGiven, HasLinked, IsAlone}
use Rattle.oss_word_deps.proofs.words.give_marked.Given as goal

-- of the entries before this one those that are marked are given up
abbrev pub invariant-loop-at : goal.invariant-loop-at
invariant-loop-at l = record {
  alone : IsAlone l.net.known l.net.size;
  empty : l.net.known.view.held ≡ [];
  linked : HasLinked l.net.known l.book.entries.items (length l.book.entries.items);
  given : HasGiven l.net.known l.book.marks.items l.at;
  size : l.net.size ≡ l.fn.net.size;
}
