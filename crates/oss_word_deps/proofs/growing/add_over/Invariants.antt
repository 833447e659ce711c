use Rattle.std.proofs.Common.{◌≡◌, ◌+◌, ◌≤◌, length}
use Rattle.oss_deps.specs.declared.opened.Open.{Open}
use Rattle.oss_deps.specs.Seen.{Seen}
use Rattle.oss_word_deps.specs.Growing.{HasAdded, HasSameRoom, IsGrowing, MayAdd}
use Rattle.oss_word_deps.specs.Ledger.{ledger_of}
use Rattle.oss_word_deps.proofs.growing.add_over.Given as goal

-- the cells so far have their entries
abbrev pub invariant-loop-cell : goal.invariant-loop-cell
invariant-loop-cell l = record {
  grown : (s : Seen) (o : Open) → MayAdd s o l.depth l.first l.access.range.lo l.creator l.access l.access.range.lo (ledger_of l.fn.book) → o.task ≡ l.task
      → IsGrowing s o l.depth l.first l.cell (ledger_of l.book) × HasAdded l.first l.access l.cell (ledger_of l.fn.book) (ledger_of l.book);
  count : length l.book.entries.items + l.access.range.lo ≡ length l.fn.book.entries.items + l.cell;
  same : HasSameRoom l.fn.book l.book;
  from : l.access.range.lo ≤ l.cell;
  upto : l.cell ≤ l.access.range.hi;
}
