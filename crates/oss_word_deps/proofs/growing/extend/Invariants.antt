use Rattle.std.proofs.Common.{◌≡◌, ◌+◌, length, take}
use Rattle.oss_deps.specs.declared.opened.Open.{Open}
use Rattle.oss_deps.specs.Seen.{Seen}
use Rattle.oss_word_deps.specs.Booked.{cell_count}
use Rattle.oss_word_deps.specs.Growing.{HasSameRoom, MayExtend}
use Rattle.oss_word_deps.specs.Ledger.{ledger_of}
use Rattle.oss_word_deps.proofs.ExtendLemmas.{IsWriting}
use Rattle.oss_word_deps.proofs.growing.extend.Given as goal

-- the accesses so far are written
abbrev pub invariant-loop-access : goal.invariant-loop-access
invariant-loop-access l = record {
  written : (s : Seen) (o : Open) → MayExtend s o l.creator (ledger_of l.fn.book) → o.task ≡ l.task → o.accesses ≡ l.accesses → IsWriting s o l.depth l.first l.access-index l.accesses (ledger_of l.fn.book) (ledger_of l.book);
  count : length l.book.entries.items ≡ length l.fn.book.entries.items + cell_count (take l.access-index l.accesses);
  same : HasSameRoom l.fn.book l.book;
}
