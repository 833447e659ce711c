use Rattle.std.proofs.Common.{◌≡◌, ◌<◌, ◌≤◌, ℕ, Some}
use Rattle.oss_deps.specs.Opens.{AreChildrenDone}
use Rattle.oss_deps.specs.Seen.{Seen}
use Rattle.oss_word_deps.specs.declared.entry.Entry.{Entry}
use Rattle.oss_word_deps.specs.Booked.{IsBooked}
use Rattle.oss_word_deps.specs.Ledger.{entry_of}
use Rattle.oss_word_deps.proofs.words.Words.task_is_done.Given as goal

-- the children at the entries so far are done
abbrev pub invariant-loop-entry : goal.invariant-loop-entry
invariant-loop-entry l = record {
  done : (s : Seen) → IsBooked s l.fn.self.ledger → (v : ℕ) (e : Entry) → l.from ≤ v → v < l.entry → entry_of l.fn.self.ledger.entries v ≡ Some e → AreChildrenDone s.opens s.given l.fn.job.task e.cell;
  same : l.self ≡ l.fn.self;
  from : l.from ≤ l.entry;
}
