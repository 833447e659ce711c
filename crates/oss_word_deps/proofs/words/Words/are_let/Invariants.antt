use Rattle.std.proofs.Common.{◌≡◌, ◌<◌, ◌≤◌, ℕ, Some}
use Rattle.oss_deps.specs.Seen.{Seen}
use Rattle.oss_word_deps.specs.declared.entry.Entry.{Entry}
use Rattle.oss_word_deps.specs.Asked.{IsLet}
use Rattle.oss_word_deps.specs.Booked.{IsBooked}
use Rattle.oss_word_deps.specs.Ledger.{entry_of}
use Rattle.oss_word_deps.proofs.words.Words.are_let.Given as goal

-- the entries so far are let
abbrev pub invariant-loop-entry : goal.invariant-loop-entry
invariant-loop-entry l = record {
  lets : (s : Seen) → IsBooked s l.fn.self.ledger → (v : ℕ) (e : Entry) → l.fn.job.first ≤ v → v < l.entry → entry_of l.fn.self.ledger.entries v ≡ Some e → IsLet s.opens s.given e;
  same : l.self ≡ l.fn.self;
  from : l.fn.job.first ≤ l.entry;
}
