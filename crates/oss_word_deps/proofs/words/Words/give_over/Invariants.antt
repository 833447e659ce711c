use Rattle.std.proofs.Common.{◌≤◌}
use Rattle.oss_deps.specs.Seen.{Seen}
use Rattle.oss_word_deps.specs.Shelved.{HasSameRows, IsAsLarge, MayGiveOver}
use Rattle.oss_word_deps.specs.Sound.{IsSound}
use Rattle.oss_word_deps.proofs.GiveLemmas.{IsFreeing}
use Rattle.oss_word_deps.proofs.words.Words.give_over.Given as goal

-- the entries so far are given up
abbrev pub invariant-loop-entry : goal.invariant-loop-entry
invariant-loop-entry l = record {
  rows : HasSameRows l.fn.self.ledger l.self.ledger;
  same : IsAsLarge l.fn.self l.self;
  sound : IsSound l.self.ledger;
  from : l.from ≤ l.entry;
  freeing : (s : Seen) → MayGiveOver s l.fn.job l.fn.range l.fn.self.ledger → IsFreeing s l.fn.job.task l.from l.entry l.self.ledger;
}
