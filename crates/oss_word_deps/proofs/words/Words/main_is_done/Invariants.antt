use Rattle.std.proofs.Common.{◌≡◌, ◌<◌, ◌≤◌, ℕ}
use Rattle.oss_deps.specs.Opens.{AreChildrenDone}
use Rattle.oss_deps.specs.Seen.{Seen}
use Rattle.oss_word_deps.specs.Booked.{IsBooked}
use Rattle.oss_word_deps.proofs.words.Words.main_is_done.Given as goal

-- the cells so far are done
abbrev pub invariant-loop-cell : goal.invariant-loop-cell
invariant-loop-cell l = record {
  done : (s : Seen) → IsBooked s l.fn.self.ledger → (c : ℕ) → l.fn.range.lo ≤ c → c < l.cell → AreChildrenDone s.opens s.given 0 c;
  same : l.self ≡ l.fn.self;
}
