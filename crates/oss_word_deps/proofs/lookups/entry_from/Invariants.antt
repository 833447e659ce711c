use Rattle.std.proofs.Common.{◌≡◌, ◌<◌, ◌≤◌, ◌-◌, ℕ, Some}
use Rattle.oss_word_deps.specs.declared.entry.Entry.{Entry as Row}
use Rattle.oss_word_deps.specs.Ledger.{entry_of}
use Rattle.oss_word_deps.proofs.lookups.entry_from.Given as goal

-- what is sought lies between the two
abbrev pub invariant-halves : goal.invariant-halves
invariant-halves l = record {
  from : l.fn.job.first ≤ l.lo;
  order : l.lo ≤ l.hi;
  upto : l.hi ≤ l.fn.job.end;
  before : (v : ℕ) (e : Row) → l.fn.job.first ≤ v → v < l.lo → entry_of l.entries v ≡ Some e → e.cell < l.cell;
  behind : (v : ℕ) (e : Row) → l.hi ≤ v → v < l.fn.job.end → entry_of l.entries v ≡ Some e → l.cell ≤ e.cell;
}

abbrev pub decreases-halves : goal.decreases-halves
decreases-halves l = l.hi - l.lo
