use Rattle.std.proofs.Common.{ℕ, ◌-◌, ◌≤◌, ◌<◌}
use Rattle.oss_deps.specs.Opens.{AreChildrenDone}
use Rattle.oss_deps.specs.Kept.{given_at}
use Rattle.oss_deps.specs.Columns.{IsNumberOf}
use Rattle.oss_deps.proofs.plain.PlainDeps.undone_over.Given as goal

-- all is done at each cell so far
abbrev pub invariant-stretches : goal.invariant-stretches
invariant-stretches l = record {
  from : l.range.lo ≤ l.cell;
  passed : (t : ℕ) → IsNumberOf l.self.opens l.number t → (c : ℕ) → l.range.lo ≤ c → c < l.cell → AreChildrenDone l.self.opens (given_at l.self.pieces l.self.columns) t c;
}

abbrev pub decreases-stretches : goal.decreases-stretches
decreases-stretches l = l.range.hi - l.cell
