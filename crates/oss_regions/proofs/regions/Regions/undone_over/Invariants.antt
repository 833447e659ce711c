use Rattle.std.proofs.Common.{ℕ, ◌-◌, ◌≤◌, ◌<◌}
use Rattle.oss_deps.specs.Opens.{AreChildrenDone}
use Rattle.oss_deps.specs.Columns.{IsNumberOf}
use Rattle.oss_regions.specs.Kept.{given_at}
use Rattle.oss_regions.proofs.regions.Regions.undone_over.Given as goal

-- all is done at each cell so far
abbrev pub invariant-parts : goal.invariant-parts
invariant-parts l = record {
  from : l.range.lo ≤ l.cell;
  passed : (t : ℕ) → IsNumberOf l.self.opens l.number t → (c : ℕ) → l.range.lo ≤ c → c < l.cell → AreChildrenDone l.self.opens (given_at l.self.opens l.self.cells) t c;
}

abbrev pub decreases-parts : goal.decreases-parts
decreases-parts l = l.range.hi - l.cell
