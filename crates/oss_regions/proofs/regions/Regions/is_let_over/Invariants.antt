use Rattle.std.proofs.Common.{◌-◌, ◌≤◌}
use Rattle.oss_deps.specs.declared.opened.Open.{Open}
use Rattle.oss_deps.specs.Columns.{IsNumber}
use Rattle.oss_regions.specs.Kept.{AreSatisfiedTo}
use Rattle.oss_regions.proofs.regions.Regions.is_let_over.Given as goal

-- what the task waits for has come at each cell so far
abbrev pub invariant-parts : goal.invariant-parts
invariant-parts l = record {
  from : l.range.lo ≤ l.cell;
  passed : (o : Open) → IsNumber l.self.opens l.number o → AreSatisfiedTo l.self l.mode o l.range.lo l.range.hi l.cell;
}

abbrev pub decreases-parts : goal.decreases-parts
decreases-parts l = l.range.hi - l.cell
