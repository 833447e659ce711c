use Rattle.std.proofs.Common.{◌-◌, ◌≤◌}
use Rattle.oss_deps.specs.declared.opened.Open.{Open}
use Rattle.oss_deps.specs.Columns.{IsNumber}
use Rattle.oss_deps.specs.Met.{AreClear}
use Rattle.oss_deps.proofs.plain.PlainDeps.bar_over.Given as goal

-- what is wanted has come at each cell so far
abbrev pub invariant-stretches : goal.invariant-stretches
invariant-stretches l = record {
  from : l.range.lo ≤ l.cell;
  passed : (o : Open) → IsNumber l.self.opens l.number o → AreClear l.self l.want o l.range.lo l.cell;
}

abbrev pub decreases-stretches : goal.decreases-stretches
decreases-stretches l = l.range.hi - l.cell
