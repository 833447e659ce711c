use Rattle.std.proofs.Common.{◌≤◌, Some}
use Rattle.oss_core.specs.Putting.{IsRunPut}
use Rattle.oss_core.proofs.putting.fill.Given as goal

-- the cells so far have the number
abbrev pub invariant-loop-cell : goal.invariant-loop-cell
invariant-loop-cell l = record {
  put : IsRunPut l.fn.from l.cell (Some l.value) l.initial.cells l.cells;
  from : l.fn.from ≤ l.cell;
}
