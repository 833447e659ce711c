use Rattle.std.proofs.Common.{◌≡◌, ◌≤◌, ◌+◌}
use Rattle.oss_creations.specs.Accesses.{waits_below}
use Rattle.oss_creations.proofs.counting.count_in.Given as goal

-- those below the cell are counted
abbrev pub invariant-loop-cell : goal.invariant-loop-cell
invariant-loop-cell l =
    (l.count + waits_below l.job l.access.mode l.access.strong l.access.range.lo ≡ waits_below l.job l.access.mode l.access.strong l.cell)
    × (l.count + l.access.range.lo ≤ l.cell)
