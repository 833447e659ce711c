use Rattle.std.proofs.Common.{◌≡◌, ◌+◌, drop}
use Rattle.oss_jobs.specs.Entries.{cells_in}
use Rattle.oss_jobs.proofs.entries.sum.Given as goal

-- what is counted and what is left are all cells
abbrev pub invariant-loop-access : goal.invariant-loop-access
invariant-loop-access l = l.cells + cells_in (drop l.access-index l.accesses) ≡ cells_in l.accesses
