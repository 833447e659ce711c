use Rattle.std.proofs.Common.{◌≡◌, ◌+◌, drop}
use Rattle.oss_creations.specs.Accesses.{waits_of}
use Rattle.oss_creations.proofs.counting.count_of.Given as goal

-- what is counted and what is left are all
abbrev pub invariant-loop-access : goal.invariant-loop-access
invariant-loop-access l = l.count + waits_of l.job (drop l.access-index l.accesses) ≡ 1 + waits_of l.job l.accesses
