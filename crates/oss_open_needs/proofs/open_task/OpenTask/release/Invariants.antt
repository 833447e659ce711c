use Rattle.std.proofs.Common.{take}
use Rattle.oss_open_needs.specs.Opening.{OpenWith, releases}
use Rattle.oss_open_needs.proofs.open_task.OpenTask.release.Given as goal

-- the clauses so far are released
abbrev pub invariant-loop-clause : goal.invariant-loop-clause
invariant-loop-clause l = OpenWith (releases (take l.clause-index l.clauses)) l.fn.self l.self
