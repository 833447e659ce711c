use Rattle.std.proofs.Common.{take}
use Rattle.oss_deps.specs.Adding.{AreAllGrown}
use Rattle.oss_deps.proofs.opening.add_all.Given as goal

-- the accesses so far are added
abbrev pub invariant-loop-access : goal.invariant-loop-access
invariant-loop-access l = AreAllGrown l.number l.task l.parent (take l.access-index l.accesses) l.fn.columns.items l.columns.items
