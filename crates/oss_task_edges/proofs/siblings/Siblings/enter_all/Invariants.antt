use Rattle.std.proofs.Common.{take}
use Rattle.oss_task_edges.proofs.EnterLemmas.{EnteredWith}
use Rattle.oss_task_edges.proofs.siblings.Siblings.enter_all.Given as goal

-- the child is entered with the accesses so far
abbrev pub invariant-loop-access : goal.invariant-loop-access
invariant-loop-access l = EnteredWith l.number l.accesses (take l.access-index l.accesses) l.fn.self l.self l.parts.items
