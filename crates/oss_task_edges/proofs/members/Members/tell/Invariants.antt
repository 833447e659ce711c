use Rattle.std.proofs.Common.{◌≡◌, ◌++◌, List, map}
use Rattle.oss_task_edges.specs.declared.members.Member.{Member}
use Rattle.oss_task_edges.specs.Members.{IsChain, height, part_of}
use Rattle.oss_task_edges.proofs.members.Members.tell.Given as goal

-- those that are left stand from here on
abbrev pub invariant-group : goal.invariant-group
invariant-group l = (group : List Member) → IsChain l.self l.fn.newest group
    → (rest : List Member) × (IsChain l.self l.place rest × (l.parts.items ++ map (part_of l.range l.strong) rest ≡ l.fn.parts.items ++ map (part_of l.range l.strong) group))

abbrev pub decreases-group : goal.decreases-group
decreases-group l = height l.place
