use Rattle.oss_thread_groups.specs.Groups.{IsJoined}
use Rattle.oss_thread_groups.proofs.groups.joined.Given as goal

-- the answers of the groups so far
abbrev pub invariant-loop-part : goal.invariant-loop-part
invariant-loop-part g l = IsJoined l.yielded l.all.items
