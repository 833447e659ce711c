use Rattle.std.proofs.Common.{length}
use Rattle.oss_sched.proofs.Walk.{IsLeft}
use Rattle.oss_sched.proofs.reader.read_lines.Given as goal

abbrev pub invariant-lines : goal.invariant-lines
invariant-lines l = IsLeft l.fn.text l.moves l.number l.rest

abbrev pub decreases-lines : goal.decreases-lines
decreases-lines l = length l.rest
