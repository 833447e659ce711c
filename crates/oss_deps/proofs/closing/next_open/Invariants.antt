use Rattle.std.proofs.Common.{get_or}
use Rattle.oss_deps.specs.Places.{blank}
use Rattle.oss_deps.proofs.WalkLemmas.{ahead_of}
use Rattle.oss_deps.proofs.CloseLemmas.{IsNextLeft}
use Rattle.oss_deps.proofs.closing.next_open.Given as goal

-- those that were passed are done
abbrev pub invariant-siblings : goal.invariant-siblings
invariant-siblings l = IsNextLeft l.frames l.marks (get_or l.frames l.at blank).up l.at l.next

abbrev pub decreases-siblings : goal.decreases-siblings
decreases-siblings l = ahead_of l.frames l.next
