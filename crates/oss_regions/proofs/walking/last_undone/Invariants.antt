use Rattle.oss_regions.specs.Walks.{IsWalkingIn}
use Rattle.oss_regions.proofs.walking.last_undone.Given as goal

abbrev pub invariant-back : goal.invariant-back
invariant-back l = IsWalkingIn l.line.hangs l.line.stand l.above l.here

abbrev pub decreases-back : goal.decreases-back
decreases-back l = l.here
