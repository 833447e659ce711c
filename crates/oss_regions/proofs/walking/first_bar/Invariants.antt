use Rattle.oss_regions.specs.Walks.{IsWalking}
use Rattle.oss_regions.proofs.walking.first_bar.Given as goal

abbrev pub invariant-back : goal.invariant-back
invariant-back l = IsWalking l.line.hangs l.line.stand l.mode l.at l.here

abbrev pub decreases-back : goal.decreases-back
decreases-back l = l.here
