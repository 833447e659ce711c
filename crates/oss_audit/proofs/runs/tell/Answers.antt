use Rattle.std.proofs.Common.{arith, refl}
use Rattle.oss_audit.proofs.runs.tell.Goals as goal

pub returns-then-lo-hi : goal.returns-then-lo-hi
returns-then-lo-hi c = record { none = λ h. refl; some = λ h. absurd (omega arith) }

pub returns : goal.returns
returns c = record { none = λ h. absurd (omega arith); some = λ h. (_, c.in_ok-push.ensures.items, record { point_is = c.in_ok-point.ensures; lo_is = refl; hi_is = refl }) }
