use Rattle.std.proofs.Common.{refl}
use Rattle.oss_missing.proofs.task.clauses_missing.Goals as goal

pub returns-in-Ok-wants_of : goal.returns-in-Ok-wants_of
returns-in-Ok-wants_of c = record { task = c.in_ok-point.ensures; line = refl; lacks = c.in-Ok.ensures; wants = c.in-Ok-wants_of.ensures }
