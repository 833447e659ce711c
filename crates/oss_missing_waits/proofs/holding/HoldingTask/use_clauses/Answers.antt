use Rattle.oss_model.specs.Context.{in_clauses}
use Rattle.oss_missing_waits.proofs.holding.HoldingTask.use_clauses.Goals as goal

pub returns : goal.returns
returns c = c.in_ok-tell_use.ensures (in_clauses c.args.clauses.now) c.in_ok-used.ensures
