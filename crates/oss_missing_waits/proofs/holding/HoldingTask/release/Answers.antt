use Rattle.oss_model.specs.Context.{in_clauses}
use Rattle.oss_missing_waits.specs.Holding.{releases}
use Rattle.oss_missing_waits.proofs.ToldLemmas.{use_after}
use Rattle.oss_missing_waits.proofs.holding.HoldingTask.release.Goals as goal

pub returns : goal.returns
returns c = use_after c.args.layout.now (in_clauses c.args.clauses.now) c.args.line (releases c.args.clauses.now) c.args.self.now c.use_clauses.new.self c.give_up.new.self c.in_ok-use_clauses.ensures c.in_ok-give_up.ensures
