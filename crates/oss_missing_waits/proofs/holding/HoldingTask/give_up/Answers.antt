use Rattle.std.proofs.Common.{refl}
use Rattle.oss_missing_waits.proofs.ToldLemmas.{releases_more}
use Rattle.oss_missing_waits.proofs.holding.HoldingTask.give_up.Goals as goal

pub returns : goal.returns
returns c = releases_more c.args.clauses.now c.args.self.now (record c.args.self.now { released = c.release_all.new.released }) c.in_ok-release_all.ensures refl refl refl refl
