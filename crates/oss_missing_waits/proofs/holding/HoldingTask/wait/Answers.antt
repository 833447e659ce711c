use Rattle.oss_missing_waits.proofs.ToldLemmas.{waits_more}
use Rattle.std.proofs.Common.{refl}
use Rattle.oss_missing_waits.proofs.holding.HoldingTask.wait.Goals as goal

pub returns : goal.returns
returns c = waits_more c.args.self.now (record c.args.self.now { lent = c.wait.new.self }) c.wait.ensures refl refl refl refl
