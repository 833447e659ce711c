use Rattle.std.proofs.Common.{refl}
use Rattle.oss_missing_waits.proofs.ToldLemmas.{waits_on_more}
use Rattle.oss_missing_waits.proofs.holding.HoldingTask.take_back.Goals as goal

pub returns : goal.returns
returns c = waits_on_more c.args.named.now c.args.self.now (record c.args.self.now { lent = c.wait_on.new.self }) c.in_ok-wait_on.ensures refl refl refl refl
