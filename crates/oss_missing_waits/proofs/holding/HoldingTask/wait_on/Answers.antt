use Rattle.oss_lent_cells.specs.Kept.{in_ranges}
use Rattle.oss_missing_waits.specs.Kept.{waits_for}
use Rattle.oss_missing_waits.proofs.ToldLemmas.{use_after}
use Rattle.oss_missing_waits.proofs.holding.HoldingTask.wait_on.Goals as goal

pub returns : goal.returns
returns c = use_after c.args.layout.now (in_ranges c.args.named.now) c.args.line (waits_for c.args.named.now) c.args.self.now c.use_ranges.new.self c.take_back.new.self c.in_ok-use_ranges.ensures c.in_ok-take_back.ensures
