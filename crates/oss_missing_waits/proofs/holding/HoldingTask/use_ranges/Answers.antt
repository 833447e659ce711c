use Rattle.oss_lent_cells.specs.Kept.{in_ranges}
use Rattle.oss_missing_waits.proofs.holding.HoldingTask.use_ranges.Goals as goal

pub returns : goal.returns
returns c = c.in_ok-tell_use.ensures (in_ranges c.args.named.now) c.in_ok-used.ensures
