use Rattle.std.specs.Prelude.{is_some}
use Rattle.oss_ranges.specs.Cells.{value_at}
use Rattle.oss_missing_waits.proofs.holding.HoldingTask.use_map.Goals as goal

pub returns : goal.returns
returns c = c.in_ok-tell_use.ensures (λ d. is_some (value_at c.args.clauses.now.pieces d)) c.in_ok-used.ensures
