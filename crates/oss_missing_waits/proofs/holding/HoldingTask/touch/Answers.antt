use Rattle.std.proofs.Common.{◌==◌}
use Rattle.oss_missing_waits.specs.Kept.{touch_of, touched_under}
use Rattle.oss_missing_waits.proofs.ToldLemmas.{use_after}
use Rattle.oss_missing_waits.proofs.holding.HoldingTask.touch.Goals as goal

pub returns : goal.returns
returns c =
    use_after c.args.layout.now (λ d. c.args.cell == d) c.args.line (touched_under c.args.clause (touch_of c.args.touch) c.args.cell c.args.line) c.args.self.now c.use_cell.new.self c.touch_lent.new.self c.in_ok-use_cell.ensures c.in_ok-touch_lent.ensures
