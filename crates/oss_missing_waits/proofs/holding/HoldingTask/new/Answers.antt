use Rattle.oss_missing_waits.proofs.ToldLemmas.{new_holding}
use Rattle.oss_missing_waits.proofs.holding.HoldingTask.new.Goals as goal

pub returns : goal.returns
returns c = new_holding (record { alloc = c.args.alloc; lent = c.new-lent.result; released = c.new-released.result; told = c.new-told.result; waits = c.new-waits.result; uses = c.new-uses.result }) c.new-lent.ensures c.new-released.ensures c.new-told.ensures c.new-waits.ensures.empty c.new-uses.ensures.empty
