use Rattle.std.proofs.Common.{sym}
use Rattle.oss_missing_waits.specs.Kept.{touch_of}
use Rattle.oss_missing_waits.proofs.ToldLemmas.{touch_free, touch_lent}
use Rattle.oss_missing_waits.proofs.holding.HoldingTask.touch_lent.Goals as goal

pub returns-in_ok-tell_wait-in-Some : goal.returns-in_ok-tell_wait-in-Some
returns-in_ok-tell_wait-in-Some c =
    touch_lent c.args.clause (touch_of c.args.touch) c.args.cell c.args.line c.in-Some.child c.args.self.now c.tell_wait.new.self c.wait.new.self (sym c.in-Some.ensures) c.in_ok-tell_wait-in-Some.ensures c.wait.ensures

pub returns-in-None : goal.returns-in-None
returns-in-None c = touch_free c.args.clause (touch_of c.args.touch) c.args.cell c.args.line c.args.self.now (sym c.in-None.ensures)
