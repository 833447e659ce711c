use Rattle.oss_free_run.proofs.SeenLemmas.{child_from}
use Rattle.oss_free_run.proofs.task.FreeTask.child.Goals as goal

pub returns : goal.returns
returns c = λ o e.
    child_from c.args.code.now c.args.depth _ c.ask.result.now c.in-Create.order c.get-order.result.now o c.args.self.now.last c.either-last.result c.in_ok-child-in-Create.child c.settle.new.self
    c.ask.ensures c.in-Create.is c.get-order.ensures e c.either-last.ensures c.in_ok-child-in-Create.ensures c.in_ok-settle-in-Create.ensures
