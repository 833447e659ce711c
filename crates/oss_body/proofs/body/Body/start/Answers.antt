use Rattle.oss_body.proofs.Results.{if_ok}
use Rattle.oss_body.proofs.Advancing.{starts_as}
use Rattle.oss_machine.specs.Asks.{meant_order}
use Rattle.oss_body.proofs.body.Body.start.Goals as goal

pub returns : goal.returns
returns c = if_ok c.begin.result (λ body begun path e.
    begun (record { order = meant_order c.args.order.now; context = c.args.context; path = path })
    (record { context = c.in_ok-own.ensures.context; wait = c.in_ok-own.ensures.wait; priority = c.in_ok-own.ensures.priority; slots = c.in_ok-own.ensures.slots })
    (starts_as c.args.code.now c.args.order.now c.args.context c.args.point path e c.new-2.result c.new-2.ensures c.in_ok-top.top c.in_ok-top.ensures)) c.begin.ensures
