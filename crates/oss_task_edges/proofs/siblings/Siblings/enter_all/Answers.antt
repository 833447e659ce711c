use Rattle.std.proofs.Common.{arith}
use Rattle.oss_task_edges.proofs.EnterLemmas.{entered_end, entered_step}
use Rattle.oss_task_edges.proofs.siblings.Siblings.enter_all.Goals as goal

pub loop-access-preserved : goal.loop-access-preserved
loop-access-preserved c =
    entered_step c.args.number c.args.accesses.now c.loop-access.access-index c.access-item.result c.args.self.now c.loop-access.self c.enter.new.self c.loop-access.parts.items c.enter.new.parts.items
    c.loop-access-test.true c.access-item.is c.requires.rising c.loop-access.invariant c.in_ok-enter.ensures

pub returns : goal.returns
returns c =
    entered_end c.args.number c.args.accesses.now c.loop-access.access-index c.args.self.now c.loop-access.self c.loop-access.parts.items (let t = c.loop-access-test.false in omega (arith, t)) c.loop-access.invariant
