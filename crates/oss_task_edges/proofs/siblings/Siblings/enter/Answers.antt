use Rattle.std.proofs.Common.{arith}
use Rattle.oss_task_edges.proofs.EnterLemmas.{enters_more, enters_none}
use Rattle.oss_task_edges.proofs.siblings.Siblings.enter.Goals as goal

pub loop-from-init : goal.loop-from-init
loop-from-init c = (omega arith, (let o = c.args.access.range.ordered in omega (arith, o)), enters_none c.args.number c.args.access.mode c.args.access.strong c.args.access.range.lo c.args.self.now c.args.parts.now.items)

pub loop-from-preserved : goal.loop-from-preserved
loop-from-preserved c =
    let inv = c.loop-from.invariant in
    let some = c.run_from-groups.ensures.some in
    let within = c.run_from-groups.ensures.within in
    let low = inv.0 in (
      omega (arith, low, some),
      within,
      enters_more c.args.number c.args.access.mode c.args.access.strong c.args.access.range.lo c.loop-from.from c.run_from-groups.result.1 c.args.self.now c.loop-from.self c.enter_run.new.self
          c.args.parts.now.items c.loop-from.parts.items c.enter_run.new.parts.items low (omega (arith, some)) inv.2 c.in_ok-enter_run.ensures,
    )
