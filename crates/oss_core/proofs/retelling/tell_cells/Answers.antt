use Rattle.std.proofs.Common.{arith}
use Rattle.oss_core.proofs.RegivenLemmas.{cells_named, given_begin, given_more}
use Rattle.oss_core.proofs.retelling.tell_cells.Goals as goal

pub loop-number-init : goal.loop-number-init
loop-number-init g c = (omega arith, given_begin c.args.tasks.now c.args.tree.now c.requires.some (g.D.Deps.seen c.args.deps.now) c.requires.told)

pub tell_task-requires-clause-named : goal.tell_task-requires-clause-named
tell_task-requires-clause-named g c =
    let l = c.loop-number-test.true in
    let n = c.count-number-end.ensures.count in
    cells_named c.args.tasks.now c.args.tree.now c.requires.some (g.D.Deps.seen c.args.deps.now) c.requires.told c.loop-number.number c.loop-number.invariant.0 (omega (arith, l, n))
    (g.D.Deps.seen c.loop-number.deps) c.loop-number.invariant.1

pub loop-number-preserved : goal.loop-number-preserved
loop-number-preserved g c =
    let l = c.loop-number-test.true in
    let n = c.count-number-end.ensures.count in (
      omega arith,
      given_more c.args.tasks.now c.args.tree.now c.requires.some (g.D.Deps.seen c.args.deps.now) c.requires.told c.loop-number.number c.loop-number.invariant.0 (omega (arith, l, n))
          (g.D.Deps.seen c.loop-number.deps) c.loop-number.invariant.1 (g.D.Deps.seen c.tell_task.new.deps) c.in_ok-tell_task.ensures,
    )
