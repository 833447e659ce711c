use Rattle.std.proofs.Common.{arith, get_or}
use Rattle.oss_core.specs.Cores.{kept_of}
use Rattle.oss_core.proofs.WavingLemmas.{all_out, at_in, get_at, none_out, one_out, out_size}
use Rattle.oss_core.proofs.machine.Core.lend.Goals as goal

pub loop-task-init : goal.loop-task-init
loop-task-init g c = none_out c.args.steppers.now (kept_of g.D.Deps.seen c.args.self.now) c.new-bodies.result.items c.new-bodies.ensures.items

pub put_body-body-requires : goal.put_body-body-requires
put_body-body-requires g c =
    let v = get_or c.args.steppers.now c.loop-task.task-index (record { 0 = 0 }) in
    let l = c.requires.there v (at_in c.args.steppers.now c.loop-task.task-index v (get_at c.args.steppers.now c.loop-task.task-index (record { 0 = 0 }) c.loop-task-test.true)) in
    let e = out_size c.args.steppers.now c.loop-task.task-index c.loop-task.bodies.items (kept_of g.D.Deps.seen c.args.self.now) (kept_of g.D.Deps.seen c.loop-task.self) c.loop-task.invariant in
    omega (arith, l, e)

pub loop-task-preserved : goal.loop-task-preserved
loop-task-preserved g c =
    one_out c.args.steppers.now c.loop-task.task-index c.loop-task.bodies.items c.push.new.self.items (kept_of g.D.Deps.seen c.args.self.now) (kept_of g.D.Deps.seen c.loop-task.self) c.put_body-body.new.tasks.items
    (get_or c.args.steppers.now c.loop-task.task-index (record { 0 = 0 })) c.in_ok-spare.spare c.put_body-body.result c.loop-task.invariant (get_at c.args.steppers.now c.loop-task.task-index (record { 0 = 0 }) c.loop-task-test.true)
    c.put_body-body.ensures.put c.put_body-body.ensures.taken c.in_ok-push.ensures.items

pub returns-clause-out : goal.returns-clause-out
returns-clause-out g c =
    all_out c.args.steppers.now c.loop-task.task-index c.loop-task.bodies.items (kept_of g.D.Deps.seen c.args.self.now) (kept_of g.D.Deps.seen c.loop-task.self) c.loop-task-test.false c.loop-task.invariant

pub returns-clause-beside : goal.returns-clause-beside
returns-clause-beside g c = c.loop-task.invariant.beside
