use Rattle.oss_core.proofs.RetoldLemmas.{child_at, child_there, may_tell, told_end, told_next}
use Rattle.oss_core.proofs.retelling.tell_children.Goals as goal

pub accesses_of-requires : goal.accesses_of-requires
accesses_of-requires g c =
    let one = c.requires.children in
    child_there c.args.tasks.now c.args.tree.now c.requires.some c.args.task.0 c.loop-child.child-index one.0 c.args.children.now _ one.1 one.2 c.loop-child-test.true

pub open-requires : goal.open-requires
open-requires g c =
    let one = c.requires.children in
    may_tell c.args.tasks.now c.args.tree.now c.requires.some c.args.task.0 c.loop-child.child-index _ (g.D.Deps.seen c.loop-child.deps) one.0 c.loop-child.invariant one.1
    (child_at c.args.tasks.now c.args.tree.now c.requires.some one.0 c.args.children.now c.loop-child.child-index _ one.2 c.loop-child-test.true) c.in_ok-accesses.accesses c.in_ok-accesses.ensures

pub loop-child-preserved : goal.loop-child-preserved
loop-child-preserved g c =
    let one = c.requires.children in
    told_next c.args.tasks.now c.args.tree.now c.requires.some c.args.task.0 c.loop-child.child-index _ (g.D.Deps.seen c.loop-child.deps) one.0 c.loop-child.invariant one.1
    (child_at c.args.tasks.now c.args.tree.now c.requires.some one.0 c.args.children.now c.loop-child.child-index _ one.2 c.loop-child-test.true) c.in_ok-accesses.accesses c.in_ok-accesses.ensures
    (g.D.Deps.seen c.open.new.self) c.in_ok-open.ensures.ok

pub returns : goal.returns
returns g c =
    let one = c.requires.children in
    told_end c.args.tasks.now c.args.tree.now c.requires.some c.args.task.0 c.loop-child.child-index (g.D.Deps.seen c.loop-child.deps) one.0 c.args.children.now one.2 c.loop-child.invariant one.1
    c.loop-child-test.false
