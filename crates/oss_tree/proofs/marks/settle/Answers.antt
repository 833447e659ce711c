use Rattle.std.proofs.Common.{sym, ap, ◌∙◌, arith}
use Rattle.oss_tree.specs.declared.task.Task.{Task}
use Rattle.oss_tree.proofs.ListLemmas.{some_is}
use Rattle.oss_tree.proofs.TreeLemmas.{read_none, read_parent}
use Rattle.oss_tree.proofs.MoveLemmas.{main_done, open_done, to_below}
use Rattle.oss_tree.proofs.marks.settle.Goals as goal

pub returns-in_default : goal.returns-in_default
returns-in_default c = main_done c.args.tasks.now c.loop-parent.marks c.requires.tree c.loop-parent.at c.loop-parent.invariant.marked (read_none c.requires.tree c.loop-parent.at _ c.in_default.is)

pub advance-requires-clause-marked : goal.advance-requires-clause-marked
advance-requires-clause-marked c =
    let p = read_parent c.requires.tree c.loop-parent.at _ c.in-Some.parent c.loop-parent.invariant.within c.in-Some.is in
    to_below c.args.tasks.now c.loop-parent.marks c.requires.tree c.loop-parent.at c.in-Some.parent.0 c.loop-parent.invariant.marked (λ one e. ap (λ (t : Task). t.parent) (some_is e p.at_) ∙ p.parent)

pub advance-requires-clause-task : goal.advance-requires-clause-task
advance-requires-clause-task c =
    let p = read_parent c.requires.tree c.loop-parent.at _ c.in-Some.parent c.loop-parent.invariant.within c.in-Some.is in
    let by = p.is in
    let later = p.made_by.later in
    let within = c.loop-parent.invariant.within in
    omega (arith, by, later, within)

pub loop-parent-smaller : goal.loop-parent-smaller
loop-parent-smaller c =
    let p = read_parent c.requires.tree c.loop-parent.at _ c.in-Some.parent c.loop-parent.invariant.within c.in-Some.is in
    let by = p.is in
    let later = p.made_by.later in
    omega (arith, by, later)

pub loop-parent-preserved : goal.loop-parent-preserved
loop-parent-preserved c =
    let p = read_parent c.requires.tree c.loop-parent.at _ c.in-Some.parent c.loop-parent.invariant.within c.in-Some.is in
    let by = p.is in
    let later = p.made_by.later in
    let within = c.loop-parent.invariant.within in
    record { marked = c.advance.ensures; within = omega (arith, by, later, within) }

pub returns : goal.returns
returns c = open_done c.args.tasks.now c.loop-parent.marks c.requires.tree c.loop-parent.at c.loop-parent.invariant.marked (sym c.is_settled.ensures ∙ c.loop-parent-test.false)
