use Rattle.std.proofs.Common.{◌<◌, length, arith, rules}
use Rattle.oss_tree.proofs.TreeLemmas.{read_none, read_parent}
use Rattle.oss_tree.proofs.MoveLemmas.{above, far_enough, main_reopened, moved_back, not_whole}
use Rattle.oss_tree.proofs.marks.reopen.Goals as goal

pub offset_bounds-marks-at : goal.offset_bounds-marks-at
offset_bounds-marks-at c =
    let p = read_parent c.requires.tree c.loop-at.at _ c.in-Some.parent c.loop-at.invariant.within c.in-Some.is in
    let by = p.is in
    let later = p.made_by.later in
    let within = c.loop-at.invariant.within in
    let each = c.loop-at.invariant.marked.each in
    let in_bounds : c.in-Some.parent.0 < length c.loop-at.marks = omega (arith, by, later, within, each) in
    search rules

pub bounds-marks-at : goal.bounds-marks-at
bounds-marks-at c =
    let p = read_parent c.requires.tree c.loop-at.at _ c.in-Some.parent c.loop-at.invariant.within c.in-Some.is in
    let by = p.is in
    let later = p.made_by.later in
    let within = c.loop-at.invariant.within in
    let each = c.loop-at.invariant.marked.each in
    omega (arith, by, later, within, each)

pub returns-then-marks-at : goal.returns-then-marks-at
returns-then-marks-at c =
    let tree = c.requires.tree in
    let held = c.loop-at.invariant in
    let p = above tree c.loop-at.at _ c.in-Some.parent held.within c.in-Some.is _ c.index-tasks-at.is c.place_of-place.result c.place_of-place.ensures in
    far_enough c.args.tasks.now c.loop-at.marks tree c.in-Some.parent.0 p.creator p.at_ held.marked.each c.place_of-place.result c.loop-at.at held.marked c.if-marks-at.true p.is

pub loop-at-smaller : goal.loop-at-smaller
loop-at-smaller c =
    let p = read_parent c.requires.tree c.loop-at.at _ c.in-Some.parent c.loop-at.invariant.within c.in-Some.is in
    let by = p.is in
    let later = p.made_by.later in
    omega (arith, by, later)

pub loop-at-preserved : goal.loop-at-preserved
loop-at-preserved c =
    let tasks = c.args.tasks.now in
    let marks = c.loop-at.marks in
    let tree = c.requires.tree in
    let held = c.loop-at.invariant in
    let p = above tree c.loop-at.at _ c.in-Some.parent held.within c.in-Some.is _ c.index-tasks-at.is c.place_of-place.result c.place_of-place.ensures in
    let later = p.later in
    let within = held.within in
    record {
      marked = moved_back tasks marks tree c.in-Some.parent.0 p.creator p.at_ held.marked.each c.place_of-place.result c.loop-at.at held.marked c.if-marks-at.false p.is held.left;
      left = not_whole tasks marks tree c.in-Some.parent.0 p.creator p.at_ held.marked.each c.place_of-place.result c.loop-at.at held.marked c.if-marks-at.false p.is held.left;
      within = omega (arith, later, within);
    }

pub returns : goal.returns
returns c = main_reopened c.args.tasks.now c.loop-at.marks c.requires.tree c.loop-at.at c.loop-at.invariant.marked (read_none c.requires.tree c.loop-at.at _ c.in_default.is)
