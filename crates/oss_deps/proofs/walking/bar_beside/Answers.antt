use Rattle.oss_deps.specs.Places.{blank, unmarked}
use Rattle.oss_deps.proofs.WalkLemmas.{back_ends, back_hits, back_over, back_past}
use Rattle.oss_deps.proofs.walking.bar_beside.Goals as goal
use Rattle.oss_deps.proofs.walking.bar_beside.Goals.{else-frames-one-via-then-frames-one+else-not-may_pass, else-frames-one-via-else-frames-one}

pub returns-then-not-may_pass : goal.returns-then-not-may_pass
returns-then-not-may_pass c = back_hits c.args.frames.now c.args.marks.now c.requires.linked c.requires.marked c.args.want c.args.at c.requires.within blank unmarked c.in-Some.first c.in-Some.is c.places.behind c.places.invariant c.places-test.true blank c.if-frames-one.true unmarked c.is_closed.result c.may_pass.result c.is_closed.ensures c.may_pass.ensures c.if-not-may_pass.true

pub places-preserved : goal.places-preserved
places-preserved c = elim c.else-frames-one.branch [
  | else-frames-one-via-then-frames-one+else-not-may_pass w ↦ back_past c.args.frames.now c.args.marks.now c.requires.linked c.requires.marked c.args.want c.args.at c.requires.within blank unmarked c.in-Some.first c.in-Some.is c.places.behind c.places.invariant c.places-test.true blank unmarked w.is_closed.result w.may_pass.result w.is_closed.ensures w.may_pass.ensures w.if-not-may_pass.false
  | else-frames-one-via-else-frames-one w ↦ back_over c.args.frames.now c.args.marks.now c.requires.linked c.requires.marked c.args.want c.args.at c.requires.within blank unmarked c.in-Some.first c.in-Some.is c.places.behind c.places.invariant c.places-test.true blank w.if-frames-one.false
]

pub returns : goal.returns
returns c = back_ends c.args.frames.now c.args.marks.now c.requires.linked c.requires.marked c.args.want c.args.at c.requires.within blank unmarked c.in-Some.first c.in-Some.is c.places.behind c.places.invariant c.places-test.false
