use Rattle.std.proofs.Common.{◌<◌, ◌≤◌, ◌∙◌, true, arith}
use Rattle.oss_judge.proofs.GivenLemmas.{marks-past}
use Rattle.oss_judge.proofs.given.mark_writes.Goals as goal

pub returns : goal.returns
returns c = λ cell.
    let some : 0 < c.loop-from.from = let end = c.loop-from-test.false in omega arith in
    let end : 1048576 ≤ c.loop-from.from = c.loop-from-test.false in
    c.loop-from.invariant.marks cell
    ∙ marks-past c.loop-from.from cell c.args.rights.now.pieces true end (c.loop-from.invariant.past some)
