use Rattle.std.proofs.Common.{◌<◌, ◌≤◌, length, arith}
use Rattle.oss_missing_waits.proofs.FollowLemmas.{said_here, said_past}
use Rattle.oss_missing_waits.proofs.following.said_of.Goals as goal

pub returns-then-number-count : goal.returns-then-number-count
returns-then-number-count c =
    let t = c.if-number-count.true in
    let l : c.args.number < length c.args.tasks.now = omega (arith, t) in
    said_here c.args.tasks.now c.args.number c.args.cell c.index-tasks-number.result c.said_by.result l c.index-tasks-number.is c.said_by.ensures

pub returns-else-number-count : goal.returns-else-number-count
returns-else-number-count c =
    let t = c.if-number-count.false in
    let l : length c.args.tasks.now ≤ c.args.number = omega (arith, t) in
    said_past c.args.tasks.now c.args.number c.args.cell l
