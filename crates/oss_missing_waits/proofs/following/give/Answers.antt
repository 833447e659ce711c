use Rattle.std.proofs.Common.{◌<◌, ◌≤◌, length, arith}
use Rattle.oss_missing_waits.proofs.FollowLemmas.{gives_here, gives_nothing}
use Rattle.oss_missing_waits.proofs.following.give.Goals as goal

pub returns-in_ok-create : goal.returns-in_ok-create
returns-in_ok-create c =
    let t = c.if-number-count.true in
    let l : c.args.number < length c.args.tasks.now = omega (arith, t) in
    gives_here c.args.layout.now c.args.tasks.now c.args.number c.args.created c.args.line c.args.lends c.index-tasks-number.result c.args.creator.now c.create.new.self l c.index-tasks-number.is c.in_ok-create.ensures

pub returns-else-number-count : goal.returns-else-number-count
returns-else-number-count c =
    let t = c.if-number-count.false in
    let l : length c.args.tasks.now ≤ c.args.number = omega (arith, t) in
    gives_nothing c.args.layout.now c.args.tasks.now c.args.number c.args.created c.args.line c.args.lends c.args.creator.now l
