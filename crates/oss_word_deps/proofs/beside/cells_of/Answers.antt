use Rattle.std.proofs.Common.{arith}
use Rattle.oss_word_deps.proofs.ExtendLemmas.{count_next, count_within, item_is}
use Rattle.oss_word_deps.proofs.beside.cells_of.Goals as goal

pub returns-then-count-gt16777216-clause-none : goal.returns-then-count-gt16777216-clause-none
returns-then-count-gt16777216-clause-none c =
    let item = item_is c.args.accesses.now c.loop-access.access-index c.access-item.result c.loop-access-test.true c.access-item.is in
    let k = count_within c.args.accesses.now c.loop-access.access-index c.access-item.result item in
    let i = c.loop-access.invariant.0 in
    let t = c.if-count-gt16777216.true in
    omega (arith, k, i, t)

pub loop-access-preserved : goal.loop-access-preserved
loop-access-preserved c =
    let item = item_is c.args.accesses.now c.loop-access.access-index c.access-item.result c.loop-access-test.true c.access-item.is in
    let k = count_next c.args.accesses.now c.loop-access.access-index c.access-item.result item in
    let i = c.loop-access.invariant.0 in
    let t = c.if-count-gt16777216.false in
    (omega (arith, k, i), omega (arith, t))
