use Rattle.std.proofs.Common.{◌≤◌, arith, subst, sym}
use Rattle.oss_labels.proofs.Weights.{weight, weights, weight-one}
use Rattle.oss_labels.proofs.walk.+statements.Goals as goal

pub statements-statement-requires : goal.statements-statement-requires
statements-statement-requires t c =
    let ss = c.args.list.now in
    let s = c.one-item.result in
    let smaller : weight s ≤ weights ss = subst (λ x. weight x ≤ weights ss) (sym c.one-item.is) (weight-one ss c.loop-one.one-index s c.loop-one-test.true) in
    omega arith
