use Rattle.std.proofs.Common.{rules, ◌≡◌, ◌≤◌, append_assoc, subst, sym, arith}
use Rattle.oss_lower_laws.specs.ExpressionCode.{binary_code, expr_code, operator_by, then_two}
use Rattle.oss_lower_expressions.proofs.FormCases.{both-sides}
use Rattle.oss_lower_expressions.proofs.ExprWeights.{weight, weights, weight-one}
use Rattle.oss_lower_expressions.proofs.expressions.+expressions.Goals as goal

pub arguments-value-requires : goal.arguments-value-requires
arguments-value-requires t c =
    let es = c.args.values.now in
    let e = c.one-item.result in
    let smaller : weight e ≤ weights es = subst (λ x. weight x ≤ weights es) (sym c.one-item.is) (weight-one es c.loop-one.one-index e c.loop-one-test.true) in
    omega arith

pub binary-returns-in_ok-push-in_default : goal.binary-returns-in_ok-push-in_default
binary-returns-in_ok-push-in_default t c =
    let a = expr_code c.args.site.now.names.now c.args.site.now.scope.now c.args.left.now in
    let b = expr_code c.args.site.now.names.now c.args.site.now.scope.now c.args.right.now in
    let sides : binary_code c.args.op a b c.args.site.now.line c.args.depth ≡ then_two a.value b.value (operator_by c.args.op a.typed.kind b.typed.kind) c.args.site.now.line c.args.depth =
    both-sides c.args.op a b c.args.site.now.line c.args.depth c.in_default.not-AndAlso c.in_default.not-OrElse in
    record { kind = search rules; code = rw sides (search (rules, append_assoc)) }
