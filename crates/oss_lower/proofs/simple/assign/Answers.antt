use Rattle.std.proofs.Common.{◌≡◌, ◌++◌, ap, subst, sym}
use Rattle.std.specs.Prelude.{OnOk}
use Rattle.oss_meaning.specs.declared.names.Found.TheVariants as names
use Rattle.oss_meaning.specs.Expressions.{typed_name}
use Rattle.oss_lower_laws.specs.ExpressionCode.{expr_code}
use Rattle.oss_lower_laws.specs.StatementCode.{assigned_code}
use Rattle.oss_lower.proofs.simple.assign.Goals as goal

pub returns-in-Some : goal.returns-in-Some
returns-in-Some c =
    let all = c.args.site.now.names.now in
    let scope = c.args.site.now.scope.now in
    let t = expr_code all scope c.args.target.now in
    let e = expr_code all scope c.args.given.now in
    let typed : t.typed ≡ typed_name (names.Variable c.in-Some.slot c.in-Some.kind) = c.in-Some.ensures in
    subst (λ g. OnOk c.assign_local.result (c.assign_local.new.out ≡ c.args.out.now ++ assigned_code c.args.site.now.line g t c.args.op e)) (sym (ap (λ x. x.target) typed))
    (c.assign_local.ensures t (ap (λ x. x.kind) typed))
