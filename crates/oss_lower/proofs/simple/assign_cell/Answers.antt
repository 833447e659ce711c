use Rattle.std.proofs.Common.{◌≡◌, ◌∙◌, ◌++◌, Some, ap, append_assoc, subst, sym}
use Rattle.std.specs.Prelude.{OnOk}
use Rattle.oss_meaning.specs.declared.names.Target.TheVariants as target
use Rattle.oss_meaning.specs.Statements.{folded_by}
use Rattle.oss_lower_laws.specs.ExpressionCode.{expr_code}
use Rattle.oss_lower_laws.specs.StatementCode.{assigned_code, cell_changed_code}
use Rattle.oss_lower.proofs.TargetLemmas.{kinded}
use Rattle.oss_lower.proofs.simple.assign_cell.Goals as goal

pub returns-in-Some : goal.returns-in-Some
returns-in-Some c = λ none.
    let all = c.args.site.now.names.now in
    let scope = c.args.site.now.scope.now in
    let line = c.args.site.now.line in
    let out = c.args.out.now in
    let t = expr_code all scope c.args.target.now in
    let e = expr_code all scope c.args.given.now in
    let n = c.in-Cell.kind in
    let cell : t.typed.target ≡ target.Cell n = sym c.in_ok-kind.ensures.target ∙ c.in-Cell.is in
    let o = c.in-Some.op in
    let x = cell_changed_code line (folded_by n o) t o e n in
    let list : c.value.new.out ++ x ≡ out ++ assigned_code line t.typed.target t c.args.op e =
    ap (λ y. y ++ x) (c.in_ok-right-in-Cell.ensures.code ∙ ap (λ y. y ++ e.value line 1) c.in_ok-kind.ensures.code)
    ∙ append_assoc (out ++ t.place line 0) (e.value line 1) x ∙ append_assoc out (t.place line 0) (e.value line 1 ++ x)
    ∙ ap (λ g. out ++ assigned_code line g t (Some o) e) (sym cell) ∙ ap (λ p. out ++ assigned_code line t.typed.target t p e) (sym c.in-Some.is) in
    subst (λ y. OnOk c.change_cell.result (c.change_cell.new.out ≡ y)) list
    (c.change_cell.ensures t e (kinded all scope c.args.target.now n cell) (sym (ap (λ y. y.kind) c.in_ok-right-in-Cell.ensures.typed)))
