use Rattle.std.proofs.Common.{◌∙◌, ℕ, List, ap, map, true}
use Rattle.oss_syntax.specs.declared.tree.expr.Expr.{Expr}
use Rattle.oss_syntax.specs.declared.tree.program.Local.{Local}
use Rattle.oss_grammar.specs.Broken.{first}
use Rattle.oss_grammar.specs.ExpressionRules.{call_findings, findings}
use Rattle.oss_grammar.specs.Kinds.{Findings, all_of}
use Rattle.oss_names.proofs.simple.call_statement.Goals as goal

pub returns : goal.returns
returns c =
    let all = c.args.globals.now in
    let of : List Local → List ℕ → List Expr → Findings = λ ls name es. call_findings all ls name c.args.line true (map (findings all ls) es) in
    c.first_of.ensures (of c.all.result c.as_slice.result.now c.as_slice-2.result.now) c.call.ensures
    ∙ ap (λ ls. first (all_of (of ls c.as_slice.result.now c.as_slice-2.result.now))) c.all.ensures
    ∙ ap (λ name. first (all_of (of c.args.locals.now name c.as_slice-2.result.now))) c.as_slice.ensures ∙ ap (λ es. first (all_of (of c.args.locals.now c.args.name.now es))) c.as_slice-2.ensures
