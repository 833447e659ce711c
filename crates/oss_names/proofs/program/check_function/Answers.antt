use Rattle.std.proofs.Common.{◌≡◌, ◌++◌, ◌∙◌, [], None, Err, ap, rules, subst, sym}
use Rattle.oss_grammar.specs.declared.kinds.Around.{Around}
use Rattle.oss_syntax.specs.declared.refusal.RefusedKind.TheVariants as refused
use Rattle.oss_grammar.specs.Broken.{first, where_so}
use Rattle.oss_grammar.specs.ProgramRules.{body_around, is_wrong_function, mark_rules}
use Rattle.oss_grammar.specs.Scopes.{is_again, or_else}
use Rattle.oss_grammar.specs.StaticRules.{Judged, declare_all, rules_of_all}
use Rattle.oss_names.specs.PartChecks.{TellsFirst}
use Rattle.oss_names.proofs.EndLemmas.{tells-before, tells-behind}
use Rattle.oss_names.proofs.ProgramLemmas.{front-broken, front-whole}
use Rattle.oss_names.proofs.program.check_function.Goals as goal

pub returns-in-Some : goal.returns-in-Some
returns-in-Some c =
    let all = c.args.globals.now in
    let f = c.args.function.now in
    let j : Judged = declare_all all 0 f.params [] in
    let a = mark_rules all j.locals f.mark in
    let b = where_so (is_again all c.args.place f.name) refused.DuplicateName f.line in
    let d = where_so (is_wrong_function f) refused.WrongKind f.line in
    let e = (rules_of_all f.body all (body_around f.result) j.locals).broken in
    let again = c.declares_again-again.ensures ∙ ap (is_again all c.args.place) c.as_slice.ensures in
    let twice : c.refused_if-twice.result ≡ first b = c.refused_if-twice.ensures ∙ ap (λ x. first (where_so x refused.DuplicateName f.line)) again in
    let unlike : c.refused_if-unlike.result ≡ first d = c.refused_if-unlike.ensures ∙ ap (λ x. first (where_so x refused.WrongKind f.line)) c.is_wrong-wrong.ensures in
    let mark : c.in-Ok.mark ≡ first a = c.in-Ok.ensures in
    let told : c.before-3.result ≡ or_else (first a) (or_else (first b) (first d)) =
    c.before-3.ensures ∙ ap (λ o. or_else o c.before-2.result) mark ∙ ap (or_else (first a)) (c.before-2.ensures ∙ ap (λ o. or_else o c.refused_if-unlike.result) twice ∙ ap (or_else (first b)) unlike) in
    front-broken a b d (j.broken ++ e) c.in-Some.broken (sym told ∙ c.in-Some.is)

pub returns-in_err-declare : goal.returns-in_err-declare
returns-in_err-declare c =
    let all = c.args.globals.now in
    let f = c.args.function.now in
    let j : Judged = declare_all all 0 f.params [] in
    let same : declare_all all 0 c.as_slice-2.result.now c.none-locals.result ≡ j = ap (λ ds. declare_all all 0 ds c.none-locals.result) c.as_slice-2.ensures ∙ ap (declare_all all 0 f.params) c.none-locals.ensures in
    let a = mark_rules all j.locals f.mark in
    let b = where_so (is_again all c.args.place f.name) refused.DuplicateName f.line in
    let d = where_so (is_wrong_function f) refused.WrongKind f.line in
    let e = (rules_of_all f.body all (body_around f.result) j.locals).broken in
    let again = c.declares_again-again.ensures ∙ ap (is_again all c.args.place) c.as_slice.ensures in
    let twice : c.refused_if-twice.result ≡ first b = c.refused_if-twice.ensures ∙ ap (λ x. first (where_so x refused.DuplicateName f.line)) again in
    let unlike : c.refused_if-unlike.result ≡ first d = c.refused_if-unlike.ensures ∙ ap (λ x. first (where_so x refused.WrongKind f.line)) c.is_wrong-wrong.ensures in
    let mark : c.in-Ok.mark ≡ first a = c.in-Ok.ensures in
    let told : c.before-3.result ≡ or_else (first a) (or_else (first b) (first d)) =
    c.before-3.ensures ∙ ap (λ o. or_else o c.before-2.result) mark ∙ ap (or_else (first a)) (c.before-2.ensures ∙ ap (λ o. or_else o c.refused_if-unlike.result) twice ∙ ap (or_else (first b)) unlike) in
    let refusal = c.in_err-declare.field-0.0 in
    let handed : c.from_residual.result ≡ Err refusal = search rules in
    let params : TellsFirst {U = Unit {0}} j.broken (Err refusal) = subst (λ x. TellsFirst {U = Unit {0}} x.broken (Err refusal)) same c.in_err-declare.ensures.tells in
    subst (λ r. TellsFirst (a ++ (b ++ (d ++ (j.broken ++ e)))) r) (sym handed)
    (front-whole a b d (j.broken ++ e) (Err refusal) (sym told ∙ c.in-None.is) (tells-before (Unit {0}) (Unit {0}) j.broken e refusal params))

pub returns : goal.returns
returns c =
    let all = c.args.globals.now in
    let f = c.args.function.now in
    let j : Judged = declare_all all 0 f.params [] in
    let same : declare_all all 0 c.as_slice-2.result.now c.none-locals.result ≡ j = ap (λ ds. declare_all all 0 ds c.none-locals.result) c.as_slice-2.ensures ∙ ap (declare_all all 0 f.params) c.none-locals.ensures in
    let a = mark_rules all j.locals f.mark in
    let b = where_so (is_again all c.args.place f.name) refused.DuplicateName f.line in
    let d = where_so (is_wrong_function f) refused.WrongKind f.line in
    let body : Around → Judged = λ x. rules_of_all f.body all x j.locals in
    let e = (body (body_around f.result)).broken in
    let again = c.declares_again-again.ensures ∙ ap (is_again all c.args.place) c.as_slice.ensures in
    let twice : c.refused_if-twice.result ≡ first b = c.refused_if-twice.ensures ∙ ap (λ x. first (where_so x refused.DuplicateName f.line)) again in
    let unlike : c.refused_if-unlike.result ≡ first d = c.refused_if-unlike.ensures ∙ ap (λ x. first (where_so x refused.WrongKind f.line)) c.is_wrong-wrong.ensures in
    let mark : c.in-Ok.mark ≡ first a = c.in-Ok.ensures in
    let told : c.before-3.result ≡ or_else (first a) (or_else (first b) (first d)) =
    c.before-3.ensures ∙ ap (λ o. or_else o c.before-2.result) mark ∙ ap (or_else (first a)) (c.before-2.ensures ∙ ap (λ o. or_else o c.refused_if-unlike.result) twice ∙ ap (or_else (first b)) unlike) in
    let none : first j.broken ≡ None = subst (λ x. first x.broken ≡ None) same c.in_ok-declare.ensures.tells in
    let locals : c.declare.new.locals ≡ j.locals = c.in_ok-declare.ensures.leaves.0 ∙ ap (λ x. x.locals) same in
    let whole : (rules_of_all c.as_slice-3.result.now all c.around_body-around.result c.declare.new.locals).broken ≡ e =
    ap (λ x. x.broken) (ap (λ ss. rules_of_all ss all c.around_body-around.result c.declare.new.locals) c.as_slice-3.ensures ∙ ap (rules_of_all f.body all c.around_body-around.result) locals ∙ ap body c.around_body-around.ensures) in
    front-whole a b d (j.broken ++ e) c.statements.result (sym told ∙ c.in-None.is)
    (tells-behind j.broken e c.statements.result none (subst (λ rules. TellsFirst rules c.statements.result) whole c.statements.ensures.tells))
