use Rattle.std.proofs.lemmas.Grind.{common_steps}
use Rattle.std.proofs.Common.{◌≡◌, ◌+◌, Ok, Err, List, [], ap, arith, drop, refl, rules}
use Rattle.oss_syntax.specs.declared.tree.program.Local.{Local}
use Rattle.oss_grammar.specs.StaticRules.{Judged, declare_all, declare_one, judged, then_judge}
use Rattle.oss_types.proofs.ParameterLemmas.{declared-left}
use Rattle.oss_names.proofs.EndLemmas.{ends-along, ends-stop, ends-then, ends-told, prefix-same}
use Rattle.oss_names.proofs.statements.declare.Goals as goal

pub returns-in_err-declare_local : goal.returns-in_err-declare_local
returns-in_err-declare_local c =
    let all = c.args.globals.now in
    let start = c.args.start in
    let ls = c.loop-local.locals in
    let now = c.declare_local.new.locals in
    let ds = c.args.declared.now in
    let i = c.loop-local.local-index in
    let d = c.local-item.result in
    let behind : List Local → Judged = λ ms. declare_all all start (drop (i + 1) ds) ms in
    let refusal = c.in_err-declare_local.field-0.0 in
    let told : c.from_residual.result ≡ Err refusal = search rules in
    c.loop-local.invariant c.from_residual.result now
    (ends-told ls now _ (Err refusal) _ told
    (ends-along ls now (then_judge (declare_one all start d ls) behind) _ (Err refusal) (declared-left all start ls ds i d c.loop-local-test.true c.local-item.is)
    (ends-stop {U = Unit {0}} {V = Unit {0}} ls now now (declare_one all start d ls) behind refusal c.in_err-declare_local.ensures)))

pub loop-local-preserved : goal.loop-local-preserved
loop-local-preserved c =
    let all = c.args.globals.now in
    let start = c.args.start in
    let ls = c.loop-local.locals in
    let mid = c.declare_local.new.locals in
    let ds = c.args.declared.now in
    let i = c.loop-local.local-index in
    let d = c.local-item.result in
    let behind : List Local → Judged = λ ms. declare_all all start (drop (i + 1) ds) ms in
    λ r now h. c.loop-local.invariant r now
    (ends-along ls now (then_judge (declare_one all start d ls) behind) _ r (declared-left all start ls ds i d c.loop-local-test.true c.local-item.is)
    (ends-then {U = Unit {0}} {V = Unit {0}} ls mid now (declare_one all start d ls) behind tt r c.in_ok-declare_local.ensures h))

pub returns : goal.returns
returns c =
    let all = c.args.globals.now in
    let start = c.args.start in
    let ls = c.loop-local.locals in
    let ds = c.args.declared.now in
    let none : drop c.loop-local.local-index ds ≡ [] = grind (arith, common_steps) in
    c.loop-local.invariant (Ok tt) ls
    (ends-along ls ls (judged [] ls) _ (Ok tt) (ap (λ xs. declare_all all start xs ls) none) (record { tells = refl; leaves = (refl, prefix-same ls) }))
