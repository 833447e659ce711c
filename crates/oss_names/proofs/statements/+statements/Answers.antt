use Rattle.std.proofs.lemmas.Grind.{common_steps}
use Rattle.std.proofs.Common.{◌≡◌, ◌+◌, ◌≤◌, ◌∙◌, Ok, Err, List, [], ap, arith, drop, map, not, option_map, refl, rules, subst, sym, true}
use Rattle.oss_syntax.specs.declared.tree.program.Local.{Local}
use Rattle.oss_grammar.specs.declared.kinds.Wanted.TheVariants as wanted
use Rattle.oss_syntax.specs.declared.refusal.RefusedKind.TheVariants as refused
use Rattle.oss_grammar.specs.Broken.{first, where_so}
use Rattle.oss_grammar.specs.ExpressionRules.{call_findings, findings, value_rules}
use Rattle.oss_grammar.specs.Kinds.{all_of}
use Rattle.oss_grammar.specs.SectionRules.{clauses_rules, optional_rules}
use Rattle.oss_grammar.specs.StaticRules.{Judged, assign_rules, in_a_loop, in_a_task, inner, inner_part, judged, may_break, may_continue, part_rules, print_rules, return_rules, rules_of, rules_of_all, then_judge, wait_rules}
use Rattle.oss_names.proofs.EndLemmas.{ends-along, ends-stop, ends-then, ends-told, prefix-same, statements-left}
use Rattle.oss_names.proofs.StatementLemmas.{rules-assign, rules-break, rules-call, rules-continue, rules-empty, rules-print, rules-release, rules-return, rules-wait}
use Rattle.oss_loops.proofs.Weights.{weight, weight-one, weights}
use Rattle.oss_names.proofs.statements.+statements.Goals as goal

pub branches-returns-in_err-told : goal.branches-returns-in_err-told
branches-returns-in_err-told t c =
    let all = c.args.globals.now in
    let a = c.args.around in
    let ls = c.args.locals.now in
    let test = value_rules all ls wanted.Number c.args.test.now in
    let behind : List Local → Judged = λ ms. then_judge (inner (rules_of c.args.then_part.now) all a ms) (λ ns. inner_part (option_map rules_of c.args.else_part.now) all a ns) in
    let refusal = c.in_err-told.field-0.0 in
    let handed : c.from_residual.result ≡ Err refusal = search rules in
    ends-told ls ls _ (Err refusal) _ handed (ends-stop {U = Unit {0}} {V = Unit {0}} ls ls ls (judged test ls) behind refusal (c.in_err-told.ensures test ls c.value.ensures))

pub branches-returns-in_err-inside : goal.branches-returns-in_err-inside
branches-returns-in_err-inside t c =
    let all = c.args.globals.now in
    let a = c.args.around in
    let ls = c.args.locals.now in
    let now = c.inside.new.locals in
    let test = value_rules all ls wanted.Number c.args.test.now in
    let last : List Local → Judged = λ ns. inner_part (option_map rules_of c.args.else_part.now) all a ns in
    let behind : List Local → Judged = λ ms. then_judge (inner (rules_of c.args.then_part.now) all a ms) last in
    let refusal = c.in_err-inside.field-0.0 in
    let handed : c.from_residual-in_err-inside.result ≡ Err refusal = search rules in
    ends-told ls now _ (Err refusal) _ handed
    (ends-then {U = Unit {0}} {V = Unit {0}} ls ls now (judged test ls) behind tt (Err refusal) (c.in_ok-told.ensures test ls c.value.ensures)
    (ends-stop {U = Unit {0}} {V = Unit {0}} ls now now (inner (rules_of c.args.then_part.now) all a ls) last refusal c.in_err-inside.ensures))

pub while_loop-returns-in_err-told : goal.while_loop-returns-in_err-told
while_loop-returns-in_err-told t c =
    let all = c.args.globals.now in
    let ls = c.args.locals.now in
    let test = value_rules all ls wanted.Number c.args.test.now in
    let behind : List Local → Judged = λ ms. inner (rules_of c.args.body.now) all (in_a_loop c.args.around) ms in
    let refusal = c.in_err-told.field-0.0 in
    let handed : c.from_residual.result ≡ Err refusal = search rules in
    ends-told ls ls _ (Err refusal) _ handed (ends-stop {U = Unit {0}} {V = Unit {0}} ls ls ls (judged test ls) behind refusal (c.in_err-told.ensures test ls c.value.ensures))

pub task-returns-in_err-told : goal.task-returns-in_err-told
task-returns-in_err-told t c =
    let all = c.args.globals.now in
    let ls = c.args.locals.now in
    let mark = clauses_rules all ls 0 c.args.mark.now.clauses in
    let behind : List Local → Judged = λ ms. inner (rules_of c.args.body.now) all (in_a_task c.args.around) ms in
    let refusal = c.in_err-told.field-0.0 in
    let handed : c.from_residual.result ≡ Err refusal = search rules in
    ends-told ls ls _ (Err refusal) _ handed
    (ends-stop {U = Unit {0}} {V = Unit {0}} ls ls ls (judged mark ls) behind refusal (c.in_err-told.ensures mark ls (c.clauses.ensures ∙ ap (λ cs. first (clauses_rules all ls 0 cs)) c.as_slice.ensures)))

pub for_loop-returns-in_err-told : goal.for_loop-returns-in_err-told
for_loop-returns-in_err-told t c =
    let all = c.args.globals.now in
    let a = c.args.around in
    let ls = c.args.locals.now in
    let now = c.part.new.locals in
    let test = optional_rules all now c.args.test.now in
    let last : List Local → Judged = λ ms. then_judge (inner_part (option_map rules_of c.args.step.now) all a ms) (λ ns. inner (rules_of c.args.body.now) all (in_a_loop a) ns) in
    let behind : List Local → Judged = λ ms. then_judge (judged (optional_rules all ms c.args.test.now) ms) last in
    let refusal = c.in_err-told.field-0.0 in
    let handed : c.from_residual-in_err-told.result ≡ Err refusal = search rules in
    ends-told ls now _ (Err refusal) _ handed
    (ends-then {U = Unit {0}} {V = Unit {0}} ls now now (part_rules (option_map rules_of c.args.start.now) all a ls) behind tt (Err refusal) c.in_ok-part.ensures
    (ends-stop {U = Unit {0}} {V = Unit {0}} now now now (judged test now) last refusal (c.in_err-told.ensures test now c.optional.ensures)))

pub inside_part-returns-in-None : goal.inside_part-returns-in-None
inside_part-returns-in-None t c = rw c.in-None.is (c.told.ensures [] c.args.locals.now refl)

pub part-returns-in-None : goal.part-returns-in-None
part-returns-in-None t c = rw c.in-None.is (c.told.ensures [] c.args.locals.now refl)

pub statement-returns-in-Empty : goal.statement-returns-in-Empty
statement-returns-in-Empty t c =
    let ls = c.args.locals.now in
    ends-along ls ls (judged [] ls) _ c.told.result (rules-empty c.args.statement.now c.args.globals.now c.args.around ls c.in-Empty.is) (c.told.ensures [] ls refl)

pub statement-returns-in-Assign : goal.statement-returns-in-Assign
statement-returns-in-Assign t c =
    let all = c.args.globals.now in
    let ls = c.args.locals.now in
    let w = c.in-Assign in
    let parts = assign_rules all ls w.op w.target w.value in
    ends-along ls ls (judged parts ls) _ c.told-in-Assign.result (rules-assign c.args.statement.now all c.args.around ls w.target w.op w.value w.is)
    (c.told-in-Assign.ensures parts ls (c.assignment.ensures ∙ ap (λ e. first (assign_rules all ls w.op e c.get-in-Assign.result.now)) c.get.ensures
    ∙ ap (λ e. first (assign_rules all ls w.op w.target e)) c.get-in-Assign.ensures))

pub statement-returns-in-Return : goal.statement-returns-in-Return
statement-returns-in-Return t c =
    let all = c.args.globals.now in
    let ls = c.args.locals.now in
    let parts = return_rules all ls c.args.around c.args.statement.now.line c.in-Return.value in
    ends-along ls ls (judged parts ls) _ c.told-in-Return.result (rules-return c.args.statement.now all c.args.around ls c.in-Return.value c.in-Return.is) (c.told-in-Return.ensures parts ls c.return_statement.ensures)

pub statement-returns-in-Break : goal.statement-returns-in-Break
statement-returns-in-Break t c =
    let ls = c.args.locals.now in
    let line = c.args.statement.now.line in
    let parts = where_so (not (may_break c.args.around.nearest)) refused.BadJump line in
    ends-along ls ls (judged parts ls) _ c.told-in-Break.result (rules-break c.args.statement.now c.args.globals.now c.args.around ls c.in-Break.is)
    (c.told-in-Break.ensures parts ls (c.refused_if.ensures ∙ ap (λ b. first (where_so (not b) refused.BadJump line)) c.may_leave.ensures))

pub statement-returns-in-Continue : goal.statement-returns-in-Continue
statement-returns-in-Continue t c =
    let ls = c.args.locals.now in
    let line = c.args.statement.now.line in
    let parts = where_so (not (may_continue c.args.around.nearest)) refused.BadJump line in
    ends-along ls ls (judged parts ls) _ c.told-in-Continue.result (rules-continue c.args.statement.now c.args.globals.now c.args.around ls c.in-Continue.is)
    (c.told-in-Continue.ensures parts ls (c.refused_if-in-Continue.ensures ∙ ap (λ b. first (where_so (not b) refused.BadJump line)) c.may_go_on.ensures))

pub statement-returns-in-TaskWait : goal.statement-returns-in-TaskWait
statement-returns-in-TaskWait t c =
    let all = c.args.globals.now in
    let ls = c.args.locals.now in
    let parts = wait_rules all ls c.in-TaskWait.sections in
    ends-along ls ls (judged parts ls) _ c.told-in-TaskWait.result (rules-wait c.args.statement.now all c.args.around ls c.in-TaskWait.sections c.in-TaskWait.is) (c.told-in-TaskWait.ensures parts ls c.wait.ensures)

pub statement-returns-in-Release : goal.statement-returns-in-Release
statement-returns-in-Release t c =
    let all = c.args.globals.now in
    let ls = c.args.locals.now in
    let parts = clauses_rules all ls 0 c.as_slice-in-Release.result.now in
    ends-along ls ls (judged parts ls) _ c.told-in-Release.result
    (rules-release c.args.statement.now all c.args.around ls c.in-Release.list c.in-Release.is ∙ ap (λ cs. judged (clauses_rules all ls 0 cs) ls) (sym c.as_slice-in-Release.ensures))
    (c.told-in-Release.ensures parts ls c.clauses.ensures)

pub statements-statement-requires : goal.statements-statement-requires
statements-statement-requires t c =
    let ss = c.args.list.now in
    let s = c.one-item.result in
    let smaller : weight s ≤ weights ss = subst (λ x. weight x ≤ weights ss) (sym c.one-item.is) (weight-one ss c.loop-one.one-index s c.loop-one-test.true) in
    omega arith

pub statements-returns-in_err-statement : goal.statements-returns-in_err-statement
statements-returns-in_err-statement t c =
    let all = c.args.globals.now in
    let a = c.args.around in
    let ls = c.loop-one.locals in
    let now = c.statement.new.locals in
    let ss = c.args.list.now in
    let i = c.loop-one.one-index in
    let s = c.one-item.result in
    let behind : List Local → Judged = λ ms. rules_of_all (drop (i + 1) ss) all a ms in
    let refusal = c.in_err-statement.field-0.0 in
    let handed : c.from_residual.result ≡ Err refusal = search rules in
    c.loop-one.invariant c.from_residual.result now
    (ends-told ls now _ (Err refusal) _ handed
    (ends-along ls now (then_judge (rules_of s all a ls) behind) _ (Err refusal) (statements-left all a ls ss i s c.loop-one-test.true c.one-item.is)
    (ends-stop {U = Unit {0}} {V = Unit {0}} ls now now (rules_of s all a ls) behind refusal c.in_err-statement.ensures)))

pub statements-loop-one-preserved : goal.statements-loop-one-preserved
statements-loop-one-preserved t c =
    let all = c.args.globals.now in
    let a = c.args.around in
    let ls = c.loop-one.locals in
    let mid = c.statement.new.locals in
    let ss = c.args.list.now in
    let i = c.loop-one.one-index in
    let s = c.one-item.result in
    let behind : List Local → Judged = λ ms. rules_of_all (drop (i + 1) ss) all a ms in
    λ r now h. c.loop-one.invariant r now
    (ends-along ls now (then_judge (rules_of s all a ls) behind) _ r (statements-left all a ls ss i s c.loop-one-test.true c.one-item.is)
    (ends-then {U = Unit {0}} {V = Unit {0}} ls mid now (rules_of s all a ls) behind tt r c.in_ok-statement.ensures h))

pub statements-returns : goal.statements-returns
statements-returns t c =
    let all = c.args.globals.now in
    let a = c.args.around in
    let ls = c.loop-one.locals in
    let ss = c.args.list.now in
    let none : drop c.loop-one.one-index ss ≡ [] = grind (arith, common_steps) in
    c.loop-one.invariant (Ok tt) ls
    (ends-along ls ls (judged [] ls) _ (Ok tt) (ap (λ xs. rules_of_all xs all a ls) none) (record { tells = refl; leaves = (refl, prefix-same ls) }))

pub statement-returns-in-Call : goal.statement-returns-in-Call
statement-returns-in-Call t c =
    let all = c.args.globals.now in
    let ls = c.args.locals.now in
    let w = c.in-Call in
    let parts = all_of (call_findings all ls w.name c.args.statement.now.line true (map (findings all ls) w.values)) in
    ends-along ls ls (judged parts ls) _ c.told-in-Call.result (rules-call c.args.statement.now all c.args.around ls w.name w.values w.is) (c.told-in-Call.ensures parts ls c.call_statement.ensures)

pub statement-returns-in-Print : goal.statement-returns-in-Print
statement-returns-in-Print t c =
    let all = c.args.globals.now in
    let ls = c.args.locals.now in
    let w = c.in-Print in
    let parts = print_rules all ls c.args.statement.now.line w.format w.values in
    ends-along ls ls (judged parts ls) _ c.told-in-Print.result (rules-print c.args.statement.now all c.args.around ls w.format w.values w.is) (c.told-in-Print.ensures parts ls c.print.ensures)
