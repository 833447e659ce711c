use Rattle.std.proofs.Common.{◌≡◌, ◌∙◌, sym, ap, true, false, List, Result, Ok}
use Rattle.oss_syntax.specs.declared.token.Token.{Token}
use Rattle.oss_syntax.specs.declared.tree.pragma.Clause.{Clause}
use Rattle.oss_grammar.specs.Reading.{Stop, begins, go_on}
use Rattle.oss_expressions.specs.declared.kinds.TaskKind.{TaskKind}
use Rattle.oss_expressions.proofs.ExpressionLoops.{reads_as_err}
use Rattle.oss_pragma.specs.PragmaReading.{counted_with, found_of, goes_on_with_clause, read_clauses, read_all_clauses}
use Rattle.oss_pragma.proofs.OnceLemmas.{counted_more, found_counted}
use Rattle.oss_pragma.proofs.PragmaLoops.{repeats_clauses}
use Rattle.oss_pragma.proofs.clauses.clauses.Goals as goal

-- what is told of the clauses with what stands before them, told of them alone
abbrev alone : TaskKind → Result (List Clause × List Token) Stop → Result (List Clause × List Token) Stop
alone kind o = go_on {B = List Clause} o (λ found rest. Ok (found_of kind found, rest))

pub returns-in-Err : goal.returns-in-Err
unfolding read_clauses read_all_clauses
returns-in-Err c =
    let starts : begins (goes_on_with_clause (counted_with c.args.kind c.clauses.found)) c.clauses.tokens ≡ true = sym c.goes_on.ensures ∙ c.clauses-test.true in
    reads_as_err _ _ c.in-Err.unread _ c.in-Err.ensures (λ why e. ap (alone c.args.kind) (sym c.clauses.invariant ∙ repeats_clauses.fail (counted_with c.args.kind c.clauses.found) c.clauses.tokens why starts e))

pub clauses-smaller : goal.clauses-smaller
clauses-smaller c = repeats_clauses.less (counted_with c.args.kind c.clauses.found) c.clauses.tokens c.in-Ok.next c.next_clause.new.tokens c.in-Ok.ensures

pub clauses-preserved : goal.clauses-preserved
unfolding read_clauses
clauses-preserved c =
    let starts : begins (goes_on_with_clause (counted_with c.args.kind c.clauses.found)) c.clauses.tokens ≡ true = sym c.goes_on.ensures ∙ c.clauses-test.true in
    rw (c.in_ok-push.ensures, sym (counted_more c.args.kind c.clauses.found c.in-Ok.next))
    (sym (repeats_clauses.go (counted_with c.args.kind c.clauses.found) c.clauses.tokens c.in-Ok.next c.next_clause.new.tokens starts c.in-Ok.ensures) ∙ c.clauses.invariant)

pub returns : goal.returns
unfolding read_clauses read_all_clauses
returns c =
    let stops : begins (goes_on_with_clause (counted_with c.args.kind c.clauses.found)) c.clauses.tokens ≡ false = sym c.goes_on.ensures ∙ c.clauses-test.false in
    rw c.into_list.ensures
    (ap (alone c.args.kind) (sym c.clauses.invariant ∙ repeats_clauses.stop (counted_with c.args.kind c.clauses.found) c.clauses.tokens stops)
    ∙ ap (λ found. Ok (found, c.clauses.tokens)) (found_counted c.args.kind c.clauses.found))
