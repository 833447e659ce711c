use Rattle.std.proofs.Common.{◌≡◌, ◌<◌, ◌∙◌, arith, codes, subst, sym, true, false}
use Rattle.oss_grammar.specs.Reading.{begins, has}
use Rattle.oss_expressions.specs.ExpressionReading.{read_more, read_operations}
use Rattle.oss_expressions.specs.TokenValues.{operator_at, symbol_at}
use Rattle.oss_expressions.specs.Told.{ReadsAs}
use Rattle.oss_expressions.proofs.ExpressionLoops.{above_fail, above_go, above_none, reads_as_err, repeats_operations, repeats_values, unary_some, whole_some}
use Rattle.oss_expressions.proofs.expressions.+expression.Goals as goal

pub more_values-returns-in-Err-clause-value : goal.more_values-returns-in-Err-clause-value
unfolding read_more
more_values-returns-in-Err-clause-value t c =
    let starts : begins (has (symbol_at (codes ","))) c.values.tokens.seen ≡ true = sym c.begins_with_symbol.ensures ∙ c.values-test.true in
    reads_as_err _ _ c.in-Err.unread _ c.in-Err.ensures.value (λ why e. sym c.values.invariant.same ∙ (repeats_values c.args.levels).fail c.values.found c.values.tokens.seen why starts e)

pub more_values-values-smaller : goal.more_values-values-smaller
more_values-values-smaller t c = (repeats_values c.args.levels).less c.values.found c.values.tokens.seen c.in-Ok.next c.next_value.new.tokens.seen c.in-Ok.ensures.value

pub more_values-values-preserved : goal.more_values-values-preserved
unfolding read_more
more_values-values-preserved t c =
    let starts : begins (has (symbol_at (codes ","))) c.values.tokens.seen ≡ true = sym c.begins_with_symbol.ensures ∙ c.values-test.true in
    record {
      same = rw c.in_ok-push.ensures.ok (sym ((repeats_values c.args.levels).go c.values.found c.values.tokens.seen c.in-Ok.next c.next_value.new.tokens.seen starts c.in-Ok.ensures.value) ∙ c.values.invariant.same);
      behind = c.in-Ok.ensures.behind ∙ c.values.invariant.behind;
    }

pub more_values-returns-clause-value : goal.more_values-returns-clause-value
unfolding read_more
more_values-returns-clause-value t c =
    let stops : begins (has (symbol_at (codes ","))) c.values.tokens.seen ≡ false = sym c.begins_with_symbol.ensures ∙ c.values-test.false in
    sym c.values.invariant.same ∙ (repeats_values c.args.levels).stop c.values.found c.values.tokens.seen stops

pub operations-returns-in-Err-clause-value : goal.operations-returns-in-Err-clause-value
unfolding read_operations
operations-returns-in-Err-clause-value t c =
    let starts : begins (has (operator_at c.args.level)) c.operations.tokens.seen ≡ true = sym c.begins_with_operator.ensures ∙ c.operations-test.true in
    reads_as_err _ _ c.in-Err.unread _ c.in-Err.ensures.value (λ why e. sym c.operations.invariant.same ∙ (repeats_operations c.args.level c.args.more c.args.levels).fail c.operations.value c.operations.tokens.seen why starts e)

pub operations-operations-smaller : goal.operations-operations-smaller
operations-operations-smaller t c =
    (repeats_operations c.args.level c.args.more c.args.levels).less c.operations.value c.operations.tokens.seen c.in-Ok.operation c.operation.new.tokens.seen c.in-Ok.ensures.value

pub operations-operations-preserved : goal.operations-operations-preserved
unfolding read_operations
operations-operations-preserved t c =
    let starts : begins (has (operator_at c.args.level)) c.operations.tokens.seen ≡ true = sym c.begins_with_operator.ensures ∙ c.operations-test.true in
    record {
      same = rw c.in_ok-value.ensures (sym ((repeats_operations c.args.level c.args.more c.args.levels).go c.operations.value c.operations.tokens.seen c.in-Ok.operation c.operation.new.tokens.seen starts c.in-Ok.ensures.value) ∙ c.operations.invariant.same);
      behind = c.in-Ok.ensures.behind ∙ c.operations.invariant.behind;
    }

pub operations-returns-clause-value : goal.operations-returns-clause-value
unfolding read_operations
operations-returns-clause-value t c =
    let stops : begins (has (operator_at c.args.level)) c.operations.tokens.seen ≡ false = sym c.begins_with_operator.ensures ∙ c.operations-test.false in
    sym c.operations.invariant.same ∙ (repeats_operations c.args.level c.args.more c.args.levels).stop c.operations.value c.operations.tokens.seen stops

pub above-returns-then-more-eq0-clause-value : goal.above-returns-then-more-eq0-clause-value
above-returns-then-more-eq0-clause-value t c =
    let none : c.args.more ≡ 0 = omega arith in
    subst (λ read. ReadsAs read c.operand.result c.operand.new.tokens.seen) (sym (rw none (above_none c.args.levels c.args.tokens.now.seen))) c.operand.ensures.value

pub above-returns-in-Err-clause-value : goal.above-returns-in-Err-clause-value
above-returns-in-Err-clause-value t c =
    let some : 0 < c.args.more = omega arith in
    reads_as_err _ _ c.in-Err.unread _ c.in-Err.ensures.value (λ why e. above_fail c.args.more c.args.levels c.args.tokens.now.seen why some e)

pub above-returns-clause-value : goal.above-returns-clause-value
above-returns-clause-value t c =
    let some : 0 < c.args.more = omega arith in
    subst (λ read. ReadsAs read c.operations.result c.operations.new.tokens.seen) (sym (above_go c.args.more c.args.levels c.args.tokens.now.seen c.in-Ok.left c.above.new.tokens.seen some c.in-Ok.ensures.value)) c.operations.ensures.value

pub unary-returns-clause-value : goal.unary-returns-clause-value
unary-returns-clause-value t c =
    let some : 0 < c.args.levels = omega arith in
    subst (λ read. ReadsAs read c.operand.result c.operand.new.tokens.seen) (sym (unary_some c.args.levels c.args.tokens.now.seen some)) c.operand.ensures.value

pub whole-returns-clause-value : goal.whole-returns-clause-value
whole-returns-clause-value t c =
    let some : 0 < c.args.levels = omega arith in
    subst (λ read. ReadsAs read c.above.result c.above.new.tokens.seen) (sym (whole_some c.args.levels c.args.tokens.now.seen some)) c.above.ensures.value
