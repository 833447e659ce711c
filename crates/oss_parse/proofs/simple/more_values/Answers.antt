use Rattle.std.proofs.Common.{◌≡◌, ◌∙◌, codes, sym, true, false}
use Rattle.oss_grammar.specs.Reading.{begins, has}
use Rattle.oss_expressions.specs.TokenValues.{symbol_at}
use Rattle.oss_expressions.specs.ExpressionReading.{read_more}
use Rattle.oss_expressions.proofs.ExpressionLoops.{reads_as_err}
use Rattle.oss_parse.proofs.SimpleLoops.{repeats_values}
use Rattle.oss_parse.proofs.simple.more_values.Goals as goal

pub returns-in-Err : goal.returns-in-Err
unfolding read_more
returns-in-Err c =
    let starts : begins (has (symbol_at (codes ","))) c.values.tokens ≡ true = sym c.begins_with_symbol.ensures ∙ c.values-test.true in
    reads_as_err _ _ c.in-Err.unread _ c.in-Err.ensures (λ why e. sym c.values.invariant ∙ repeats_values.fail c.values.found c.values.tokens why starts e)

pub values-smaller : goal.values-smaller
values-smaller c = repeats_values.less c.values.found c.values.tokens c.in-Ok.next c.next_value.new.tokens c.in-Ok.ensures

pub values-preserved : goal.values-preserved
unfolding read_more
values-preserved c =
    let starts : begins (has (symbol_at (codes ","))) c.values.tokens ≡ true = sym c.begins_with_symbol.ensures ∙ c.values-test.true in
    rw c.in_ok-push.ensures.ok (sym (repeats_values.go c.values.found c.values.tokens c.in-Ok.next c.next_value.new.tokens starts c.in-Ok.ensures) ∙ c.values.invariant)

pub returns : goal.returns
unfolding read_more
returns c =
    let stops : begins (has (symbol_at (codes ","))) c.values.tokens ≡ false = sym c.begins_with_symbol.ensures ∙ c.values-test.false in
    sym c.values.invariant ∙ repeats_values.stop c.values.found c.values.tokens stops
