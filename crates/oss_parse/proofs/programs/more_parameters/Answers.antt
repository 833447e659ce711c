use Rattle.std.proofs.Common.{◌≡◌, ◌∙◌, codes, sym, true, false}
use Rattle.oss_grammar.specs.Reading.{begins, has}
use Rattle.oss_expressions.specs.TokenValues.{symbol_at}
use Rattle.oss_expressions.specs.ExpressionReading.{read_more}
use Rattle.oss_expressions.proofs.ExpressionLoops.{reads_as_err}
use Rattle.oss_parse.proofs.ProgramLoops.{repeats_parameters}
use Rattle.oss_parse.proofs.programs.more_parameters.Goals as goal

pub returns-in-Err : goal.returns-in-Err
unfolding read_more
returns-in-Err c =
    let starts : begins (has (symbol_at (codes ","))) c.parameters.tokens ≡ true = sym c.begins_with_symbol.ensures ∙ c.parameters-test.true in
    reads_as_err _ _ c.in-Err.unread _ c.in-Err.ensures (λ why e. sym c.parameters.invariant ∙ repeats_parameters.fail c.parameters.found c.parameters.tokens why starts e)

pub parameters-smaller : goal.parameters-smaller
parameters-smaller c = repeats_parameters.less c.parameters.found c.parameters.tokens c.in-Ok.next c.next_parameter.new.tokens c.in-Ok.ensures

pub parameters-preserved : goal.parameters-preserved
unfolding read_more
parameters-preserved c =
    let starts : begins (has (symbol_at (codes ","))) c.parameters.tokens ≡ true = sym c.begins_with_symbol.ensures ∙ c.parameters-test.true in
    rw c.in_ok-push.ensures.ok (sym (repeats_parameters.go c.parameters.found c.parameters.tokens c.in-Ok.next c.next_parameter.new.tokens starts c.in-Ok.ensures) ∙ c.parameters.invariant)

pub returns : goal.returns
unfolding read_more
returns c =
    let stops : begins (has (symbol_at (codes ","))) c.parameters.tokens ≡ false = sym c.begins_with_symbol.ensures ∙ c.parameters-test.false in
    sym c.parameters.invariant ∙ repeats_parameters.stop c.parameters.found c.parameters.tokens stops
