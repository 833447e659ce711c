use Rattle.std.proofs.Common.{◌≡◌, ◌∙◌, codes, sym, true, false}
use Rattle.oss_grammar.specs.Reading.{begins, has}
use Rattle.oss_expressions.specs.TokenValues.{symbol_at}
use Rattle.oss_expressions.specs.ExpressionReading.{read_more}
use Rattle.oss_expressions.proofs.ExpressionLoops.{reads_as_err}
use Rattle.oss_parse.proofs.SimpleLoops.{repeats_locals}
use Rattle.oss_parse.proofs.simple.more_locals.Goals as goal

pub returns-in-Err : goal.returns-in-Err
unfolding read_more
returns-in-Err c =
    let starts : begins (has (symbol_at (codes ","))) c.locals.tokens ≡ true = sym c.begins_with_symbol.ensures ∙ c.locals-test.true in
    reads_as_err _ _ c.in-Err.unread _ c.in-Err.ensures (λ why e. sym c.locals.invariant ∙ (repeats_locals c.args.numbers).fail c.locals.found c.locals.tokens why starts e)

pub locals-smaller : goal.locals-smaller
locals-smaller c = (repeats_locals c.args.numbers).less c.locals.found c.locals.tokens c.in-Ok.next c.next_local.new.tokens c.in-Ok.ensures

pub locals-preserved : goal.locals-preserved
unfolding read_more
locals-preserved c =
    let starts : begins (has (symbol_at (codes ","))) c.locals.tokens ≡ true = sym c.begins_with_symbol.ensures ∙ c.locals-test.true in
    rw c.in_ok-push.ensures.ok (sym ((repeats_locals c.args.numbers).go c.locals.found c.locals.tokens c.in-Ok.next c.next_local.new.tokens starts c.in-Ok.ensures) ∙ c.locals.invariant)

pub returns : goal.returns
unfolding read_more
returns c =
    let stops : begins (has (symbol_at (codes ","))) c.locals.tokens ≡ false = sym c.begins_with_symbol.ensures ∙ c.locals-test.false in
    sym c.locals.invariant ∙ (repeats_locals c.args.numbers).stop c.locals.found c.locals.tokens stops
