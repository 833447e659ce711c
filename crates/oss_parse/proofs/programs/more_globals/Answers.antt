use Rattle.std.proofs.Common.{◌≡◌, ◌∙◌, codes, sym, true, false}
use Rattle.oss_grammar.specs.Reading.{begins, has}
use Rattle.oss_expressions.specs.TokenValues.{symbol_at}
use Rattle.oss_expressions.specs.ExpressionReading.{read_more}
use Rattle.oss_expressions.proofs.ExpressionLoops.{reads_as_err}
use Rattle.oss_parse.proofs.ProgramLoops.{repeats_globals}
use Rattle.oss_parse.proofs.programs.more_globals.Goals as goal

pub returns-in-Err : goal.returns-in-Err
unfolding read_more
returns-in-Err c =
    let starts : begins (has (symbol_at (codes ","))) c.globals.tokens ≡ true = sym c.begins_with_symbol.ensures ∙ c.globals-test.true in
    reads_as_err _ _ c.in-Err.unread _ c.in-Err.ensures (λ why e. sym c.globals.invariant ∙ (repeats_globals c.args.numbers).fail c.globals.found c.globals.tokens why starts e)

pub globals-smaller : goal.globals-smaller
globals-smaller c = (repeats_globals c.args.numbers).less c.globals.found c.globals.tokens c.in-Ok.next c.next_global.new.tokens c.in-Ok.ensures

pub globals-preserved : goal.globals-preserved
unfolding read_more
globals-preserved c =
    let starts : begins (has (symbol_at (codes ","))) c.globals.tokens ≡ true = sym c.begins_with_symbol.ensures ∙ c.globals-test.true in
    rw c.in_ok-push.ensures.ok (sym ((repeats_globals c.args.numbers).go c.globals.found c.globals.tokens c.in-Ok.next c.next_global.new.tokens starts c.in-Ok.ensures) ∙ c.globals.invariant)

pub returns : goal.returns
unfolding read_more
returns c =
    let stops : begins (has (symbol_at (codes ","))) c.globals.tokens ≡ false = sym c.begins_with_symbol.ensures ∙ c.globals-test.false in
    sym c.globals.invariant ∙ (repeats_globals c.args.numbers).stop c.globals.found c.globals.tokens stops
