use Rattle.std.proofs.Common.{◌≡◌, ◌∙◌, codes, sym, true, false}
use Rattle.oss_grammar.specs.Reading.{begins, has}
use Rattle.oss_expressions.specs.ExpressionReading.{read_more}
use Rattle.oss_expressions.specs.TokenValues.{symbol_at}
use Rattle.oss_expressions.proofs.ExpressionLoops.{reads_as_err}
use Rattle.oss_pragma.proofs.PragmaLoops.{repeats_sections}
use Rattle.oss_pragma.proofs.sections.more_sections.Goals as goal

pub returns-in-Err : goal.returns-in-Err
unfolding read_more
returns-in-Err c =
    let starts : begins (has (symbol_at (codes ","))) c.sections.tokens ≡ true = sym c.begins_with_symbol.ensures ∙ c.sections-test.true in
    reads_as_err _ _ c.in-Err.unread _ c.in-Err.ensures (λ why e. sym c.sections.invariant ∙ repeats_sections.fail c.sections.found c.sections.tokens why starts e)

pub sections-smaller : goal.sections-smaller
sections-smaller c = repeats_sections.less c.sections.found c.sections.tokens c.in-Ok.next c.next_section.new.tokens c.in-Ok.ensures

pub sections-preserved : goal.sections-preserved
unfolding read_more
sections-preserved c =
    let starts : begins (has (symbol_at (codes ","))) c.sections.tokens ≡ true = sym c.begins_with_symbol.ensures ∙ c.sections-test.true in
    rw c.in_ok-push.ensures.ok (sym (repeats_sections.go c.sections.found c.sections.tokens c.in-Ok.next c.next_section.new.tokens starts c.in-Ok.ensures) ∙ c.sections.invariant)

pub returns : goal.returns
unfolding read_more
returns c =
    let stops : begins (has (symbol_at (codes ","))) c.sections.tokens ≡ false = sym c.begins_with_symbol.ensures ∙ c.sections-test.false in
    sym c.sections.invariant ∙ repeats_sections.stop c.sections.found c.sections.tokens stops
