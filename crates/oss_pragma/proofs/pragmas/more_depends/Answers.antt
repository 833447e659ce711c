use Rattle.std.proofs.Common.{◌≡◌, ◌∙◌, sym, true, false}
use Rattle.oss_grammar.specs.Reading.{begins}
use Rattle.oss_expressions.proofs.ExpressionLoops.{reads_as_err}
use Rattle.oss_pragma.specs.PragmaReading.{goes_on_with_depend, read_more_depends}
use Rattle.oss_pragma.proofs.PragmaLoops.{repeats_depends}
use Rattle.oss_pragma.proofs.pragmas.more_depends.Goals as goal

pub returns-in-Err : goal.returns-in-Err
unfolding read_more_depends
returns-in-Err c =
    let starts : begins (goes_on_with_depend c.depends.found) c.depends.tokens ≡ true = sym c.goes_on.ensures ∙ c.depends-test.true in
    reads_as_err _ _ c.in-Err.unread _ c.in-Err.ensures (λ why e. sym c.depends.invariant ∙ repeats_depends.fail c.depends.found c.depends.tokens why starts e)

pub depends-smaller : goal.depends-smaller
depends-smaller c = repeats_depends.less c.depends.found c.depends.tokens c.in-Ok.next c.next_depend.new.tokens c.in-Ok.ensures

pub depends-preserved : goal.depends-preserved
unfolding read_more_depends
depends-preserved c =
    let starts : begins (goes_on_with_depend c.depends.found) c.depends.tokens ≡ true = sym c.goes_on.ensures ∙ c.depends-test.true in
    rw c.in_ok-push.ensures.ok (sym (repeats_depends.go c.depends.found c.depends.tokens c.in-Ok.next c.next_depend.new.tokens starts c.in-Ok.ensures) ∙ c.depends.invariant)

pub returns : goal.returns
unfolding read_more_depends
returns c =
    let stops : begins (goes_on_with_depend c.depends.found) c.depends.tokens ≡ false = sym c.goes_on.ensures ∙ c.depends-test.false in
    sym c.depends.invariant ∙ repeats_depends.stop c.depends.found c.depends.tokens stops
