use Rattle.std.proofs.Common.{◌≡◌, ◌∙◌, refl, sym, true, false}
use Rattle.oss_grammar.specs.Reading.{begins}
use Rattle.oss_expressions.proofs.ExpressionLoops.{reads_as_err}
use Rattle.oss_parse.specs.ProgramReading.{begins_program_item, read_program_items}
use Rattle.oss_parse.proofs.ProgramLoops.{read_items_behind, repeats_items}
use Rattle.oss_parse.proofs.programs.program_items.Goals as goal

pub items-init : goal.items-init
unfolding read_items_behind read_program_items
items-init c = rw c.new-found.ensures refl

pub returns-in-Err : goal.returns-in-Err
unfolding read_items_behind
returns-in-Err c =
    let starts : begins begins_program_item c.items.tokens ≡ true = sym c.begins_with_program_item.ensures ∙ c.items-test.true in
    reads_as_err _ _ c.in-Err.unread _ c.in-Err.ensures (λ why e. sym c.items.invariant ∙ repeats_items.fail c.items.found c.items.tokens why starts e)

pub items-smaller : goal.items-smaller
items-smaller c = repeats_items.less c.items.found c.items.tokens c.in-Ok.more c.program_item.new.tokens c.in-Ok.ensures

pub items-preserved : goal.items-preserved
unfolding read_items_behind
items-preserved c =
    let starts : begins begins_program_item c.items.tokens ≡ true = sym c.begins_with_program_item.ensures ∙ c.items-test.true in
    rw c.in_ok-found.ensures (sym (repeats_items.go c.items.found c.items.tokens c.in-Ok.more c.program_item.new.tokens starts c.in-Ok.ensures) ∙ c.items.invariant)

pub returns : goal.returns
unfolding read_items_behind
returns c =
    let stops : begins begins_program_item c.items.tokens ≡ false = sym c.begins_with_program_item.ensures ∙ c.items-test.false in
    sym c.items.invariant ∙ repeats_items.stop c.items.found c.items.tokens stops
