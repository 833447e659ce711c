use Rattle.std.proofs.Common.{◌≡◌, ◌<◌, ◌∙◌, arith, subst, sym, true, false, refl}
use Rattle.oss_grammar.specs.Reading.{begins}
use Rattle.oss_expressions.specs.Told.{ReadsAs}
use Rattle.oss_expressions.proofs.ExpressionLoops.{reads_as_err}
use Rattle.oss_parse.specs.Inner.{read_parts_behind}
use Rattle.oss_parse.specs.StatementReading.{begins_item, read_directed, read_items_by}
use Rattle.oss_parse.proofs.StatementLoops.{part_some, repeats_parts}
use Rattle.oss_parse.proofs.statements.+statement.Goals as goal

pub parts-parts-init : goal.parts-parts-init
unfolding read_parts_behind read_items_by
parts-parts-init t c = rw c.new-found.ensures refl

pub parts-returns-in-Err : goal.parts-returns-in-Err
unfolding read_parts_behind
parts-returns-in-Err t c =
    let starts : begins begins_item c.parts.tokens ≡ true = sym c.begins_with_item.ensures ∙ c.parts-test.true in
    reads_as_err _ _ c.in-Err.unread _ c.in-Err.ensures (λ why e. sym c.parts.invariant ∙ (repeats_parts c.args.levels).fail c.parts.found c.parts.tokens why starts e)

pub parts-parts-smaller : goal.parts-parts-smaller
parts-parts-smaller t c = (repeats_parts c.args.levels).less c.parts.found c.parts.tokens c.in-Ok.next c.part.new.tokens c.in-Ok.ensures

pub parts-parts-preserved : goal.parts-parts-preserved
unfolding read_parts_behind
parts-parts-preserved t c =
    let starts : begins begins_item c.parts.tokens ≡ true = sym c.begins_with_item.ensures ∙ c.parts-test.true in
    rw c.in_ok-push.ensures.ok (sym ((repeats_parts c.args.levels).go c.parts.found c.parts.tokens c.in-Ok.next c.part.new.tokens starts c.in-Ok.ensures) ∙ c.parts.invariant)

pub parts-returns : goal.parts-returns
unfolding read_parts_behind
parts-returns t c =
    let stops : begins begins_item c.parts.tokens ≡ false = sym c.begins_with_item.ensures ∙ c.parts-test.false in
    sym c.parts.invariant ∙ (repeats_parts c.args.levels).stop c.parts.found c.parts.tokens stops

pub part-returns : goal.part-returns
part-returns t c =
    let some : 0 < c.args.levels = omega arith in
    subst (λ read. ReadsAs read c.item.result c.item.new.tokens) (sym (part_some c.args.levels c.args.tokens.now some)) c.item.ensures

pub directed-returns-in-TaskLoop : goal.directed-returns-in-TaskLoop
unfolding read_directed
directed-returns-in-TaskLoop t c = rw c.in-TaskLoop.is c.task_loop_statement.ensures
