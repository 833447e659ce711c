use Rattle.std.proofs.Common.{arith, sym, ◌∙◌}
use Rattle.oss_lex.proofs.Walk.{left_step, step_room, step_shorter, left_end, left_fault}
use Rattle.oss_lex.proofs.reader.tokens.Goals as goal

pub overflow_cast-line : goal.overflow_cast-line
overflow_cast-line c = omega (arith, step_room _ _ _ _ _ _ c.in-Ok.ensures, c.text.invariant.room)

pub overflow_add-line : goal.overflow_add-line
overflow_add-line c = omega (arith, step_room _ _ _ _ _ _ c.in-Ok.ensures, c.text.invariant.room)

pub text-smaller : goal.text-smaller
text-smaller c = omega (arith, step_shorter _ _ _ _ _ _ c.in-Ok.ensures)

pub text-preserved : goal.text-preserved
text-preserved c =
    rw c.in_ok-keep-in-Ok.ensures (left_step _ _ _ _ _ _ _ _ _ c.text.invariant c.in-Ok.ensures)

pub returns-in-Err : goal.returns-in-Err
returns-in-Err c = record { reading = left_fault _ _ _ _ _ _ c.text.invariant (sym c.is_empty.ensures ∙ c.text-test.true) c.in-Err.ensures }

pub returns : goal.returns
returns c = record { reading = left_end _ _ _ _ _ c.text.invariant (sym c.is_empty.ensures ∙ c.text-test.false) }
