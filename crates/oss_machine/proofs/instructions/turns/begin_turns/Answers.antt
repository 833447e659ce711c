use Rattle.std.proofs.Common.{◌≡◌, ◌≤◌, reverse, true, leb, arith}
use Rattle.std.proofs.lemmas.Bool.Decides.{nat_tests}
use Rattle.oss_meaning.specs.Expressions.{value_at}
use Rattle.oss_meaning.specs.Pointers.{number_in}
use Rattle.oss_machine.proofs.instructions.turns.begin_turns.Goals as goal

pub returns : goal.returns
returns c =
    let stack = reverse c.args.frame.now.stack.items in
    let first : c.number_in-first.result ≡ number_in (value_at stack 1) = rw (c.number_in-first.ensures, c.value_below.ensures, c.as_slice.ensures.value) in
    let count : c.number_in-count.result ≡ number_in (value_at stack 0) = rw (c.number_in-count.ensures, c.value_below-2.ensures, c.as_slice-2.ensures.value) in
    let few : c.number_in-count.result ≤ 1048576 = c.if-count-gt-MOST_TURNS.false in
    let passes : leb c.number_in-count.result 1048576 ≡ true = grind (arith, nat_tests) in
    λ accesses ranges. rw c.in-None.is (rw (← count) (rw (← first) (rw passes (rw c.in-None.is at (c.start_turns.ensures accesses ranges)))))
