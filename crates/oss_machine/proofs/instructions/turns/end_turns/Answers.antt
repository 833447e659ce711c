use Rattle.std.proofs.Common.{◌≡◌, ◌≤◌, ◌++◌, true, leb, arith}
use Rattle.std.proofs.lemmas.Bool.Decides.{nat_tests}
use Rattle.oss_sections.specs.RangeCells.{cells_of}
use Rattle.oss_meaning.specs.Sections.{ranges_of}
use Rattle.oss_machine.specs.Activations.{before}
use Rattle.oss_machine.proofs.instructions.turns.end_turns.Goals as goal

pub returns : goal.returns
returns c =
    let old = c.args.frame.now in
    let within : c.in-Some.turns.start ≤ old.at = c.if-frame-turns.false in
    let passes : leb c.in-Some.turns.start old.at ≡ true = grind (arith, nat_tests) in
    let cells : ranges_of (cells_of (before old.adds_ranges c.args.base.now.ranges.items ++ old.gathered.ranges.items)) ≡ c.in_ok-joined.joined = rw (← c.as_slice.ensures.value, ← c.ranges_before-before.ensures, ← c.as_slice-2.ensures.value) c.in_ok-joined.ensures in
    rw c.in-Some.is (rw passes (rw cells (rw c.in-Some.is at (c.leave_turns.ensures c.args.base.now.accesses.items c.args.base.now.ranges.items))))
