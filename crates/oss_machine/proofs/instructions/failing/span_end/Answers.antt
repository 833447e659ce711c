use Rattle.std.proofs.Common.{arith}
use Rattle.std.proofs.lemmas.Int.{ints}
use Rattle.oss_machine.proofs.instructions.failing.span_end.Goals as goal

pub returns : goal.returns
returns c = omega (arith, ints, c.ranges.from.sfits, c.ranges.lower.sfits, c.ranges.upper.sfits, c.from.ensures, c.from-2.ensures, c.from-3.ensures)
