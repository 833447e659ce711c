use Rattle.std.proofs.Common.{arith}
use Rattle.oss_ranges.proofs.MapLemmas.{outside_rises}
use Rattle.oss_ranges.proofs.flat_map.FlatMap.remove.Goals as goal

pub invariant_of-self : goal.invariant_of-self
invariant_of-self g c =
    (rw c.clear_out.ensures.items (outside_rises 0 1048576 c.args.lo c.args.hi c.self.inside.pieces.items c.self.invariant.0), omega (arith, c.self.invariant.1, c.clear_out.ensures.count, c.clear_out.ensures.room))

pub returns-clause-rising : goal.returns-clause-rising
returns-clause-rising g c = rw c.clear_out.ensures.items (outside_rises 0 1048576 c.args.lo c.args.hi c.self.inside.pieces.items c.self.invariant.0)
