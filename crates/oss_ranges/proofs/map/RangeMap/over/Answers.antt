use Rattle.std.proofs.Common.{arith}
use Rattle.oss_ranges.proofs.ClipLemmas.{clip_map, clip_rises}
use Rattle.oss_ranges.specs.Stores.{kept_of}
use Rattle.oss_ranges.proofs.map.RangeMap.over.Goals as goal

pub returns-clause-map : goal.returns-clause-map
returns-clause-map g c = λ cell.
    rw (c.of.ensures, ← c.self.view_is) (clip_map 0 1048576 c.args.range.lo c.args.range.hi cell (kept_of c.self.inside.store).pieces c.self.invariant)

pub returns-clause-rising : goal.returns-clause-rising
returns-clause-rising g c =
    let own = c.args.range.ordered in
    rw c.of.ensures (clip_rises 0 1048576 c.args.range.lo c.args.range.hi c.args.range.lo (kept_of c.self.inside.store).pieces c.self.invariant (omega arith) (omega arith))
