use Rattle.std.proofs.Common.{◌≡◌, ap, arith}
use Rattle.oss_ranges.proofs.CutLemmas.{cut_rises}
use Rattle.oss_ranges.proofs.flat_map.FlatMap.cut.Goals as goal

pub invariant_of-self : goal.invariant_of-self
invariant_of-self g c =
    let same : c.self.inside.spares ≡ c.args.self.now.spares = ap (λ k. k.spares) c.self.view_is in
    (rw c.part.ensures.items (cut_rises 0 1048576 c.args.cell c.self.inside.pieces.items c.self.invariant.0), omega (arith, c.self.invariant.1, c.requires, c.part.ensures.count, c.part.ensures.room))

pub returns-clause-rising : goal.returns-clause-rising
returns-clause-rising g c = rw c.part.ensures.items (cut_rises 0 1048576 c.args.cell c.self.inside.pieces.items c.self.invariant.0)
