use Rattle.oss_ranges.proofs.JoinLemmas.{joined_map}
use Rattle.oss_ranges.specs.Stores.{kept_of}
use Rattle.oss_ranges.proofs.map.RangeMap.join_at.Goals as goal

pub returns-clause-map : goal.returns-clause-map
returns-clause-map g c = λ cell.
    rw (c.join.ensures.pieces, ← c.self.view_is) (joined_map g.T.PartialEq.eq c.requires 0 1048576 c.args.cell cell (kept_of c.self.inside.store).pieces c.self.invariant)
