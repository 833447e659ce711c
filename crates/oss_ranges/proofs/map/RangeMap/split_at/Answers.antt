use Rattle.oss_ranges.proofs.CutLemmas.{cut_is_cut, cut_keeps, cut_same}
use Rattle.oss_ranges.proofs.EdgeLemmas.{edges_split}
use Rattle.oss_ranges.proofs.map.RangeMap.split_at.Goals as goal

pub returns-clause-map : goal.returns-clause-map
returns-clause-map g c = λ cell. rw (c.cut.ensures.pieces, c.in_ok-prepare.ensures.same) (cut_same c.args.cell cell c.args.self.now.pieces)

pub returns-clause-cuts : goal.returns-clause-cuts
returns-clause-cuts g c =
    let rising = rw c.in_ok-prepare.ensures.same at c.in_ok-prepare.ensures.rising in
    rw (c.cut.ensures.pieces, c.in_ok-prepare.ensures.same) (cut_is_cut 0 1048576 c.args.cell c.args.self.now.pieces rising, λ other cut. cut_keeps c.args.cell other c.args.self.now.pieces cut)

pub returns-clause-edges : goal.returns-clause-edges
returns-clause-edges g c = rw (c.cut.ensures.pieces, c.in_ok-prepare.ensures.same) (edges_split c.args.cell c.args.self.now.pieces)
