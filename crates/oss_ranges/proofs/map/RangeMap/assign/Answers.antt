use Rattle.oss_ranges.proofs.AssignLemmas.{assigned_cuts, assigned_map}
use Rattle.oss_ranges.proofs.EdgeLemmas.{edges_assigned}
use Rattle.oss_ranges.proofs.map.RangeMap.assign.Goals as goal

pub returns-clause-map : goal.returns-clause-map
returns-clause-map g c =
    rw c.in_ok-put.ensures.pieces (assigned_map (record { lo = c.args.range.lo; hi = c.args.range.hi; value = c.args.value }) c.args.self.now.pieces c.in_ok-put.ensures.rising c.args.range.ordered c.args.range.within)

pub returns-clause-cuts : goal.returns-clause-cuts
returns-clause-cuts g c =
    rw c.in_ok-put.ensures.pieces (assigned_cuts (record { lo = c.args.range.lo; hi = c.args.range.hi; value = c.args.value }) c.args.self.now.pieces c.in_ok-put.ensures.rising)

pub returns-clause-edges : goal.returns-clause-edges
returns-clause-edges g c =
    rw c.in_ok-put.ensures.pieces (edges_assigned (record { lo = c.args.range.lo; hi = c.args.range.hi; value = c.args.value }) c.args.self.now.pieces)
