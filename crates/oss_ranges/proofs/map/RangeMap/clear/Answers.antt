use Rattle.std.proofs.Common.{◌≡◌, false, sym, ◌∙◌}
use Rattle.oss_ranges.proofs.AssignLemmas.{emptied_cuts, emptied_map, untouched_cuts, untouched_map}
use Rattle.oss_ranges.proofs.EdgeLemmas.{edges_emptied}
use Rattle.oss_ranges.specs.Cells.{is_before, next_of}
use Rattle.oss_ranges.proofs.map.RangeMap.clear.Goals as goal

pub returns-in_ok-prepare-clause-map : goal.returns-in_ok-prepare-clause-map
returns-in_ok-prepare-clause-map g c =
    rw (c.empty.ensures.pieces, c.in_ok-prepare.ensures.same) (emptied_map c.args.range.lo c.args.range.hi c.args.self.now.pieces c.has_within.ensures.rising)

pub returns-in_ok-prepare-clause-cuts : goal.returns-in_ok-prepare-clause-cuts
returns-in_ok-prepare-clause-cuts g c =
    rw (c.empty.ensures.pieces, c.in_ok-prepare.ensures.same) (emptied_cuts c.args.range.lo c.args.range.hi c.args.self.now.pieces c.has_within.ensures.rising)

pub returns-in_ok-prepare-clause-edges : goal.returns-in_ok-prepare-clause-edges
returns-in_ok-prepare-clause-edges g c = rw (c.empty.ensures.pieces, c.in_ok-prepare.ensures.same) (edges_emptied c.args.range.lo c.args.range.hi c.args.self.now.pieces)

pub returns-else-has_within-clause-map : goal.returns-else-has_within-clause-map
returns-else-has_within-clause-map g c =
    let none : is_before (next_of c.args.range.lo c.args.self.now.pieces) c.args.range.hi ≡ false = sym c.has_within.ensures.within ∙ c.if-has_within.false in
    untouched_map c.args.range.lo c.args.range.hi c.args.self.now.pieces c.has_within.ensures.rising c.args.range.ordered none

pub returns-else-has_within-clause-cuts : goal.returns-else-has_within-clause-cuts
returns-else-has_within-clause-cuts g c =
    let none : is_before (next_of c.args.range.lo c.args.self.now.pieces) c.args.range.hi ≡ false = sym c.has_within.ensures.within ∙ c.if-has_within.false in
    untouched_cuts c.args.range.lo c.args.range.hi c.args.self.now.pieces c.has_within.ensures.rising c.args.range.ordered none
