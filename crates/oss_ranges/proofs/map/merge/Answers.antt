use Rattle.std.proofs.Common.{◌≡◌, Some, refl, sym, ◌∙◌, arith}
use Rattle.oss_ranges.proofs.CutLemmas.{next_within}
use Rattle.oss_ranges.proofs.JoinLemmas.{joined_map}
use Rattle.oss_ranges.proofs.MergeLemmas.{merged_all, merged_behind, merged_step}
use Rattle.oss_ranges.specs.Cells.{next_of}
use Rattle.oss_ranges.specs.Stores.{kept_of}
use Rattle.oss_ranges.proofs.map.merge.Goals as goal

pub pieces-init : goal.pieces-init
pieces-init g c = ((λ cell. refl), merged_behind g.T.PartialEq.eq 0 1048576 0 (kept_of c.args.store.now).pieces c.requires.rising (omega arith), omega arith, refl)

pub pieces-smaller : goal.pieces-smaller
pieces-smaller g c =
    let found : next_of c.pieces.from (kept_of c.pieces.store).pieces ≡ Some c.in-Some.piece = sym c.next.ensures.found ∙ c.in-Some.is in
    let at = next_within 0 1048576 c.pieces.from c.in-Some.piece (kept_of c.pieces.store).pieces c.next.ensures.rising found in
    let high = at.3 in let within = at.2 in
    omega arith

pub pieces-preserved : goal.pieces-preserved
pieces-preserved g c =
    let found : next_of c.pieces.from (kept_of c.pieces.store).pieces ≡ Some c.in-Some.piece = sym c.next.ensures.found ∙ c.in-Some.is in
    let at = next_within 0 1048576 c.pieces.from c.in-Some.piece (kept_of c.pieces.store).pieces c.next.ensures.rising found in
    rw c.join.ensures.pieces (
      (λ cell. joined_map g.T.PartialEq.eq c.requires.same 0 1048576 c.in-Some.piece.hi cell (kept_of c.pieces.store).pieces c.next.ensures.rising ∙ c.pieces.invariant.0 cell),
      merged_step g.T.PartialEq.eq 0 1048576 c.pieces.from c.in-Some.piece (kept_of c.pieces.store).pieces c.next.ensures.rising found c.pieces.invariant.1,
      at.2,
      c.join.ensures.spares ∙ c.pieces.invariant.3,
    )

pub returns-clause-map : goal.returns-clause-map
returns-clause-map g c = c.pieces.invariant.0

pub returns-clause-merged : goal.returns-clause-merged
returns-clause-merged g c = merged_all g.T.PartialEq.eq c.pieces.from (kept_of c.pieces.store).pieces (sym c.next.ensures.found ∙ c.in_default.is) c.pieces.invariant.1
