use Rattle.std.proofs.Common.{◌<◌, ℕ, sym, subst, arith, length}
use Rattle.oss_fragments.specs.Here.{IsShown}
use Rattle.oss_fragments.specs.Stretches.{IsDivided}
use Rattle.oss_fragments.specs.Changes.{AreWalked, IsGivenIn}
use Rattle.oss_fragments.proofs.StretchLemmas.{fragment_read, read_some}
use Rattle.oss_fragments.proofs.WalkLemmas.{walk_begins, visit_place, visit_within, visit_old, visit_in, visit_end, visit_divides, visit_goes}
use Rattle.oss_fragments.proofs.giving.give_over.Goals as goal

pub fragments-init : goal.fragments-init
fragments-init c = record { walked = walk_begins (IsGivenIn c.args.number) c.args.range.lo c.args.fragments.now.items; from = omega arith; upto = omega (arith, c.args.range.ordered); divided = c.requires.begins }

pub place_at-at-requires : goal.place_at-at-requires
place_at-at-requires c = visit_place (IsGivenIn c.args.number) c.args.map.now.pieces c.args.fragments.now.items c.fragments.fragments.items c.args.range.lo c.fragments.cell c.requires.are c.fragments.invariant.walked c.fragments.invariant.from c.fragments.invariant.divided c.requires.some c.args.range.hi c.fragments-test.true c.args.range.within

pub index_mut-fragment-requires : goal.index_mut-fragment-requires
index_mut-fragment-requires c = omega (arith, visit_within (IsGivenIn c.args.number) c.args.map.now.pieces c.args.fragments.now.items c.fragments.fragments.items c.args.range.lo c.fragments.cell c.requires.are c.fragments.invariant.walked c.fragments.invariant.from c.fragments.invariant.divided c.place_at-at.result c.place_at-at.ensures, c.fragments.fragments.ok.0)

pub give-requires-clause-right : goal.give-requires-clause-right
give-requires-clause-right c =
    let l : c.place_at-at.result < length c.fragments.fragments.items = visit_within (IsGivenIn c.args.number) c.args.map.now.pieces c.args.fragments.now.items c.fragments.fragments.items c.args.range.lo c.fragments.cell c.requires.are c.fragments.invariant.walked c.fragments.invariant.from c.fragments.invariant.divided c.place_at-at.result c.place_at-at.ensures in
    let is = fragment_read c.fragments.fragments.items c.place_at-at.result c.index_mut-fragment.result.now l c.index_mut-fragment.ensures.value in
    c.requires.are.right c.place_at-at.result c.index_mut-fragment.result.now (visit_old (IsGivenIn c.args.number) c.args.map.now.pieces c.args.fragments.now.items c.fragments.fragments.items c.args.range.lo c.fragments.cell c.requires.are c.fragments.invariant.walked c.fragments.invariant.from c.fragments.invariant.divided c.place_at-at.result c.place_at-at.ensures c.index_mut-fragment.result.now is)

pub give-requires-clause-shown : goal.give-requires-clause-shown
give-requires-clause-shown c =
    let l : c.place_at-at.result < length c.fragments.fragments.items = visit_within (IsGivenIn c.args.number) c.args.map.now.pieces c.args.fragments.now.items c.fragments.fragments.items c.args.range.lo c.fragments.cell c.requires.are c.fragments.invariant.walked c.fragments.invariant.from c.fragments.invariant.divided c.place_at-at.result c.place_at-at.ensures in
    let is = fragment_read c.fragments.fragments.items c.place_at-at.result c.index_mut-fragment.result.now l c.index_mut-fragment.ensures.value in
    let was = visit_old (IsGivenIn c.args.number) c.args.map.now.pieces c.args.fragments.now.items c.fragments.fragments.items c.args.range.lo c.fragments.cell c.requires.are c.fragments.invariant.walked c.fragments.invariant.from c.fragments.invariant.divided c.place_at-at.result c.place_at-at.ensures c.index_mut-fragment.result.now is in
    subst (λ h. IsShown c.args.number h) (read_some c.args.map.now.pieces c.args.fragments.now.items c.fragments.cell c.place_at-at.result c.index_mut-fragment.result.now c.place_at-at.ensures was) (c.requires.shown c.fragments.cell c.fragments.invariant.from c.fragments-test.true)

pub fragments-smaller : goal.fragments-smaller
fragments-smaller c =
    let l : c.place_at-at.result < length c.fragments.fragments.items = visit_within (IsGivenIn c.args.number) c.args.map.now.pieces c.args.fragments.now.items c.fragments.fragments.items c.args.range.lo c.fragments.cell c.requires.are c.fragments.invariant.walked c.fragments.invariant.from c.fragments.invariant.divided c.place_at-at.result c.place_at-at.ensures in
    let is = fragment_read c.fragments.fragments.items c.place_at-at.result c.index_mut-fragment.result.now l c.index_mut-fragment.ensures.value in
    omega (arith, (visit_in (IsGivenIn c.args.number) c.args.map.now.pieces c.args.fragments.now.items c.fragments.fragments.items c.args.range.lo c.fragments.cell c.requires.are c.fragments.invariant.walked c.fragments.invariant.from c.fragments.invariant.divided c.place_at-at.result c.place_at-at.ensures c.index_mut-fragment.result.now is).1, c.give.ensures.edges.hi, c.fragments-test.true)

pub fragments-preserved : goal.fragments-preserved
fragments-preserved c =
    let l : c.place_at-at.result < length c.fragments.fragments.items = visit_within (IsGivenIn c.args.number) c.args.map.now.pieces c.args.fragments.now.items c.fragments.fragments.items c.args.range.lo c.fragments.cell c.requires.are c.fragments.invariant.walked c.fragments.invariant.from c.fragments.invariant.divided c.place_at-at.result c.place_at-at.ensures in
    let is = fragment_read c.fragments.fragments.items c.place_at-at.result c.index_mut-fragment.result.now l c.index_mut-fragment.ensures.value in
    record {
      walked = visit_goes (IsGivenIn c.args.number) c.args.map.now.pieces c.args.fragments.now.items c.fragments.fragments.items c.args.range.lo c.fragments.cell c.requires.are c.fragments.invariant.walked c.fragments.invariant.from c.fragments.invariant.divided c.place_at-at.result c.place_at-at.ensures c.index_mut-fragment.result.now is c.give.new.self c.give.ensures.edges c.give.ensures.given;
      from = omega (arith, (visit_in (IsGivenIn c.args.number) c.args.map.now.pieces c.args.fragments.now.items c.fragments.fragments.items c.args.range.lo c.fragments.cell c.requires.are c.fragments.invariant.walked c.fragments.invariant.from c.fragments.invariant.divided c.place_at-at.result c.place_at-at.ensures c.index_mut-fragment.result.now is).1, c.give.ensures.edges.hi, c.fragments.invariant.from);
      upto = omega (arith, visit_end (IsGivenIn c.args.number) c.args.map.now.pieces c.args.fragments.now.items c.fragments.fragments.items c.args.range.lo c.fragments.cell c.requires.are c.fragments.invariant.walked c.fragments.invariant.from c.fragments.invariant.divided c.place_at-at.result c.place_at-at.ensures c.index_mut-fragment.result.now is c.args.range.hi c.requires.ends c.fragments-test.true, c.give.ensures.edges.hi);
      divided = subst (λ (x : ℕ). IsDivided c.args.fragments.now.items x) (sym c.give.ensures.edges.hi) (visit_divides (IsGivenIn c.args.number) c.args.map.now.pieces c.args.fragments.now.items c.fragments.fragments.items c.args.range.lo c.fragments.cell c.requires.are c.fragments.invariant.walked c.fragments.invariant.from c.fragments.invariant.divided c.place_at-at.result c.place_at-at.ensures c.index_mut-fragment.result.now is);
    }

pub returns : goal.returns
returns c = subst (λ (x : ℕ). AreWalked (IsGivenIn c.args.number) c.args.range.lo x c.args.fragments.now.items c.fragments.fragments.items) (omega (arith, c.fragments.invariant.upto, c.fragments-test.false)) c.fragments.invariant.walked
