use Rattle.std.proofs.Common.{◌<◌, ℕ, sym, subst, arith, length}
use Rattle.oss_fragments.specs.Here.{MayHang}
use Rattle.oss_fragments.specs.Stretches.{IsDivided}
use Rattle.oss_fragments.specs.Changes.{AreWalked, IsOpenedIn}
use Rattle.oss_fragments.proofs.StretchLemmas.{fragment_read, read_some}
use Rattle.oss_fragments.proofs.WalkLemmas.{walk_begins, visit_place, visit_within, visit_old, visit_in, visit_end, visit_divides, visit_goes}
use Rattle.oss_fragments.proofs.opening.open_over.Goals as goal

pub fragments-init : goal.fragments-init
fragments-init c = record { walked = walk_begins (IsOpenedIn c.args.number c.args.parent c.args.access.mode) c.args.access.range.lo c.args.fragments.now.items; from = omega arith; upto = omega (arith, c.args.access.range.ordered); divided = c.requires.ready.begins }

pub place_at-at-requires : goal.place_at-at-requires
place_at-at-requires c = visit_place (IsOpenedIn c.args.number c.args.parent c.args.access.mode) c.args.map.now.pieces c.args.fragments.now.items c.fragments.fragments.items c.args.access.range.lo c.fragments.cell c.requires.are c.fragments.invariant.walked c.fragments.invariant.from c.fragments.invariant.divided c.requires.some c.args.access.range.hi c.fragments-test.true c.args.access.range.within

pub index_mut-fragment-requires : goal.index_mut-fragment-requires
index_mut-fragment-requires c = omega (arith, visit_within (IsOpenedIn c.args.number c.args.parent c.args.access.mode) c.args.map.now.pieces c.args.fragments.now.items c.fragments.fragments.items c.args.access.range.lo c.fragments.cell c.requires.are c.fragments.invariant.walked c.fragments.invariant.from c.fragments.invariant.divided c.place_at-at.result c.place_at-at.ensures, c.fragments.fragments.ok.0)

pub open-requires-clause-right : goal.open-requires-clause-right
open-requires-clause-right c =
    let l : c.place_at-at.result < length c.fragments.fragments.items = visit_within (IsOpenedIn c.args.number c.args.parent c.args.access.mode) c.args.map.now.pieces c.args.fragments.now.items c.fragments.fragments.items c.args.access.range.lo c.fragments.cell c.requires.are c.fragments.invariant.walked c.fragments.invariant.from c.fragments.invariant.divided c.place_at-at.result c.place_at-at.ensures in
    let is = fragment_read c.fragments.fragments.items c.place_at-at.result c.index_mut-fragment.result.now l c.index_mut-fragment.ensures.value in
    c.requires.are.right c.place_at-at.result c.index_mut-fragment.result.now (visit_old (IsOpenedIn c.args.number c.args.parent c.args.access.mode) c.args.map.now.pieces c.args.fragments.now.items c.fragments.fragments.items c.args.access.range.lo c.fragments.cell c.requires.are c.fragments.invariant.walked c.fragments.invariant.from c.fragments.invariant.divided c.place_at-at.result c.place_at-at.ensures c.index_mut-fragment.result.now is)

pub open-requires-clause-may : goal.open-requires-clause-may
open-requires-clause-may c =
    let l : c.place_at-at.result < length c.fragments.fragments.items = visit_within (IsOpenedIn c.args.number c.args.parent c.args.access.mode) c.args.map.now.pieces c.args.fragments.now.items c.fragments.fragments.items c.args.access.range.lo c.fragments.cell c.requires.are c.fragments.invariant.walked c.fragments.invariant.from c.fragments.invariant.divided c.place_at-at.result c.place_at-at.ensures in
    let is = fragment_read c.fragments.fragments.items c.place_at-at.result c.index_mut-fragment.result.now l c.index_mut-fragment.ensures.value in
    let was = visit_old (IsOpenedIn c.args.number c.args.parent c.args.access.mode) c.args.map.now.pieces c.args.fragments.now.items c.fragments.fragments.items c.args.access.range.lo c.fragments.cell c.requires.are c.fragments.invariant.walked c.fragments.invariant.from c.fragments.invariant.divided c.place_at-at.result c.place_at-at.ensures c.index_mut-fragment.result.now is in
    subst (λ h. MayHang c.args.number c.args.parent c.args.access.mode h) (read_some c.args.map.now.pieces c.args.fragments.now.items c.fragments.cell c.place_at-at.result c.index_mut-fragment.result.now c.place_at-at.ensures was) (c.requires.may c.fragments.cell c.fragments.invariant.from c.fragments-test.true)

pub open-requires-clause-room : goal.open-requires-clause-room
open-requires-clause-room c =
    let l : c.place_at-at.result < length c.fragments.fragments.items = visit_within (IsOpenedIn c.args.number c.args.parent c.args.access.mode) c.args.map.now.pieces c.args.fragments.now.items c.fragments.fragments.items c.args.access.range.lo c.fragments.cell c.requires.are c.fragments.invariant.walked c.fragments.invariant.from c.fragments.invariant.divided c.place_at-at.result c.place_at-at.ensures in
    let is = fragment_read c.fragments.fragments.items c.place_at-at.result c.index_mut-fragment.result.now l c.index_mut-fragment.ensures.value in
    let k = visit_in (IsOpenedIn c.args.number c.args.parent c.args.access.mode) c.args.map.now.pieces c.args.fragments.now.items c.fragments.fragments.items c.args.access.range.lo c.fragments.cell c.requires.are c.fragments.invariant.walked c.fragments.invariant.from c.fragments.invariant.divided c.place_at-at.result c.place_at-at.ensures c.index_mut-fragment.result.now is in
    c.requires.ready.room c.place_at-at.result c.index_mut-fragment.result.now (visit_old (IsOpenedIn c.args.number c.args.parent c.args.access.mode) c.args.map.now.pieces c.args.fragments.now.items c.fragments.fragments.items c.args.access.range.lo c.fragments.cell c.requires.are c.fragments.invariant.walked c.fragments.invariant.from c.fragments.invariant.divided c.place_at-at.result c.place_at-at.ensures c.index_mut-fragment.result.now is) (omega (arith, k.1, c.fragments.invariant.from)) (omega (arith, k.0, c.fragments-test.true))

pub fragments-smaller : goal.fragments-smaller
fragments-smaller c =
    let l : c.place_at-at.result < length c.fragments.fragments.items = visit_within (IsOpenedIn c.args.number c.args.parent c.args.access.mode) c.args.map.now.pieces c.args.fragments.now.items c.fragments.fragments.items c.args.access.range.lo c.fragments.cell c.requires.are c.fragments.invariant.walked c.fragments.invariant.from c.fragments.invariant.divided c.place_at-at.result c.place_at-at.ensures in
    let is = fragment_read c.fragments.fragments.items c.place_at-at.result c.index_mut-fragment.result.now l c.index_mut-fragment.ensures.value in
    omega (arith, (visit_in (IsOpenedIn c.args.number c.args.parent c.args.access.mode) c.args.map.now.pieces c.args.fragments.now.items c.fragments.fragments.items c.args.access.range.lo c.fragments.cell c.requires.are c.fragments.invariant.walked c.fragments.invariant.from c.fragments.invariant.divided c.place_at-at.result c.place_at-at.ensures c.index_mut-fragment.result.now is).1, c.open.ensures.edges.hi, c.fragments-test.true)

pub fragments-preserved : goal.fragments-preserved
fragments-preserved c =
    let l : c.place_at-at.result < length c.fragments.fragments.items = visit_within (IsOpenedIn c.args.number c.args.parent c.args.access.mode) c.args.map.now.pieces c.args.fragments.now.items c.fragments.fragments.items c.args.access.range.lo c.fragments.cell c.requires.are c.fragments.invariant.walked c.fragments.invariant.from c.fragments.invariant.divided c.place_at-at.result c.place_at-at.ensures in
    let is = fragment_read c.fragments.fragments.items c.place_at-at.result c.index_mut-fragment.result.now l c.index_mut-fragment.ensures.value in
    record {
      walked = visit_goes (IsOpenedIn c.args.number c.args.parent c.args.access.mode) c.args.map.now.pieces c.args.fragments.now.items c.fragments.fragments.items c.args.access.range.lo c.fragments.cell c.requires.are c.fragments.invariant.walked c.fragments.invariant.from c.fragments.invariant.divided c.place_at-at.result c.place_at-at.ensures c.index_mut-fragment.result.now is c.open.new.self c.open.ensures.edges c.open.ensures.opened;
      from = omega (arith, (visit_in (IsOpenedIn c.args.number c.args.parent c.args.access.mode) c.args.map.now.pieces c.args.fragments.now.items c.fragments.fragments.items c.args.access.range.lo c.fragments.cell c.requires.are c.fragments.invariant.walked c.fragments.invariant.from c.fragments.invariant.divided c.place_at-at.result c.place_at-at.ensures c.index_mut-fragment.result.now is).1, c.open.ensures.edges.hi, c.fragments.invariant.from);
      upto = omega (arith, visit_end (IsOpenedIn c.args.number c.args.parent c.args.access.mode) c.args.map.now.pieces c.args.fragments.now.items c.fragments.fragments.items c.args.access.range.lo c.fragments.cell c.requires.are c.fragments.invariant.walked c.fragments.invariant.from c.fragments.invariant.divided c.place_at-at.result c.place_at-at.ensures c.index_mut-fragment.result.now is c.args.access.range.hi c.requires.ready.ends c.fragments-test.true, c.open.ensures.edges.hi);
      divided = subst (λ (x : ℕ). IsDivided c.args.fragments.now.items x) (sym c.open.ensures.edges.hi) (visit_divides (IsOpenedIn c.args.number c.args.parent c.args.access.mode) c.args.map.now.pieces c.args.fragments.now.items c.fragments.fragments.items c.args.access.range.lo c.fragments.cell c.requires.are c.fragments.invariant.walked c.fragments.invariant.from c.fragments.invariant.divided c.place_at-at.result c.place_at-at.ensures c.index_mut-fragment.result.now is);
    }

pub returns : goal.returns
returns c = subst (λ (x : ℕ). AreWalked (IsOpenedIn c.args.number c.args.parent c.args.access.mode) c.args.access.range.lo x c.args.fragments.now.items c.fragments.fragments.items) (omega (arith, c.fragments.invariant.upto, c.fragments-test.false)) c.fragments.invariant.walked
