use Rattle.std.proofs.Common.{◌≡◌, ◌<◌, sym, ap, ◌∙◌, List, ◌++◌, ◌∷◌, [], length, set, arith, Some}
use Rattle.std.specs.Prelude.{slice_get}
use Rattle.oss_deps.proofs.Basics.{same_at}
use Rattle.oss_fragments.specs.declared.fragment.Fragment.{Fragment}
use Rattle.oss_fragments.specs.Here.{here_of}
use Rattle.oss_fragments.proofs.StretchLemmas.{fragment_read, inside, inside_within}
use Rattle.oss_fragments.proofs.DivideLemmas.{assigned_as, divided_of}
use Rattle.oss_fragments.proofs.splitting.divide.Goals as goal

pub invariant_of-assign : goal.invariant_of-assign
invariant_of-assign c =
    let part = c.in_ok-part.ensures in
    let l : c.args.at < length c.reserve-2.new.self.items = omega (arith, inside_within c.args.map.now.pieces c.args.fragments.now.items c.args.at c.args.cell c.requires.are c.requires.here, ap length c.reserve-2.ensures.items) in
    let read : slice_get c.args.fragments.now.items c.args.at ≡ Some c.index.result.now = ap (λ (xs : List Fragment). slice_get xs c.args.at) (sym c.reserve-2.ensures.items) ∙ fragment_read c.reserve-2.new.self.items c.args.at c.index.result.now l c.index.ensures in
    let k = inside c.args.map.now.pieces c.args.fragments.now.items c.args.at c.args.cell c.index.result.now c.requires.are c.requires.here read in
    let f = c.requires.are.right c.args.at c.index.result.now read in
    record { ordered = omega (arith, k.1, part.hi); within = omega (arith, f.within, part.hi) }

pub index_mut-requires : goal.index_mut-requires
index_mut-requires c = omega (arith, inside_within c.args.map.now.pieces c.args.fragments.now.items c.args.at c.args.cell c.requires.are c.requires.here, ap length c.reserve-2.ensures.items, c.reserve-2.new.self.ok.0)

pub returns-clause-ok : goal.returns-clause-ok
returns-clause-ok c =
    let part = c.in_ok-part.ensures in
    let l : c.args.at < length c.reserve-2.new.self.items = omega (arith, inside_within c.args.map.now.pieces c.args.fragments.now.items c.args.at c.args.cell c.requires.are c.requires.here, ap length c.reserve-2.ensures.items) in
    let old_is : slice_get c.args.fragments.now.items c.args.at ≡ Some c.index_mut.result.now = ap (λ (xs : List Fragment). slice_get xs c.args.at) (sym c.reserve-2.ensures.items) ∙ fragment_read c.reserve-2.new.self.items c.args.at c.index_mut.result.now l c.index_mut.ensures.value in
    let same : c.index.result.now ≡ c.index_mut.result.now = same_at (fragment_read c.reserve-2.new.self.items c.args.at c.index.result.now l c.index.ensures) (fragment_read c.reserve-2.new.self.items c.args.at c.index_mut.result.now l c.index_mut.ensures.value) in
    let hi : c.in_ok-part.part.hi ≡ c.index_mut.result.now.hi = part.hi ∙ ap (λ (x : Fragment). x.hi) same in
    divided_of c.args.map.now.pieces c.args.fragments.now.items c.assign.new.self.pieces c.push_reserved.new.self.items c.args.at c.args.cell c.index_mut.result.now c.in_ok-part.part
    old_is (c.requires.begins c.index_mut.result.now old_is)
    (inside c.args.map.now.pieces c.args.fragments.now.items c.args.at c.args.cell c.index_mut.result.now c.requires.are c.requires.here old_is).1
    (c.push_reserved.ensures.items ∙ ap (λ (xs : List Fragment). set xs c.args.at (record c.index_mut.result.now { hi = c.args.cell }) ++ c.in_ok-part.part ∷ []) c.reserve-2.ensures.items)
    part.lo hi part.asked (part.here ∙ ap here_of same) (part.settled ∙ ap (λ (x : Fragment). x.line.head) same) part.room
    (assigned_as c.args.cell c.in_ok-part.part.hi c.index_mut.result.now.hi c.len-new.result (length c.args.fragments.now.items) c.reserve.new.self.pieces c.args.map.now.pieces c.assign.new.self.pieces c.in_ok-assign.ensures.map
    hi (omega (arith, c.len-new.ensures, c.reserve-2.new.self.ok.0, ap length c.reserve-2.ensures.items)) c.reserve.ensures.same)
