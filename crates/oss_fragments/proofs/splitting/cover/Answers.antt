use Rattle.std.proofs.Common.{◌≡◌, refl, sym, ap, ◌∙◌, List, ◌++◌, ◌∷◌, [], arith, eqb-true}
use Rattle.std.proofs.lemmas.List.{nil_from_length}
use Rattle.std.specs.Prelude.{vec_len}
use Rattle.oss_fragments.specs.declared.fragment.Fragment.{Fragment}
use Rattle.oss_fragments.proofs.CoverLemmas.{covered_finer}
use Rattle.oss_fragments.proofs.splitting.cover.Goals as goal

pub returns-clause-finer : goal.returns-clause-finer
returns-clause-finer c =
    let b = c.in_ok-all.ensures in
    let none : c.args.fragments.now.items ≡ [] = nil_from_length c.args.fragments.now.items (omega (arith, eqb-true (vec_len c.args.fragments.now) 0 (sym c.is_empty.ensures ∙ c.if-not-is_empty.false), c.args.fragments.now.ok.0)) in
    covered_finer c.in_ok-all.all c.args.map.now.pieces c.args.fragments.now.items c.assign.new.self.pieces c.push_reserved.new.self.items b.lo b.hi b.asked b.here b.settled none
    (c.push_reserved.ensures.items ∙ ap (λ (xs : List Fragment). xs ++ c.in_ok-all.all ∷ []) (c.reserve-2.ensures.items ∙ none))
    (Rattle.oss_fragments.proofs.DivideLemmas.assigned_as 0 1048576 1048576 0 0 c.reserve.new.self.pieces c.args.map.now.pieces c.assign.new.self.pieces c.in_ok-assign.ensures.map refl refl c.reserve.ensures.same) c.requires
