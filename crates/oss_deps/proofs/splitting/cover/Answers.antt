use Rattle.std.proofs.Common.{◌≡◌, refl, sym, ap, ◌∙◌, List, ◌++◌, ◌∷◌, [], arith, eqb-true}
use Rattle.std.proofs.lemmas.List.{nil_from_length}
use Rattle.std.specs.Prelude.{vec_len}
use Rattle.oss_deps.specs.declared.column.Column.{Column}
use Rattle.oss_deps.proofs.DivideLemmas.{covered_finer, assigned_as}
use Rattle.oss_deps.proofs.splitting.cover.Goals as goal

pub returns-clause-finer : goal.returns-clause-finer
returns-clause-finer c =
    let b = c.in_ok-column.ensures in
    let none : c.args.columns.now.items ≡ [] = nil_from_length c.args.columns.now.items (omega (arith, eqb-true (vec_len c.args.columns.now) 0 (sym c.is_empty.ensures ∙ c.if-not-is_empty.false), c.args.columns.now.ok.0)) in
    covered_finer c.in_ok-column.column c.args.map.now.pieces c.args.columns.now.items c.assign.new.self.pieces c.push_reserved.new.self.items b.lo b.hi b.asked b.frames b.marks none
    (c.push_reserved.ensures.items ∙ ap (λ (xs : List Column). xs ++ c.in_ok-column.column ∷ []) (c.reserve-2.ensures.items ∙ none))
    (assigned_as 0 1048576 1048576 0 0 c.reserve.new.self.pieces c.args.map.now.pieces c.assign.new.self.pieces c.in_ok-assign.ensures.map refl refl c.reserve.ensures.same) c.requires
