use Rattle.std.proofs.Common.{sym, ap, subst, ◌∙◌, List, inr}
use Rattle.std.specs.Prelude.{vec_capacity}
use Rattle.oss_deps.specs.declared.opened.Open.{Open}
use Rattle.oss_deps.specs.Kept.{Kept}
use Rattle.oss_deps.specs.Opens.{IsKnown}
use Rattle.oss_deps.specs.Columns.{IsNumberOf}
use Rattle.oss_deps.proofs.AskLemmas.{standing_of, folding_named, join_told}
use Rattle.oss_deps.proofs.plain.PlainDepsDeps.may_join.Goals as goal

pub is_joinable-requires : goal.is_joinable-requires
is_joinable-requires c = folding_named c.args.self.now (standing_of (record { opens = c.self.inside.opens.items; pieces = c.self.inside.map.pieces; columns = c.self.inside.columns.items; ended = c.self.inside.ended; reserved = c.self.inside.reserved }) c.args.self.now (vec_capacity c.self.inside.opens) c.self.view_is c.self.invariant) c.in-Some.number c.args.task.0 c.args.cell (subst (λ (xs : List Open). IsNumberOf xs c.in-Some.number c.args.task.0) (c.as_slice.ensures.value ∙ ap (λ (k : Kept). k.opens) c.self.view_is) c.in-Some.ensures.found) c.requires

pub returns-clause-join : goal.returns-clause-join
returns-clause-join c = join_told c.args.self.now (standing_of (record { opens = c.self.inside.opens.items; pieces = c.self.inside.map.pieces; columns = c.self.inside.columns.items; ended = c.self.inside.ended; reserved = c.self.inside.reserved }) c.args.self.now (vec_capacity c.self.inside.opens) c.self.view_is c.self.invariant) c.in-Some.number c.args.task.0 c.args.cell (subst (λ (xs : List Open). IsNumberOf xs c.in-Some.number c.args.task.0) (c.as_slice.ensures.value ∙ ap (λ (k : Kept). k.opens) c.self.view_is) c.in-Some.ensures.found) c.requires c.is_joinable.result c.is_joinable.ensures

pub unreachable-requires : goal.unreachable-requires
unreachable-requires c =
    c.in-None.ensures.none (subst (λ (xs : List Open). IsKnown xs c.args.task.0) (sym (c.as_slice.ensures.value ∙ ap (λ (k : Kept). k.opens) c.self.view_is))
    (inr (record { entry = c.requires.opened.entry; listed = c.requires.opened.listed; number = c.requires.opened.number })))
