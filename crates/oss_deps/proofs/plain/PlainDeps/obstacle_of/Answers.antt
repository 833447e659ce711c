use Rattle.std.proofs.Common.{ap, subst, ◌∙◌, List}
use Rattle.std.specs.Prelude.{vec_capacity}
use Rattle.oss_deps.specs.declared.opened.Open.{Open}
use Rattle.oss_deps.specs.Kept.{Kept}
use Rattle.oss_deps.specs.Columns.{IsNumberOf}
use Rattle.oss_deps.proofs.AskLemmas.{standing_of, main_met, task_obstacle}
use Rattle.oss_deps.proofs.plain.PlainDeps.obstacle_of.Goals as goal

pub returns-then-number-eq0 : goal.returns-then-number-eq0
returns-then-number-eq0 c = main_met c.args.self.now (standing_of (record { opens = c.self.inside.opens.items; pieces = c.self.inside.map.pieces; columns = c.self.inside.columns.items; ended = c.self.inside.ended; reserved = c.self.inside.reserved }) c.args.self.now (vec_capacity c.self.inside.opens) c.self.view_is c.self.invariant) c.in-Some.number c.args.task.0 (subst (λ (xs : List Open). IsNumberOf xs c.in-Some.number c.args.task.0) (c.as_slice.ensures.value ∙ ap (λ (k : Kept). k.opens) c.self.view_is) c.in-Some.ensures.found) c.if-number-eq0.true

pub returns-else-number-eq0 : goal.returns-else-number-eq0
returns-else-number-eq0 c = task_obstacle c.args.self.now (standing_of (record { opens = c.self.inside.opens.items; pieces = c.self.inside.map.pieces; columns = c.self.inside.columns.items; ended = c.self.inside.ended; reserved = c.self.inside.reserved }) c.args.self.now (vec_capacity c.self.inside.opens) c.self.view_is c.self.invariant) c.in-Some.number c.args.task.0 (subst (λ (xs : List Open). IsNumberOf xs c.in-Some.number c.args.task.0) (c.as_slice.ensures.value ∙ ap (λ (k : Kept). k.opens) c.self.view_is) c.in-Some.ensures.found) c.if-number-eq0.false c.obstacle_to.result c.obstacle_to.ensures
