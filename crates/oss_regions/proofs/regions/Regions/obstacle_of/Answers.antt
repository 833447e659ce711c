use Rattle.std.proofs.Common.{ap, subst, ◌∙◌, List}
use Rattle.oss_deps.specs.declared.opened.Open.{Open}
use Rattle.oss_deps.specs.Columns.{IsNumberOf}
use Rattle.oss_regions.specs.Kept.{Kept}
use Rattle.oss_regions.proofs.PartLemmas.{right_of}
use Rattle.oss_regions.proofs.WaitLemmas.{main_met, task_obstacle}
use Rattle.oss_regions.proofs.regions.Regions.obstacle_of.Goals as goal

pub returns-then-number-eq0 : goal.returns-then-number-eq0
returns-then-number-eq0 c =
    main_met c.args.self.now (right_of c.self.view_is c.self.invariant) c.in-Some.number c.args.task.0
    (subst (λ (xs : List Open). IsNumberOf xs c.in-Some.number c.args.task.0) (c.as_slice.ensures.value ∙ ap (λ (k : Kept). k.opens) c.self.view_is) c.in-Some.ensures.found) c.if-number-eq0.true

pub returns-else-number-eq0 : goal.returns-else-number-eq0
returns-else-number-eq0 c =
    task_obstacle c.args.self.now (right_of c.self.view_is c.self.invariant) c.in-Some.number c.args.task.0
    (subst (λ (xs : List Open). IsNumberOf xs c.in-Some.number c.args.task.0) (c.as_slice.ensures.value ∙ ap (λ (k : Kept). k.opens) c.self.view_is) c.in-Some.ensures.found) c.if-number-eq0.false
    c.obstacle_to.result c.obstacle_to.ensures
