use Rattle.std.proofs.Common.{ap, subst, ◌∙◌, List}
use Rattle.oss_deps.specs.declared.opened.Open.{Open}
use Rattle.oss_deps.specs.Columns.{IsNumberOf}
use Rattle.oss_regions.specs.Kept.{Kept}
use Rattle.oss_regions.proofs.regions.Regions.undone_child_of.Goals as goal

pub undone_over-requires : goal.undone_over-requires
undone_over-requires c = (c.args.task.0, subst (λ (xs : List Open). IsNumberOf xs c.in-Some.number c.args.task.0) (c.as_slice.ensures.value ∙ ap (λ (k : Kept). k.opens) c.self.view_is) c.in-Some.ensures.found)
