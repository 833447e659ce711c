use Rattle.std.proofs.Common.{ap, subst, ◌∙◌, List}
use Rattle.oss_deps.specs.declared.opened.Open.{Open}
use Rattle.oss_deps.specs.Columns.{IsNumberOf}
use Rattle.oss_regions.specs.Kept.{Kept}
use Rattle.oss_regions.proofs.PartLemmas.{right_of}
use Rattle.oss_regions.proofs.WaitLemmas.{folding_entry, joins_task}
use Rattle.oss_regions.proofs.regions.Regions.is_joinable.Goals as goal

pub joins_at-requires : goal.joins_at-requires
joins_at-requires c =
    folding_entry c.args.self.now (right_of c.self.view_is c.self.invariant) c.in-Some.number c.args.task.0 c.args.cell
    (subst (λ (xs : List Open). IsNumberOf xs c.in-Some.number c.args.task.0) (c.as_slice.ensures.value ∙ ap (λ (k : Kept). k.opens) c.self.view_is) c.in-Some.ensures.found) c.requires.opened

pub returns : goal.returns
returns c =
    joins_task c.args.self.now (right_of c.self.view_is c.self.invariant) c.in-Some.number c.args.task.0 c.args.cell
    (subst (λ (xs : List Open). IsNumberOf xs c.in-Some.number c.args.task.0) (c.as_slice.ensures.value ∙ ap (λ (k : Kept). k.opens) c.self.view_is) c.in-Some.ensures.found) c.requires.opened c.joins_at.result c.joins_at.ensures
