use Rattle.std.proofs.Common.{◌≡◌, ◌∙◌, None, Some, ap, subst, sym}
use Rattle.std.specs.Option.{option_copied}
use Rattle.std.specs.Prelude.{slice_get}
use Rattle.oss_labels.specs.Lists.{IsCut, label_at}
use Rattle.oss_labels.proofs.ListLemmas.{cut_label, cut_none}
use Rattle.oss_labels.proofs.labels.Labels.at.Goals as goal

pub returns-in-Some : goal.returns-in-Some
returns-in-Some c =
    let ls = c.self.inside.list in
    let k = c.before-before.result in
    let cut : IsCut ls c.args.entry k = subst (λ xs. IsCut xs c.args.entry k) c.as_slice.ensures c.before-before.ensures in
    let got : slice_get ls k ≡ Some c.in-Some.labelled.now = sym c.get.ensures.value ∙ ap option_copied c.in-Some.is in
    c.label_for.ensures ∙ sym (cut_label 0 ls c.args.entry k c.in-Some.labelled.now c.self.invariant cut got) ∙ ap (λ xs. label_at xs c.args.entry) c.self.view_is

pub returns-in-None : goal.returns-in-None
returns-in-None c =
    let ls = c.self.inside.list in
    let k = c.before-before.result in
    let cut : IsCut ls c.args.entry k = subst (λ xs. IsCut xs c.args.entry k) c.as_slice.ensures c.before-before.ensures in
    let got : slice_get ls k ≡ None = sym c.get.ensures.value ∙ ap option_copied c.in-None.is in
    sym (cut_none ls c.args.entry k cut got) ∙ ap (λ xs. label_at xs c.args.entry) c.self.view_is
