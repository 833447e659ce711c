use Rattle.std.proofs.Common.{◌≡◌, ◌∙◌, ap, subst, sym}
use Rattle.oss_meaning.specs.Names.{functions_of}
use Rattle.oss_labels.specs.Creations.{creations, joined, labels_in_code}
use Rattle.oss_labels.specs.Labels.{AreLabelsOf}
use Rattle.oss_labels.specs.Lists.{Rise}
use Rattle.oss_labels.proofs.LabelLemmas.{labels_are}
use Rattle.oss_labels.proofs.listing.labels_by_entry.Goals as goal

pub of-requires : goal.of-requires
of-requires c =
    let all = c.args.known.now.items in
    let code = c.args.code.now in
    let entries : c.as_slice-2.result.now ≡ creations 0 code.instrs = c.as_slice-2.ensures.value ∙ c.in_ok-entries.ensures in
    let labels : c.as_slice-3.result.now ≡ labels_in_code (functions_of all) =
    c.as_slice-3.ensures.value ∙ c.in_ok-labels.ensures ∙ ap (λ xs. labels_in_code (functions_of xs)) (c.as_slice.ensures ∙ ap (λ p. p.items) c.program.ensures.same) in
    let list = c.from_vec.ensures ∙ c.in_ok-list.ensures ∙ ap (λ es. joined es c.as_slice-3.result.now) entries ∙ ap (λ ls. joined (creations 0 code.instrs) ls) labels in
    subst (λ ls. Rise 0 ls) (sym list) (labels_are all code c.requires).rise

pub returns : goal.returns
returns c =
    let all = c.args.known.now.items in
    let code = c.args.code.now in
    let entries : c.as_slice-2.result.now ≡ creations 0 code.instrs = c.as_slice-2.ensures.value ∙ c.in_ok-entries.ensures in
    let labels : c.as_slice-3.result.now ≡ labels_in_code (functions_of all) =
    c.as_slice-3.ensures.value ∙ c.in_ok-labels.ensures ∙ ap (λ xs. labels_in_code (functions_of xs)) (c.as_slice.ensures ∙ ap (λ p. p.items) c.program.ensures.same) in
    let list = c.from_vec.ensures ∙ c.in_ok-list.ensures ∙ ap (λ es. joined es c.as_slice-3.result.now) entries ∙ ap (λ ls. joined (creations 0 code.instrs) ls) labels in
    subst (λ ls. AreLabelsOf all ls) (sym (c.of.ensures ∙ list)) (labels_are all code c.requires)
