use Rattle.std.proofs.Common.{refl, ap, ◌∙◌, Option, ℕ}
use Rattle.oss_creations.specs.Accesses.{after_behind, last_told}
use Rattle.oss_creations.proofs.LinkLemmas.{info_fits, inside_table, linked_next, stands}
use Rattle.oss_creations.proofs.linking.link_entry.Goals as goal

pub link_and_deliver-requires-clause-inside : goal.link_and_deliver-requires-clause-inside
link_and_deliver-requires-clause-inside c =
    let m = c.requires.making in
    inside_table c.args.field.now.code c.args.field.now.entries c.args.job.now c.args.task 0 c.args.entry m.0 c.args.seat.now.known m.2 m.1

pub link_and_deliver-requires-clause-fits : goal.link_and_deliver-requires-clause-fits
link_and_deliver-requires-clause-fits c =
    let m = c.requires.making in
    info_fits c.args.field.now.code c.args.field.now.entries c.args.job.now c.args.task 0 c.args.entry m.0 c.args.seat.now.known m.2 c.args.mode c.args.strong c.args.cell c.info_of-info.result c.requires.field.1 c.requires.new c.info_of-info.ensures

pub link_and_deliver-requires-clause-may : goal.link_and_deliver-requires-clause-may
link_and_deliver-requires-clause-may c =
    let m = c.requires.making in
    stands c.args.field.now.code c.args.field.now.entries c.args.job.now c.args.task 0 c.args.entry m.0 c.args.seat.now.known m.2 c.args.mode c.args.strong c.args.cell c.info_of-info.result c.after_of-after.result refl m.1 c.requires.new c.info_of-info.ensures
    (c.after_of-after.ensures ∙ (ap (λ (o : Option ℕ). after_behind o c.task.result c.info_of-info.result.parent) c.last_of.ensures ∙ ap (λ (t : ℕ). after_behind (last_told c.args.job.now c.args.cell) t c.info_of-info.result.parent) c.task.ensures.kept))

pub returns-clause-linked : goal.returns-clause-linked
returns-clause-linked c = linked_next c.args.task c.args.entry c.args.seat.now.known c.link_and_deliver.new.seat.known c.link_and_deliver.ensures.linked
