use Rattle.std.proofs.Common.{arith, refl, ◌+◌}
use Rattle.oss_jobs.specs.Entries.{cells_in}
use Rattle.oss_creations.proofs.LinkLemmas.{linked_more, still_making}
use Rattle.oss_creations.proofs.creating.link_all.Goals as goal

pub link_entry-requires-clause-making : goal.link_entry-requires-clause-making
link_entry-requires-clause-making c = (c.args.task + 1 + cells_in c.args.accesses.now, omega arith, c.requires.making)

pub link_entry-requires-clause-new : goal.link_entry-requires-clause-new
link_entry-requires-clause-new c = λ start found order is act. (refl, refl, refl)

pub link_accesses-requires-clause-making : goal.link_accesses-requires-clause-making
link_accesses-requires-clause-making c =
    let a = still_making c.args.field.now.code c.args.field.now.entries c.args.job.now c.args.task 0 c.args.task (c.args.task + 1) (c.args.task + 1 + cells_in c.args.accesses.now) c.args.seat.now.known c.link_entry.new.seat.known (omega arith) c.link_entry.ensures.linked c.requires.making in
    a.0

pub returns-clause-linked : goal.returns-clause-linked
returns-clause-linked c =
    linked_more c.args.task c.args.task (c.args.task + 1) (c.args.task + 1 + cells_in c.args.accesses.now) c.args.seat.now.known c.link_entry.new.seat.known c.link_accesses.new.seat.known (omega arith) c.link_entry.ensures.linked c.link_accesses.ensures.linked
