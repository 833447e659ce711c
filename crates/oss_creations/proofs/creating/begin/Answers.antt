use Rattle.oss_creations.proofs.AccessLemmas.{few_waited}
use Rattle.oss_creations.proofs.MakeLemmas.{has_begun, may_begin, rising_of}
use Rattle.oss_creations.proofs.creating.begin.Goals as goal

pub count_of-count-requires : goal.count_of-count-requires
count_of-count-requires c =
    let d = c.requires.drawn in
    few_waited c.args.job.now c.args.accesses.now (rising_of c.args.field.now.code c.args.job.now d.body c.args.seat.now.known c.args.accesses.now c.requires.running c.requires.creates c.requires.new d.works)

pub set_count-requires-clause-may : goal.set_count-requires-clause-may
set_count-requires-clause-may c =
    may_begin c.args.field.now.code c.args.field.now.entries c.args.job.now c.args.task c.count_of-count.result c.args.accesses.now c.args.seat.now.known c.requires.running c.requires.creates c.requires.new c.requires.drawn c.count_of-count.ensures

pub returns-clause-begun : goal.returns-clause-begun
returns-clause-begun c =
    has_begun c.args.field.now.code c.args.field.now.entries c.args.job.now c.args.task c.count_of-count.result c.args.accesses.now c.args.seat.now.known c.set_count.new.seat.known c.requires.new c.requires.drawn c.set_count.ensures.begun
