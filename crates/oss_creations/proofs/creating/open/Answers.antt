use Rattle.std.proofs.Common.{arith, ap, ◌+◌}
use Rattle.oss_jobs.specs.Entries.{cells_in}
use Rattle.oss_field.specs.Known.{Known}
use Rattle.oss_creations.proofs.MakeLemmas.{may_open, opened_behind, rising_making}
use Rattle.oss_creations.proofs.creating.open.Goals as goal

pub note-requires-clause-rising : goal.note-requires-clause-rising
note-requires-clause-rising c =
    let stop = c.args.task + 1 + cells_in c.args.accesses.now in
    rising_making c.args.field.now.code c.args.field.now.entries c.args.job.now c.args.task 2 stop stop c.args.seat.now.known c.args.accesses.now c.requires.new c.requires.making

pub note-requires-clause-numbers : goal.note-requires-clause-numbers
note-requires-clause-numbers c = let a = c.requires.making.inside in let b = c.requires.field.1 in omega (arith, a, b)

pub count_down-free-requires-clause-inside : goal.count_down-free-requires-clause-inside
count_down-free-requires-clause-inside c = c.requires.making.number

pub count_down-free-requires-clause-may : goal.count_down-free-requires-clause-may
count_down-free-requires-clause-may c =
    let stop = c.args.task + 1 + cells_in c.args.accesses.now in
    may_open c.args.field.now.code c.args.field.now.entries c.args.job.now c.args.task stop c.args.seat.now.known c.requires.making c.args.accesses.now c.requires.new c.note.new.self c.note.ensures.job

pub returns-clause-opened : goal.returns-clause-opened
returns-clause-opened c = λ m.
    let stop = c.args.task + 1 + cells_in c.args.accesses.now in
    let o = c.count_down-free.ensures.opened in
    opened_behind c.args.field.now.code c.args.field.now.entries c.args.job.now c.args.task stop c.args.seat.now.known m c.args.accesses.now c.requires.new c.note.new.self c.note.ensures.job o.0 c.count_down-free.new.seat.known o.1

pub returns-clause-failed : goal.returns-clause-failed
returns-clause-failed c = ap (λ (z : Known). z.words.failed) c.count_down-free.ensures.opened.1.known
