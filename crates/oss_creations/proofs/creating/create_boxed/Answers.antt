use Rattle.std.proofs.Common.{◌∙◌}
use Rattle.oss_creations.proofs.KeepLemmas.{job_itself, kept_more, kept_of, made_from, stays, works_on}
use Rattle.oss_creations.proofs.creating.create_boxed.Goals as goal

pub returns-in-Err-clause-stays : goal.returns-in-Err-clause-stays
returns-in-Err-clause-stays c =
    let k = c.args.seat.now.known in
    let l = c.make_ready.new.seat.known in
    stays c.args.field.now.code c.args.job.now c.args.job.now k l (job_itself c.args.job.now) (kept_of k l c.make_ready.ensures.work) c.requires.works

pub returns-in-Err-clause-draws : goal.returns-in-Err-clause-draws
returns-in-Err-clause-draws c = c.make_ready.ensures.work.failed ∙ c.requires.draws

pub draw_for-requires-clause-works : goal.draw_for-requires-clause-works
draw_for-requires-clause-works c =
    let k = c.args.seat.now.known in
    let l = c.make_ready.new.seat.known in
    (c.requires.works.0, works_on c.args.field.now.code c.args.job.now c.requires.works.0 k l (kept_of k l c.make_ready.ensures.work) c.requires.works.1)

pub returns-in-Some-clause-created : goal.returns-in-Some-clause-created
returns-in-Some-clause-created c =
    let k = c.args.seat.now.known in
    let l = c.make_ready.new.seat.known in
    let m = c.draw_for.new.seat.known in
    (made_from c.args.field.now.code c.args.job.now c.args.job.now c.make.new.job k m c.make.new.seat.known (job_itself c.args.job.now) (kept_more k l m (kept_of k l c.make_ready.ensures.work) c.draw_for.ensures.keeps) c.make.ensures.made, c.make.ensures.failed ∙ c.in-Some.ensures.draws)

pub returns-in-None-clause-created : goal.returns-in-None-clause-created
returns-in-None-clause-created c =
    let k = c.args.seat.now.known in
    let l = c.make_ready.new.seat.known in
    let m = c.draw_for.new.seat.known in
    (stays c.args.field.now.code c.args.job.now c.args.job.now k m (job_itself c.args.job.now) (kept_more k l m (kept_of k l c.make_ready.ensures.work) c.draw_for.ensures.keeps) c.requires.works, c.in-None.ensures.none)
