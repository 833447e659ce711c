use Rattle.oss_endings.proofs.LookLemmas.{looks_work}
use Rattle.oss_endings.proofs.LetLemmas.{same_work}
use Rattle.oss_endings.proofs.OrderLemmas.{wait_same, tell_look, tell_more, tell_news, tell_none}
use Rattle.oss_endings.proofs.giving.leave_cell.Goals as goal

pub returns-in_err-deliver_all-clause-works : goal.returns-in_err-deliver_all-clause-works
returns-in_err-deliver_all-clause-works c =
    (c.requires.works.0, same_work c.args.field.now.code c.args.job.now c.requires.works.0 c.args.seat.now.known c.deliver_all.new.seat.known c.deliver_all.ensures.work c.requires.works.1)

pub returns-in_err-deliver_all-clause-lets : goal.returns-in_err-deliver_all-clause-lets
returns-in_err-deliver_all-clause-lets c =
    (tell_news c.args.field.now.code c.args.job.now c.args.seat.now.known c.args.seat.now.known c.deliver_all.new.seat.known c.args.news.now.items c.args.news.now.items c.deliver_all.new.news.items (tell_none c.args.field.now.code c.args.job.now c.args.seat.now.known c.args.news.now.items) c.deliver_all.ensures.work c.deliver_all.ensures.delivers)

pub leave_open-requires-clause-works : goal.leave_open-requires-clause-works
leave_open-requires-clause-works c =
    (c.requires.works.0, same_work c.args.field.now.code c.args.job.now c.requires.works.0 c.args.seat.now.known c.deliver_all.new.seat.known c.deliver_all.ensures.work c.requires.works.1)

pub leave_open-requires-clause-wait : goal.leave_open-requires-clause-wait
leave_open-requires-clause-wait c =
    wait_same c.args.job.now c.args.seat.now.known c.deliver_all.new.seat.known c.deliver_all.ensures.work c.requires.wait

pub returns-in_err-deliver_all-2-clause-works : goal.returns-in_err-deliver_all-2-clause-works
returns-in_err-deliver_all-2-clause-works c =
    (c.leave_open.ensures.works.0, same_work c.args.field.now.code c.args.job.now c.leave_open.ensures.works.0 c.leave_open.new.seat.known c.deliver_all-2.new.seat.known c.deliver_all-2.ensures.work c.leave_open.ensures.works.1)

pub returns-in_err-deliver_all-2-clause-lets : goal.returns-in_err-deliver_all-2-clause-lets
returns-in_err-deliver_all-2-clause-lets c =
    (tell_news c.args.field.now.code c.args.job.now c.args.seat.now.known c.leave_open.new.seat.known c.deliver_all-2.new.seat.known c.args.news.now.items c.deliver_all.new.news.items c.deliver_all-2.new.news.items (tell_more c.args.field.now.code c.args.job.now c.args.seat.now.known c.deliver_all.new.seat.known c.leave_open.new.seat.known c.args.news.now.items c.deliver_all.new.news.items (tell_news c.args.field.now.code c.args.job.now c.args.seat.now.known c.args.seat.now.known c.deliver_all.new.seat.known c.args.news.now.items c.args.news.now.items c.deliver_all.new.news.items (tell_none c.args.field.now.code c.args.job.now c.args.seat.now.known c.args.news.now.items) c.deliver_all.ensures.work c.deliver_all.ensures.delivers) c.leave_open.ensures.lets) c.deliver_all-2.ensures.work c.deliver_all-2.ensures.delivers)

pub is_given-requires-clause-works : goal.is_given-requires-clause-works
is_given-requires-clause-works c =
    (c.leave_open.ensures.works.0, same_work c.args.field.now.code c.args.job.now c.leave_open.ensures.works.0 c.leave_open.new.seat.known c.deliver_all-2.new.seat.known c.deliver_all-2.ensures.work c.leave_open.ensures.works.1)

pub returns-clause-works : goal.returns-clause-works
returns-clause-works c =
    (c.leave_open.ensures.works.0, looks_work c.args.field.now.code c.args.job.now c.leave_open.ensures.works.0 c.deliver_all-2.new.seat.known c.is_given.new.seat.known c.is_given.ensures.looks (same_work c.args.field.now.code c.args.job.now c.leave_open.ensures.works.0 c.leave_open.new.seat.known c.deliver_all-2.new.seat.known c.deliver_all-2.ensures.work c.leave_open.ensures.works.1))

pub returns-clause-lets : goal.returns-clause-lets
returns-clause-lets c =
    tell_look c.args.field.now.code c.args.job.now c.args.seat.now.known c.deliver_all-2.new.seat.known c.is_given.new.seat.known c.args.news.now.items c.deliver_all-2.new.news.items (tell_news c.args.field.now.code c.args.job.now c.args.seat.now.known c.leave_open.new.seat.known c.deliver_all-2.new.seat.known c.args.news.now.items c.deliver_all.new.news.items c.deliver_all-2.new.news.items (tell_more c.args.field.now.code c.args.job.now c.args.seat.now.known c.deliver_all.new.seat.known c.leave_open.new.seat.known c.args.news.now.items c.deliver_all.new.news.items (tell_news c.args.field.now.code c.args.job.now c.args.seat.now.known c.args.seat.now.known c.deliver_all.new.seat.known c.args.news.now.items c.args.news.now.items c.deliver_all.new.news.items (tell_none c.args.field.now.code c.args.job.now c.args.seat.now.known c.args.news.now.items) c.deliver_all.ensures.work c.deliver_all.ensures.delivers) c.leave_open.ensures.lets) c.deliver_all-2.ensures.work c.deliver_all-2.ensures.delivers) c.is_given.ensures.looks
