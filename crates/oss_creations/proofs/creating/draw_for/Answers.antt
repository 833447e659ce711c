use Rattle.oss_creations.proofs.DrawLemmas.{draw_keeps, draws_no_more, draws_on, has_drawn}
use Rattle.oss_creations.proofs.creating.draw_for.Goals as goal

pub returns-clause-keeps : goal.returns-clause-keeps
returns-clause-keeps c = draw_keeps c.args.field.now.entries c.args.count c.draw.result c.args.seat.now.known c.draw.new.seat.known c.draw.ensures.some c.draw.ensures.none

pub returns-clause-drawn : goal.returns-clause-drawn
returns-clause-drawn c = has_drawn c.args.field.now.code c.args.field.now.entries c.args.count c.args.job.now c.draw.result c.args.seat.now.known c.draw.new.seat.known c.requires.works c.requires.held c.draw.ensures.some c.draw.ensures.none

pub returns-clause-draws : goal.returns-clause-draws
returns-clause-draws c = draws_on c.args.field.now.entries c.args.count c.draw.result c.args.seat.now.known c.draw.new.seat.known c.requires.draws c.draw.ensures.some

pub returns-clause-none : goal.returns-clause-none
returns-clause-none c = draws_no_more c.args.field.now.entries c.args.count c.draw.result c.args.seat.now.known c.draw.new.seat.known c.draw.ensures.none
