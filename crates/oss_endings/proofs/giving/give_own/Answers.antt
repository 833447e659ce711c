use Rattle.std.proofs.Common.{refl, sym, ap, ◌∙◌, length, None}
use Rattle.oss_words.specs.declared.entry.EntryState.{EntryState}
use Rattle.oss_endings.specs.Ending.{entry_there}
use Rattle.oss_endings.specs.Letting.{gave_more}
use Rattle.oss_endings.proofs.LookLemmas.{looks_one, looks_work}
use Rattle.oss_endings.proofs.LetLemmas.{may_give_own, gave_works, lets_look}
use Rattle.oss_endings.proofs.giving.give_own.Goals as goal

pub give-requires-clause-may : goal.give-requires-clause-may
give-requires-clause-may c = may_give_own c.args.field.now.code c.args.job.now c.requires.works.0 c.args.seat.now.known c.look_at-given.new.seat.known c.requires.works.1 None c.look_at-given.ensures.found.0 c.look_at-given.ensures.found.2
    c.requires.below c.requires.empty refl c.requires.over c.requires.given (ap (λ (z : EntryState). z.given) (sym c.look_at-given.ensures.found.1) ∙ c.if-given.false)

pub returns-then-given-clause-works : goal.returns-then-given-clause-works
returns-then-given-clause-works c = (c.requires.works.0, looks_work c.args.field.now.code c.args.job.now c.requires.works.0 c.args.seat.now.known c.look_at-given.new.seat.known (looks_one (length c.args.field.now.code.first) (entry_there c.args.job.now (None)) c.look_at-given.ensures.found.0 c.args.seat.now.known c.look_at-given.new.seat.known c.look_at-given.ensures.found.2) c.requires.works.1)

pub returns-then-given-clause-lets : goal.returns-then-given-clause-lets
returns-then-given-clause-lets c = lets_look c.args.field.now.code c.args.job.now c.args.seat.now.known c.look_at-given.new.seat.known (looks_one (length c.args.field.now.code.first) (entry_there c.args.job.now (None)) c.look_at-given.ensures.found.0 c.args.seat.now.known c.look_at-given.new.seat.known c.look_at-given.ensures.found.2)

pub returns-clause-works : goal.returns-clause-works
returns-clause-works c = gave_works c.args.field.now.code c.args.job.now c.requires.works.0 c.look_at-given.new.seat.known c.give.new.seat.known None (looks_work c.args.field.now.code c.args.job.now c.requires.works.0 c.args.seat.now.known c.look_at-given.new.seat.known (looks_one (length c.args.field.now.code.first) (entry_there c.args.job.now (None)) c.look_at-given.ensures.found.0 c.args.seat.now.known c.look_at-given.new.seat.known c.look_at-given.ensures.found.2) c.requires.works.1) c.give.ensures.gave

pub returns-clause-lets : goal.returns-clause-lets
returns-clause-lets c = gave_more None (lets_look c.args.field.now.code c.args.job.now c.args.seat.now.known c.look_at-given.new.seat.known (looks_one (length c.args.field.now.code.first) (entry_there c.args.job.now (None)) c.look_at-given.ensures.found.0 c.args.seat.now.known c.look_at-given.new.seat.known c.look_at-given.ensures.found.2)) c.give.ensures.gave
