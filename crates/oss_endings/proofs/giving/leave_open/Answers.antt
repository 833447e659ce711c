use Rattle.std.proofs.Common.{refl, sym, subst, ap, ◌∙◌, true, length, Some}
use Rattle.oss_body.specs.declared.body.Body.{Body as KeptBody}
use Rattle.oss_body.specs.Relation.{IsBody}
use Rattle.oss_model.specs.Rights.{Holds}
use Rattle.oss_syntax.specs.declared.access.Mode.TheVariants.{Fold}
use Rattle.oss_words.specs.declared.entry.EntryState.{EntryState}
use Rattle.oss_endings.specs.Ending.{entry_there}
use Rattle.oss_endings.specs.Letting.{left_more}
use Rattle.oss_endings.proofs.LookLemmas.{looks_one, looks_work}
use Rattle.oss_endings.proofs.LetLemmas.{may_leave_cell, left_works, lets_look, own_right}
use Rattle.oss_endings.proofs.giving.leave_open.Goals as goal

pub leave-requires-clause-may : goal.leave-requires-clause-may
leave-requires-clause-may c = may_leave_cell c.args.field.now.code c.args.job.now c.requires.works.0 c.args.seat.now.known c.look_at-state.new.seat.known c.requires.works.1 (Some c.args.cell) c.look_at-state.ensures.found.0 c.look_at-state.ensures.found.2
    c.requires.below c.requires.empty c.args.cell c.slot-value.result c.requires.right.0 refl c.requires.right.1 c.requires.over c.requires.wait
    (c.slot-value.ensures c.args.field.now.code c.requires.works.0.start c.requires.works.0.found c.requires.right.0 (subst (λ (z : KeptBody). IsBody c.args.field.now.code c.requires.works.0.start c.requires.works.0.found z) (sym c.body.ensures.kept) c.requires.works.1.given.is.body) (own_right c.args.field.now.code c.args.job.now c.requires.works.0 c.args.seat.now.known c.requires.works.1 c.args.cell (Holds (Fold c.requires.right.0) true) c.requires.right.1))
    (ap (λ (z : EntryState). z.left) (sym c.look_at-state.ensures.found.1) ∙ c.if-left.false) (ap (λ (z : EntryState). z.given) (sym c.look_at-state.ensures.found.1) ∙ c.if-given.false)

pub returns-then-left-clause-works : goal.returns-then-left-clause-works
returns-then-left-clause-works c = (c.requires.works.0, looks_work c.args.field.now.code c.args.job.now c.requires.works.0 c.args.seat.now.known c.look_at-state.new.seat.known (looks_one (length c.args.field.now.code.first) (entry_there c.args.job.now (Some c.args.cell)) c.look_at-state.ensures.found.0 c.args.seat.now.known c.look_at-state.new.seat.known c.look_at-state.ensures.found.2) c.requires.works.1)

pub returns-then-left-clause-lets : goal.returns-then-left-clause-lets
returns-then-left-clause-lets c = lets_look c.args.field.now.code c.args.job.now c.args.seat.now.known c.look_at-state.new.seat.known (looks_one (length c.args.field.now.code.first) (entry_there c.args.job.now (Some c.args.cell)) c.look_at-state.ensures.found.0 c.args.seat.now.known c.look_at-state.new.seat.known c.look_at-state.ensures.found.2)

pub returns-then-given-clause-works : goal.returns-then-given-clause-works
returns-then-given-clause-works c = (c.requires.works.0, looks_work c.args.field.now.code c.args.job.now c.requires.works.0 c.args.seat.now.known c.look_at-state.new.seat.known (looks_one (length c.args.field.now.code.first) (entry_there c.args.job.now (Some c.args.cell)) c.look_at-state.ensures.found.0 c.args.seat.now.known c.look_at-state.new.seat.known c.look_at-state.ensures.found.2) c.requires.works.1)

pub returns-then-given-clause-lets : goal.returns-then-given-clause-lets
returns-then-given-clause-lets c = lets_look c.args.field.now.code c.args.job.now c.args.seat.now.known c.look_at-state.new.seat.known (looks_one (length c.args.field.now.code.first) (entry_there c.args.job.now (Some c.args.cell)) c.look_at-state.ensures.found.0 c.args.seat.now.known c.look_at-state.new.seat.known c.look_at-state.ensures.found.2)

pub returns-clause-works : goal.returns-clause-works
returns-clause-works c = left_works c.args.field.now.code c.args.job.now c.requires.works.0 c.look_at-state.new.seat.known c.leave.new.seat.known c.args.cell c.slot-value.result (looks_work c.args.field.now.code c.args.job.now c.requires.works.0 c.args.seat.now.known c.look_at-state.new.seat.known (looks_one (length c.args.field.now.code.first) (entry_there c.args.job.now (Some c.args.cell)) c.look_at-state.ensures.found.0 c.args.seat.now.known c.look_at-state.new.seat.known c.look_at-state.ensures.found.2) c.requires.works.1) c.leave.ensures.left

pub returns-clause-lets : goal.returns-clause-lets
returns-clause-lets c = left_more c.args.cell c.slot-value.result (lets_look c.args.field.now.code c.args.job.now c.args.seat.now.known c.look_at-state.new.seat.known (looks_one (length c.args.field.now.code.first) (entry_there c.args.job.now (Some c.args.cell)) c.look_at-state.ensures.found.0 c.args.seat.now.known c.look_at-state.new.seat.known c.look_at-state.ensures.found.2)) c.leave.ensures.left
