use Rattle.std.proofs.Common.{sym, ap, ◌∙◌, length}
use Rattle.std.specs.Prelude.{◌&&◌}
use Rattle.oss_words.specs.declared.entry.EntryState.{EntryState}
use Rattle.oss_endings.proofs.LookLemmas.{done_after, last_inside, looks_one, looks_work, undone_after}
use Rattle.oss_endings.proofs.looking.all_done.Goals as goal

pub look-state-requires-clause-inside : goal.look-state-requires-clause-inside
look-state-requires-clause-inside c = last_inside c.args.field.now.code c.args.job.now c.requires.works.0 c.args.seat.now.known c.requires.works.1
    c.args.seat.now.field c.args.field.now.entries c.has_entries.ensures.inside c.has_entries.ensures.slots c.args.cell c.in-Some.last (sym c.in-Some.ensures)

pub returns-in-Some-clause-looks : goal.returns-in-Some-clause-looks
returns-in-Some-clause-looks c = looks_one (length c.args.field.now.code.first) c.in-Some.last c.look-state.ensures.found.0 c.args.seat.now.known c.look-state.new.seat.known c.look-state.ensures.found.2

pub returns-in-Some-clause-works : goal.returns-in-Some-clause-works
returns-in-Some-clause-works c = λ x w. looks_work c.args.field.now.code c.args.job.now x c.args.seat.now.known c.look-state.new.seat.known
    (looks_one (length c.args.field.now.code.first) c.in-Some.last c.look-state.ensures.found.0 c.args.seat.now.known c.look-state.new.seat.known c.look-state.ensures.found.2) w

pub returns-in-Some-clause-done : goal.returns-in-Some-clause-done
returns-in-Some-clause-done c = λ e. done_after (length c.args.field.now.code.first) c.in-Some.last c.look-state.ensures.found.0 c.args.job.now c.args.seat.now.known c.look-state.new.seat.known c.args.cell
    c.look-state.ensures.found.2 (sym c.in-Some.ensures) (ap (λ (z : EntryState). z.clear && z.done) (sym c.look-state.ensures.found.1) ∙ (sym c.is_past.ensures ∙ e))

pub returns-in-Some-clause-undone : goal.returns-in-Some-clause-undone
returns-in-Some-clause-undone c = λ e. undone_after (length c.args.field.now.code.first) c.in-Some.last c.look-state.ensures.found.0 c.args.job.now c.args.seat.now.known c.look-state.new.seat.known c.args.cell
    c.look-state.ensures.found.2 (sym c.in-Some.ensures) (ap (λ (z : EntryState). z.clear && z.done) (sym c.look-state.ensures.found.1) ∙ (sym c.is_past.ensures ∙ e))
