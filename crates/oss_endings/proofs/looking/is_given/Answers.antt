use Rattle.std.proofs.Common.{refl, sym, ap, ◌∙◌, length}
use Rattle.oss_words.specs.declared.entry.EntryState.{EntryState}
use Rattle.oss_words.specs.Bits.{state_at}
use Rattle.oss_endings.proofs.LookLemmas.{looks_one, seen_after}
use Rattle.oss_endings.specs.Ending.{entry_there}
use Rattle.oss_endings.proofs.looking.is_given.Goals as goal

pub returns-clause-looks : goal.returns-clause-looks
returns-clause-looks c = looks_one (length c.args.field.now.code.first) (entry_there c.args.job.now c.args.cell) c.look_at-state.ensures.found.0 c.args.seat.now.known c.look_at-state.new.seat.known c.look_at-state.ensures.found.2

pub returns-clause-given : goal.returns-clause-given
returns-clause-given c = λ e. record {
  it = record { entry = entry_there c.args.job.now c.args.cell; state = state_at c.look_at-state.ensures.found.0 };
  among = seen_after (length c.args.field.now.code.first) (entry_there c.args.job.now c.args.cell) c.look_at-state.ensures.found.0 c.args.seat.now.known c.look_at-state.new.seat.known c.look_at-state.ensures.found.2;
  entry = refl;
  given = ap (λ (z : EntryState). z.given) (sym c.look_at-state.ensures.found.1) ∙ e;
}

pub returns-clause-open : goal.returns-clause-open
returns-clause-open c = λ e. record {
  it = record { entry = entry_there c.args.job.now c.args.cell; state = state_at c.look_at-state.ensures.found.0 };
  among = seen_after (length c.args.field.now.code.first) (entry_there c.args.job.now c.args.cell) c.look_at-state.ensures.found.0 c.args.seat.now.known c.look_at-state.new.seat.known c.look_at-state.ensures.found.2;
  entry = refl;
  open_then = ap (λ (z : EntryState). z.given) (sym c.look_at-state.ensures.found.1) ∙ e;
}
