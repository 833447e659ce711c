use Rattle.std.proofs.Common.{ℕ, ◌<◌, sym, subst}
use Rattle.oss_endings.proofs.LookLemmas.{entry_inside}
use Rattle.oss_endings.proofs.looking.look_at.Goals as goal

pub look-requires-clause-inside : goal.look-requires-clause-inside
look-requires-clause-inside c = subst (λ (z : ℕ). z < c.args.field.now.entries) (sym c.entry_of-entry.ensures)
    (entry_inside c.args.field.now.code c.args.job.now c.requires.works.0 c.args.seat.now.known c.requires.works.1
    c.args.seat.now.field c.args.field.now.entries c.has_entries.ensures.inside c.has_entries.ensures.slots c.requires.below c.args.cell)
