use Rattle.std.proofs.Common.{sym, subst, List}
use Rattle.oss_word_deps.specs.declared.entry.Entry.{Entry}
use Rattle.oss_word_deps.specs.Asked.{IsRowOf}
use Rattle.oss_word_deps.specs.Ledger.{ledger_of}
use Rattle.oss_word_deps.proofs.BookedLemmas.{parent_none, parent_some, parent_there}
use Rattle.oss_word_deps.proofs.growing.parent_at.Goals as goal

pub unreachable-requires : goal.unreachable-requires
unreachable-requires c =
    let r = c.requires in
    parent_there r.0 r.1 r.2 r.3 c.args.cell c.args.creator r.4 c.args.cell (ledger_of c.args.book.now) r.5 c.in-Some.job c.in-Some.is
    (λ v h. c.in-None-entry_at.ensures.none v (subst (λ (es : List Entry). IsRowOf es c.args.cell c.in-Some.job.task v) (sym c.as_slice.ensures.value) h))

pub returns-in-Some-entry_at : goal.returns-in-Some-entry_at
returns-in-Some-entry_at c = λ s o depth first access may.
    parent_some s o depth first c.args.cell c.args.creator access c.args.cell (ledger_of c.args.book.now) may c.in-Some.job c.in-Some.is c.in-Some-entry_at.entry
    (subst (λ (es : List Entry). IsRowOf es c.args.cell c.in-Some.job.task c.in-Some-entry_at.entry) c.as_slice.ensures.value c.in-Some-entry_at.ensures.some)

pub returns-in-None : goal.returns-in-None
returns-in-None c = λ s o depth first access may. parent_none s o depth first c.args.cell c.args.creator access c.args.cell (ledger_of c.args.book.now) may c.in-None.is
