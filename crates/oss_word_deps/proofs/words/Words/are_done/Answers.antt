use Rattle.std.proofs.Common.{◌≡◌, ◌&&◌, ap, sym, subst, Some, ◌∙◌}
use Rattle.std.specs.Prelude.{IsTrue}
use Rattle.oss_words.specs.declared.entry.EntryState.{EntryState}
use Rattle.oss_words.specs.Bits.{state_at}
use Rattle.oss_word_deps.specs.declared.entry.Entry.{Entry}
use Rattle.oss_word_deps.specs.Ledger.{Ledger, entry_of, ledger_of, lists_of}
use Rattle.oss_word_deps.specs.Shelved.{IsListDone, Shelved}
use Rattle.oss_word_deps.proofs.QueryLemmas.{list_done}
use Rattle.oss_word_deps.proofs.words.Words.are_done.Goals as goal

pub returns-clause-done : goal.returns-clause-done
returns-clause-done c =
    let l = ledger_of c.self.inside.book in
    let same = ap (λ (s : Shelved). s.ledger) c.self.view_is in
    let result = c.is_over.ensures ∙ ap (λ (st : EntryState). st.clear && st.done) c.state_of.ensures in
    subst (λ (l : Ledger). (e : Entry) → entry_of l.entries c.args.last ≡ Some e → (IsTrue c.is_over.result → IsListDone (lists_of l e.cell) c.args.last) × (IsListDone (lists_of l e.cell) c.args.last → IsTrue c.is_over.result)) same
    (λ e is. let d = list_done l c.self.invariant.1 c.self.inside.net.known c.self.inside.net.size c.self.invariant.0 c.args.last (state_at c.flags.result) c.flags.ensures.rests e is in
    (λ h. d.0 (sym result ∙ h), λ h. result ∙ d.1 h))
