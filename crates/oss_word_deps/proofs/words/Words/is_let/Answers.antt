use Rattle.std.proofs.Common.{◌≡◌, ◌<◌, ◌≤◌, true, ap, sym, subst, Some, ◌∙◌, length, refl}
use Rattle.std.specs.Prelude.{IsTrue}
use Rattle.oss_deps.specs.Seen.{Seen}
use Rattle.oss_deps.proofs.Basics.{not_false, some_is}
use Rattle.oss_words.specs.declared.entry.EntryState.{EntryState}
use Rattle.oss_words.specs.Bits.{state_at}
use Rattle.oss_word_deps.specs.declared.entry.Entry.{Entry}
use Rattle.oss_word_deps.specs.Asked.{IsLet}
use Rattle.oss_word_deps.specs.Booked.{IsBooked}
use Rattle.oss_word_deps.specs.Ledger.{Ledger, entry_of, ledger_of}
use Rattle.oss_word_deps.specs.Shelved.{Shelved}
use Rattle.oss_word_deps.proofs.QueryLemmas.{entry_read, let_fold, let_reads, let_writes}
use Rattle.oss_word_deps.proofs.words.Words.is_let.Goals as goal

pub returns-in-Read-clause-lets : goal.returns-in-Read-clause-lets
returns-in-Read-clause-lets c =
    let l = ledger_of c.self.inside.book in
    let same = ap (λ (s : Shelved). s.ledger) c.self.view_is in
    let within = subst (λ (l : Ledger). (0 < c.args.entry) × (c.args.entry ≤ length l.entries)) (sym same) c.requires in
    let item = entry_read l.entries c.args.entry c.index.result.now within c.index.ensures in
    let result = ap (λ (st : EntryState). st.reads) c.state_of.ensures in
    subst (λ (l : Ledger). (s : Seen) (e : Entry) → IsBooked s l → entry_of l.entries c.args.entry ≡ Some e → (IsTrue c.state_of.result.reads → IsLet s.opens s.given e) × (IsLet s.opens s.given e → IsTrue c.state_of.result.reads)) same
    (λ s e booked is.
    let one : c.index.result.now ≡ e = some_is (sym item ∙ is) in
    let d = let_reads l c.self.invariant.1 c.self.inside.net.known c.self.inside.net.size c.self.invariant.0 c.args.entry (state_at c.flags.result) c.flags.ensures.rests s booked e is (ap (λ (x : Entry). x.info.mode) (sym one) ∙ c.in-Read.is) (ap (λ (x : Entry). x.info.strong) (sym one) ∙ not_false c.index.result.now.info.strong c.if-not-info.false) in
    (λ h. d.0 (sym result ∙ h), λ h. result ∙ d.1 h))

pub returns-in-Write-clause-lets : goal.returns-in-Write-clause-lets
returns-in-Write-clause-lets c =
    let l = ledger_of c.self.inside.book in
    let same = ap (λ (s : Shelved). s.ledger) c.self.view_is in
    let within = subst (λ (l : Ledger). (0 < c.args.entry) × (c.args.entry ≤ length l.entries)) (sym same) c.requires in
    let item = entry_read l.entries c.args.entry c.index.result.now within c.index.ensures in
    let result = ap (λ (st : EntryState). st.writes) c.state_of-in-Write.ensures in
    subst (λ (l : Ledger). (s : Seen) (e : Entry) → IsBooked s l → entry_of l.entries c.args.entry ≡ Some e → (IsTrue c.state_of-in-Write.result.writes → IsLet s.opens s.given e) × (IsLet s.opens s.given e → IsTrue c.state_of-in-Write.result.writes)) same
    (λ s e booked is.
    let one : c.index.result.now ≡ e = some_is (sym item ∙ is) in
    let d = let_writes l c.self.invariant.1 c.self.inside.net.known c.self.inside.net.size c.self.invariant.0 c.args.entry (state_at c.flags-in-Write.result) c.flags-in-Write.ensures.rests s booked e is (ap (λ (x : Entry). x.info.mode) (sym one) ∙ c.in-Write.is) (ap (λ (x : Entry). x.info.strong) (sym one) ∙ not_false c.index.result.now.info.strong c.if-not-info.false) in
    (λ h. d.0 (sym result ∙ h), λ h. result ∙ d.1 h))

pub returns-in-Fold-clause-lets : goal.returns-in-Fold-clause-lets
returns-in-Fold-clause-lets c =
    let l = ledger_of c.self.inside.book in
    let same = ap (λ (s : Shelved). s.ledger) c.self.view_is in
    let within = subst (λ (l : Ledger). (0 < c.args.entry) × (c.args.entry ≤ length l.entries)) (sym same) c.requires in
    let item = entry_read l.entries c.args.entry c.index.result.now within c.index.ensures in
    subst (λ (l : Ledger). (s : Seen) (e : Entry) → IsBooked s l → entry_of l.entries c.args.entry ≡ Some e → (IsTrue true → IsLet s.opens s.given e) × (IsLet s.opens s.given e → IsTrue true)) same
    (λ s e booked is. (λ h. let_fold s.opens s.given e c.in-Fold.field-0 (ap (λ (x : Entry). x.info.mode) (sym (some_is (sym item ∙ is))) ∙ c.in-Fold.is), λ h. refl))
