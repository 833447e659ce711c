use Rattle.std.proofs.Common.{◌≡◌, ℕ, List, ap, sym, subst, ◌∙◌}
use Rattle.std.specs.Prelude.{IsTrue}
use Rattle.oss_deps.proofs.OpenLemmas.{not_main}
use Rattle.oss_model.specs.Forest.{IsJoinSatisfied}
use Rattle.oss_deps.specs.Opens.{mode_in, opened_forest}
use Rattle.oss_syntax.specs.declared.access.Mode.TheVariants.{Fold}
use Rattle.oss_words.specs.declared.entry.EntryState.{EntryState}
use Rattle.oss_words.specs.Bits.{state_at}
use Rattle.oss_word_deps.specs.declared.entry.Entry.{Entry}
use Rattle.oss_word_deps.specs.Asked.{IsRowOf}
use Rattle.oss_word_deps.specs.Booked.{IsBooked}
use Rattle.oss_word_deps.specs.Ledger.{Ledger, ledger_of}
use Rattle.oss_word_deps.specs.Shelved.{Shelved}
use Rattle.oss_word_deps.proofs.BookedLemmas.{row_task}
use Rattle.oss_word_deps.proofs.QueryLemmas.{joins}
use Rattle.oss_word_deps.proofs.words.Words.may_join.Goals as goal

pub unreachable-requires : goal.unreachable-requires
unreachable-requires c =
    let r = c.requires in
    let same = ap (λ (s : Shelved). s.ledger) c.self.view_is in
    let booked = subst (λ (l : Ledger). IsBooked r.0 l) (sym same) r.1 in
    let v = (booked.held c.args.cell).held c.args.task r.2.opened in
    let row = row_task c.self.inside.book.entries.items c.args.cell c.args.task v.0 v.1 in
    let job = c.in-Some.ensures in
    c.in-None-entry_at.ensures.none v.0 (subst (λ (es : List Entry). IsRowOf es c.args.cell c.in-Some.job.task v.0) (sym c.as_slice.ensures.value) (record { entry = row.entry; is = row.is; task = row.task ∙ sym job.2; cell = row.cell }))

pub unreachable-requires-in-None : goal.unreachable-requires-in-None
unreachable-requires-in-None c =
    let r = c.requires in
    let o = r.2.opened in
    not_main r.1.opens_are.ordered o.entry o.listed (o.number ∙ c.in-None.ensures)

pub returns-clause-join : goal.returns-clause-join
returns-clause-join c = λ s op booked mode folding.
    let l = ledger_of c.self.inside.book in
    let same = ap (λ (s : Shelved). s.ledger) c.self.view_is in
    let held = subst (λ (l : Ledger). IsBooked s l) (sym same) booked in
    let row = subst (λ (es : List Entry). IsRowOf es c.args.cell c.in-Some.job.task c.in-Some-entry_at.entry) c.as_slice.ensures.value c.in-Some-entry_at.ensures.some in
    let job = c.in-Some.ensures in
    let task = row.task ∙ job.2 in
    let moded = subst (λ (t : ℕ). mode_in s.opens row.entry.cell t ≡ Fold op) (sym task) (subst (λ (k : ℕ). mode_in s.opens k c.args.task ≡ Fold op) (sym row.cell) mode) in
    let j = joins l c.self.invariant.1 c.self.inside.net.known c.self.inside.net.size c.self.invariant.0 c.in-Some-entry_at.entry (state_at c.flags.result) c.flags.ensures.rests s held row.entry row.is op moded in
    let result = ap (λ (st : EntryState). st.folds) c.state_of.ensures in
    subst (λ (k : ℕ). (IsTrue c.state_of.result.folds → IsJoinSatisfied (opened_forest s.opens s.given k) op c.args.task) × (IsJoinSatisfied (opened_forest s.opens s.given k) op c.args.task → IsTrue c.state_of.result.folds)) row.cell
    (subst (λ (t : ℕ). (IsTrue c.state_of.result.folds → IsJoinSatisfied (opened_forest s.opens s.given row.entry.cell) op t) × (IsJoinSatisfied (opened_forest s.opens s.given row.entry.cell) op t → IsTrue c.state_of.result.folds)) task
    (λ h. j.0 (sym result ∙ h), λ h. result ∙ j.1 h))
