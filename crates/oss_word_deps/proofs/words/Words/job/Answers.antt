use Rattle.std.proofs.Common.{◌≡◌, ℕ, List, Some, ap, sym, subst, ◌∙◌}
use Rattle.std.specs.Prelude.{slice_get}
use Rattle.oss_word_deps.specs.declared.entry.Job.{Job}
use Rattle.oss_word_deps.specs.Asked.{IsJobOf}
use Rattle.oss_word_deps.specs.Booked.{IsBooked, IsJob}
use Rattle.oss_word_deps.specs.Ledger.{Ledger, ledger_of}
use Rattle.oss_word_deps.specs.Shelved.{Shelved}
use Rattle.oss_word_deps.proofs.LedgerLemmas.{get_within}
use Rattle.oss_word_deps.proofs.LookupLemmas.{get_is}
use Rattle.oss_word_deps.proofs.QueryLemmas.{job_for, job_there}
use Rattle.oss_word_deps.proofs.words.Words.job.Goals as goal

pub unreachable-requires : goal.unreachable-requires
unreachable-requires c =
    let same = ap (λ (s : Shelved). s.ledger) c.self.view_is in
    let r = c.requires in
    let booked = subst (λ (l : Ledger). IsBooked r.0 l) (sym same) r.1 in
    let j = job_there r.0 (ledger_of c.self.inside.book) c.args.task booked r.2 c.if-task-eq0.false in
    c.in-None.ensures.none j.0 (subst (λ (js : List Job). IsJobOf js j.0 c.args.task) (sym c.as_slice.ensures.value) j.1)

pub returns : goal.returns
returns c =
    let same = ap (λ (s : Shelved). s.ledger) c.self.view_is in
    let r = c.requires in
    let booked = subst (λ (l : Ledger). IsBooked r.0 l) (sym same) r.1 in
    let jobs = c.self.inside.book.jobs.items in
    let is = subst (λ (js : List Job). IsJobOf js c.in-Some.at c.args.task) c.as_slice.ensures.value c.in-Some.ensures.found in
    let at : slice_get jobs c.in-Some.at ≡ Some c.index.result.now = get_is jobs c.in-Some.at c.index.result.now (get_within jobs c.in-Some.at is.job is.is) ∙ ap (λ (x : Job). Some x) (sym c.index.ensures) in
    subst (λ (l : Ledger). (m : ℕ) × (slice_get l.jobs m ≡ Some c.index.result.now) × (c.index.result.now.task ≡ c.args.task) × IsJob l.entries c.index.result.now) same
    (job_for r.0 (ledger_of c.self.inside.book) c.args.task c.in-Some.at c.index.result.now booked is at)
