use Rattle.std.proofs.Common.{◌≡◌, ◌<◌, ◌≤◌, true, false, Some, refl, ap, sym, subst, ◌∙◌, arith}
use Rattle.oss_deps.proofs.Basics.{some_is}
use Rattle.oss_deps.specs.Opens.{AreChildrenDone}
use Rattle.oss_word_deps.specs.declared.entry.Entry.{Entry}
use Rattle.oss_word_deps.specs.Booked.{IsBooked, IsJob}
use Rattle.oss_word_deps.specs.Ledger.{Ledger, entry_of, last_of, ledger_of}
use Rattle.oss_word_deps.specs.Shelved.{Shelved}
use Rattle.oss_word_deps.specs.Sound.{IsSound}
use Rattle.oss_word_deps.proofs.GiveLemmas.{ends_of, ends_rise}
use Rattle.oss_word_deps.proofs.LedgerLemmas.{entry_there}
use Rattle.oss_word_deps.proofs.QueryLemmas.{all_done, done_is, last_within, next_case, task_at, task_last}
use Rattle.oss_word_deps.proofs.words.Words.task_is_done.Goals as goal

pub are_done-requires : goal.are_done-requires
are_done-requires c =
    let same = ap (λ (s : Shelved). s.ledger) c.self-in-loop-entry.view_is in
    let sound = subst IsSound same c.self-in-loop-entry.invariant.1 in
    let rows = ap (λ (s : Shelved). s.ledger.entries) c.self.view_is in
    let ends = ends_of c.args.self.now.ledger.entries c.as_slice.result.now c.as_slice-2.result.now c.args.job c.args.range c.entry_from-from.result c.entry_from-to.result (c.as_slice.ensures.value ∙ rows) (c.as_slice-2.ensures.value ∙ rows) c.entry_from-from.ensures.inside c.entry_from-from.ensures.before c.entry_from-from.ensures.behind c.entry_from-to.ensures.inside c.entry_from-to.ensures.before c.entry_from-to.ensures.behind in
    let i = c.loop-entry.invariant in
    let is_job = subst (λ (s : Shelved). IsJob s.ledger.entries c.args.job) (sym i.same) c.requires.2 in
    let first : c.args.job.first ≤ c.loop-entry.entry = (let f = ends.from_in in omega (arith, f, i.from)) in
    let end : c.loop-entry.entry < c.args.job.end = (let u = ends.upto_in in let t = c.loop-entry-test.true in omega (arith, u, t)) in
    let e = entry_there c.loop-entry.self.ledger.entries c.loop-entry.entry (let f = is_job.from in omega (arith, f, first)) (let w = is_job.within in omega (arith, w, end)) in
    let is : entry_of c.self-in-loop-entry.inside.book.entries.items c.loop-entry.entry ≡ Some e.0 = ap (λ (s : Ledger). entry_of s.entries c.loop-entry.entry) same ∙ e.1 in
    let last = task_last (ledger_of c.self-in-loop-entry.inside.book) c.self-in-loop-entry.invariant.1 c.loop-entry.entry e.0 c.index.result.now is c.index.ensures ∙ ap (λ (l : Ledger). last_of l e.0.cell c.loop-entry.entry) same in
    let at = task_at c.loop-entry.self.ledger c.args.job is_job c.loop-entry.entry e.0 first end e.1 in
    let booked = subst (λ (s : Shelved). IsBooked c.requires.0 s.ledger) (sym i.same) c.requires.1 in
    last_within c.requires.0 c.loop-entry.self.ledger sound booked e.0.cell c.args.job.task c.loop-entry.entry at c.index.result.now.last last

pub returns-then-not-are_done-clause-done : goal.returns-then-not-are_done-clause-done
returns-then-not-are_done-clause-done c = λ s booked opened.
    let same = ap (λ (s : Shelved). s.ledger) c.self-in-loop-entry.view_is in
    let sound = subst IsSound same c.self-in-loop-entry.invariant.1 in
    let rows = ap (λ (s : Shelved). s.ledger.entries) c.self.view_is in
    let ends = ends_of c.args.self.now.ledger.entries c.as_slice.result.now c.as_slice-2.result.now c.args.job c.args.range c.entry_from-from.result c.entry_from-to.result (c.as_slice.ensures.value ∙ rows) (c.as_slice-2.ensures.value ∙ rows) c.entry_from-from.ensures.inside c.entry_from-from.ensures.before c.entry_from-from.ensures.behind c.entry_from-to.ensures.inside c.entry_from-to.ensures.before c.entry_from-to.ensures.behind in
    let i = c.loop-entry.invariant in
    let is_job = subst (λ (s : Shelved). IsJob s.ledger.entries c.args.job) (sym i.same) c.requires.2 in
    let first : c.args.job.first ≤ c.loop-entry.entry = (let f = ends.from_in in omega (arith, f, i.from)) in
    let end : c.loop-entry.entry < c.args.job.end = (let u = ends.upto_in in let t = c.loop-entry-test.true in omega (arith, u, t)) in
    let e = entry_there c.loop-entry.self.ledger.entries c.loop-entry.entry (let f = is_job.from in omega (arith, f, first)) (let w = is_job.within in omega (arith, w, end)) in
    let is : entry_of c.self-in-loop-entry.inside.book.entries.items c.loop-entry.entry ≡ Some e.0 = ap (λ (s : Ledger). entry_of s.entries c.loop-entry.entry) same ∙ e.1 in
    let last = task_last (ledger_of c.self-in-loop-entry.inside.book) c.self-in-loop-entry.invariant.1 c.loop-entry.entry e.0 c.index.result.now is c.index.ensures ∙ ap (λ (l : Ledger). last_of l e.0.cell c.loop-entry.entry) same in
    let at = task_at c.loop-entry.self.ledger c.args.job is_job c.loop-entry.entry e.0 first end e.1 in
    let held = subst (λ (x : Shelved). IsBooked s x.ledger) (sym i.same) booked in
    let d = done_is s c.loop-entry.self.ledger sound held e.0.cell c.args.job.task c.loop-entry.entry at c.index.result.now.last last c.are_done.result c.are_done.ensures.none c.are_done.ensures.done in
    let here : entry_of c.args.self.now.ledger.entries c.loop-entry.entry ≡ Some e.0 = ap (λ (s : Shelved). entry_of s.ledger.entries c.loop-entry.entry) (sym i.same) ∙ e.1 in (
      λ h. absurd (let q : false ≡ true = h in cc),
      λ all.
          absurd (let a : c.are_done.result ≡ true = d.1 (all e.0.cell (ends.at_least c.loop-entry.entry e.0 i.from end here) (ends.less c.loop-entry.entry e.0 first c.loop-entry-test.true here)) in let b : c.are_done.result ≡ false = c.if-not-are_done.true in cc),
    )

pub loop-entry-preserved : goal.loop-entry-preserved
loop-entry-preserved c =
    let same = ap (λ (s : Shelved). s.ledger) c.self-in-loop-entry.view_is in
    let sound = subst IsSound same c.self-in-loop-entry.invariant.1 in
    let rows = ap (λ (s : Shelved). s.ledger.entries) c.self.view_is in
    let ends = ends_of c.args.self.now.ledger.entries c.as_slice.result.now c.as_slice-2.result.now c.args.job c.args.range c.entry_from-from.result c.entry_from-to.result (c.as_slice.ensures.value ∙ rows) (c.as_slice-2.ensures.value ∙ rows) c.entry_from-from.ensures.inside c.entry_from-from.ensures.before c.entry_from-from.ensures.behind c.entry_from-to.ensures.inside c.entry_from-to.ensures.before c.entry_from-to.ensures.behind in
    let i = c.loop-entry.invariant in
    let is_job = subst (λ (s : Shelved). IsJob s.ledger.entries c.args.job) (sym i.same) c.requires.2 in
    let first : c.args.job.first ≤ c.loop-entry.entry = (let f = ends.from_in in omega (arith, f, i.from)) in
    let end : c.loop-entry.entry < c.args.job.end = (let u = ends.upto_in in let t = c.loop-entry-test.true in omega (arith, u, t)) in
    let e = entry_there c.loop-entry.self.ledger.entries c.loop-entry.entry (let f = is_job.from in omega (arith, f, first)) (let w = is_job.within in omega (arith, w, end)) in
    let is : entry_of c.self-in-loop-entry.inside.book.entries.items c.loop-entry.entry ≡ Some e.0 = ap (λ (s : Ledger). entry_of s.entries c.loop-entry.entry) same ∙ e.1 in
    let last = task_last (ledger_of c.self-in-loop-entry.inside.book) c.self-in-loop-entry.invariant.1 c.loop-entry.entry e.0 c.index.result.now is c.index.ensures ∙ ap (λ (l : Ledger). last_of l e.0.cell c.loop-entry.entry) same in
    let at = task_at c.loop-entry.self.ledger c.args.job is_job c.loop-entry.entry e.0 first end e.1 in
    record {
      done = λ s booked v x from less h.
          let held = subst (λ (x : Shelved). IsBooked s x.ledger) (sym i.same) booked in
          let d = done_is s c.loop-entry.self.ledger sound held e.0.cell c.args.job.task c.loop-entry.entry at c.index.result.now.last last c.are_done.result c.are_done.ensures.none c.are_done.ensures.done in
          next_case v c.loop-entry.entry (AreChildrenDone s.opens s.given c.args.job.task x.cell) less (λ k. i.done s booked v x from k h)
          (λ k. let one : e.0 ≡ x = some_is (sym e.1 ∙ (ap (λ (s : Shelved). entry_of s.ledger.entries c.loop-entry.entry) i.same ∙ (ap (entry_of c.args.self.now.ledger.entries) (sym k) ∙ h))) in
          subst (λ (y : Entry). AreChildrenDone s.opens s.given c.args.job.task y.cell) one (d.0 c.if-not-are_done.false));
      same = c.are_done.ensures.same ∙ i.same;
      from = omega (arith, i.from);
    }

pub returns-clause-done : goal.returns-clause-done
returns-clause-done c = λ s booked opened.
    let rows = ap (λ (s : Shelved). s.ledger.entries) c.self.view_is in
    let ends = ends_of c.args.self.now.ledger.entries c.as_slice.result.now c.as_slice-2.result.now c.args.job c.args.range c.entry_from-from.result c.entry_from-to.result (c.as_slice.ensures.value ∙ rows) (c.as_slice-2.ensures.value ∙ rows) c.entry_from-from.ensures.inside c.entry_from-from.ensures.before c.entry_from-from.ensures.behind c.entry_from-to.ensures.inside c.entry_from-to.ensures.before c.entry_from-to.ensures.behind in
    let rise = ends_rise c.args.self.now.ledger.entries c.args.job c.args.range c.entry_from-from.result c.entry_from-to.result c.requires.2 ends c.entry_from-to.ensures.inside.0 c.entry_from-from.ensures.inside.1 in
    let at : c.loop-entry.entry ≡ c.entry_from-to.result = (let e = c.loop-entry.auto.entry-end rise in let f = c.loop-entry-test.false in omega (arith, e, f)) in
    (λ h. all_done s c.args.self.now.ledger c.args.job c.args.range c.entry_from-from.result c.entry_from-to.result booked c.requires.2 opened ends (λ v e from less is. c.loop-entry.invariant.done s booked v e from (omega (arith, at, less)) is), λ h. refl)
