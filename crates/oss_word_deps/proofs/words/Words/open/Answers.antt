use Rattle.std.proofs.Common.{◌<◌, ℕ, ap, sym, subst, ◌∙◌, length, arith, rules}
use Rattle.oss_word_deps.specs.Known.{Follows, IsAlone}
use Rattle.oss_word_deps.specs.Ledger.{Ledger, ledger_of}
use Rattle.oss_word_deps.specs.Shelved.{IsJobFor, MayOpenAs, Shelved}
use Rattle.oss_word_deps.proofs.OpenLemmas.{follows_on, may_extend, opened, opened_is, parent_free, parents_hold}
use Rattle.oss_word_deps.proofs.words.Words.open.Goals as goal

pub extend-requires-clause-may : goal.extend-requires-clause-may
extend-requires-clause-may c =
    let r = c.requires.may in
    let same = ap (λ (s : Shelved). s.ledger) c.self.view_is in
    let may = subst (λ (l : Ledger). MayOpenAs r.0 r.1 c.args.task c.args.parent c.args.accesses.now l) (sym same) r.2 in
    let job = subst (λ (l : Ledger). IsJobFor l c.args.parent c.job-creator.result) (sym same) c.job-creator.ensures in
    (r.0, r.1, may_extend r.0 r.1 c.args.task c.args.parent c.args.accesses.now (ledger_of c.self.inside.book) c.job-creator.result c.self.invariant.1 may job, may.task_is, may.accesses_are)

pub extend-requires-clause-most : goal.extend-requires-clause-most
extend-requires-clause-most c =
    let a = ap (λ (s : Shelved). length s.ledger.entries) c.self.view_is in
    let b = ap (λ (s : Shelved). s.size) c.self.view_is in
    omega (arith, a, b, c.requires.room.net, c.self.invariant.0.most)

pub link_from-requires-clause-free : goal.link_from-requires-clause-free
link_from-requires-clause-free c = λ v e less is among.
    let r = c.requires.may in
    let same = ap (λ (s : Shelved). s.ledger) c.self.view_is in
    let may = subst (λ (l : Ledger). MayOpenAs r.0 r.1 c.args.task c.args.parent c.args.accesses.now l) (sym same) r.2 in
    let job = subst (λ (l : Ledger). IsJobFor l c.args.parent c.job-creator.result) (sym same) c.job-creator.ensures in
    let extends = may_extend r.0 r.1 c.args.task c.args.parent c.args.accesses.now (ledger_of c.self.inside.book) c.job-creator.result c.self.invariant.1 may job in
    let now = opened_is r.0 r.1 in
    let booked = c.extend.ensures.booked r.0 (opened r.0 r.1) r.1 extends may.task_is may.accesses_are now in
    let behind : length c.self.inside.book.entries.items < v = search rules in
    let held = parents_hold r.0 (opened r.0 r.1) r.1 (ledger_of c.extend.new.book) may.can now booked c.extend.ensures.sound v e is (c.extend.ensures.new v e behind is ∙ sym may.task_is) in
    parent_free (ledger_of c.self.inside.book) (ledger_of c.extend.new.book) c.self.inside.net.known c.self.inside.net.size e.info.parent c.self.invariant.0 c.extend.ensures.front held among

pub invariant_of-self : goal.invariant_of-self
invariant_of-self c =
    let a = ap (λ (s : Shelved). length s.ledger.entries) c.self.view_is in
    let b = ap (λ (s : Shelved). s.size) c.self.view_is in
    let e = c.link_from.ensures in
    let f = follows_on (ledger_of c.self.inside.book) (ledger_of c.extend.new.book) c.self.inside.net.known c.link_from.new.net.known c.self.inside.net.size c.self.invariant.0 c.self.invariant.1 c.extend.ensures.sound c.extend.ensures.front (subst (λ (n : ℕ). IsAlone c.link_from.new.net.known n) e.size e.alone.0) e.alone.1 e.linked e.gives (omega (arith, a, b, c.requires.room.net, c.extend.ensures.count)) in
    (subst (λ (n : ℕ). Follows c.link_from.new.net.known n (ledger_of c.extend.new.book)) (sym e.size) f, c.extend.ensures.sound)

pub returns-clause-booked : goal.returns-clause-booked
returns-clause-booked c = λ s t o may now.
    let same = ap (λ (s : Shelved). s.ledger) c.self.view_is in
    let may_here = subst (λ (l : Ledger). MayOpenAs s o c.args.task c.args.parent c.args.accesses.now l) (sym same) may in
    let job = subst (λ (l : Ledger). IsJobFor l c.args.parent c.job-creator.result) (sym same) c.job-creator.ensures in
    c.extend.ensures.booked s t o (may_extend s o c.args.task c.args.parent c.args.accesses.now (ledger_of c.self.inside.book) c.job-creator.result c.self.invariant.1 may_here job) may.task_is may.accesses_are now
