use Rattle.std.proofs.Common.{◌≡◌, ℕ, refl, ap, subst, ◌∙◌, arith}
use Rattle.oss_word_deps.specs.Shelved.{Shelved}
use Rattle.oss_word_deps.specs.Sound.{IsSound}
use Rattle.oss_word_deps.proofs.GiveLemmas.{IsFreeing, ends_of, ends_rise, freed_booked, freeing_begins, freeing_on, may_free, rows_freed, rows_refl}
use Rattle.oss_word_deps.proofs.words.Words.give_over.Goals as goal

pub loop-entry-init : goal.loop-entry-init
loop-entry-init c = record {
  rows = rows_refl c.args.self.now.ledger;
  same = record { size = refl; entries = refl; marks = refl; jobs = refl };
  sound = subst IsSound (ap (λ (s : Shelved). s.ledger) c.self.view_is) c.self.invariant.1;
  from = omega arith;
  freeing = λ s may. freeing_begins s c.args.job.task c.entry_from-from.result c.args.self.now.ledger may.booked;
}

pub give_one-requires : goal.give_one-requires
give_one-requires c =
    let i = c.loop-entry.invariant in
    let r = c.requires.may in
    let rows = ap (λ (s : Shelved). s.ledger.entries) c.self.view_is in
    let ends = ends_of c.args.self.now.ledger.entries c.as_slice.result.now c.as_slice-2.result.now c.args.job c.args.range c.entry_from-from.result c.entry_from-to.result (c.as_slice.ensures.value ∙ rows) (c.as_slice-2.ensures.value ∙ rows) c.entry_from-from.ensures.inside c.entry_from-from.ensures.before c.entry_from-from.ensures.behind c.entry_from-to.ensures.inside c.entry_from-to.ensures.before c.entry_from-to.ensures.behind in
    may_free r.0 c.args.job c.args.range c.args.self.now.ledger r.1 c.entry_from-from.result c.entry_from-to.result ends c.loop-entry.self.ledger i.rows c.loop-entry.entry i.from c.loop-entry-test.true (i.freeing r.0 r.1)

pub loop-entry-preserved : goal.loop-entry-preserved
loop-entry-preserved c =
    let i = c.loop-entry.invariant in
    let rows = ap (λ (s : Shelved). s.ledger.entries) c.self.view_is in
    let ends = ends_of c.args.self.now.ledger.entries c.as_slice.result.now c.as_slice-2.result.now c.args.job c.args.range c.entry_from-from.result c.entry_from-to.result (c.as_slice.ensures.value ∙ rows) (c.as_slice-2.ensures.value ∙ rows) c.entry_from-from.ensures.inside c.entry_from-from.ensures.before c.entry_from-from.ensures.behind c.entry_from-to.ensures.inside c.entry_from-to.ensures.before c.entry_from-to.ensures.behind in
    let same = c.give_one.ensures.same in
    record {
      rows = rows_freed c.args.self.now.ledger c.loop-entry.self.ledger c.give_one.new.self.ledger c.loop-entry.entry i.rows c.give_one.ensures.freed;
      same = record { size = same.size ∙ i.same.size; entries = same.entries ∙ i.same.entries; marks = same.marks ∙ i.same.marks; jobs = same.jobs ∙ i.same.jobs };
      sound = c.give_one.ensures.sound;
      from = omega (arith, i.from);
      freeing = λ s may. freeing_on s c.args.job c.args.range c.args.self.now.ledger may c.entry_from-from.result c.entry_from-to.result ends c.loop-entry.self.ledger c.give_one.new.self.ledger i.rows c.loop-entry.entry i.from c.loop-entry-test.true i.sound (i.freeing s may) c.give_one.ensures.freed;
    }

pub returns-clause-booked : goal.returns-clause-booked
returns-clause-booked c = λ s t may gives.
    let i = c.loop-entry.invariant in
    let rows = ap (λ (s : Shelved). s.ledger.entries) c.self.view_is in
    let ends = ends_of c.args.self.now.ledger.entries c.as_slice.result.now c.as_slice-2.result.now c.args.job c.args.range c.entry_from-from.result c.entry_from-to.result (c.as_slice.ensures.value ∙ rows) (c.as_slice-2.ensures.value ∙ rows) c.entry_from-from.ensures.inside c.entry_from-from.ensures.before c.entry_from-from.ensures.behind c.entry_from-to.ensures.inside c.entry_from-to.ensures.before c.entry_from-to.ensures.behind in
    let rise = ends_rise c.args.self.now.ledger.entries c.args.job c.args.range c.entry_from-from.result c.entry_from-to.result may.is_job ends c.entry_from-to.ensures.inside.0 c.entry_from-from.ensures.inside.1 in
    let at : c.loop-entry.entry ≡ c.entry_from-to.result = (let e = c.loop-entry.auto.entry-end rise in let f = c.loop-entry-test.false in omega (arith, e, f)) in
    freed_booked s c.args.job c.args.range c.args.self.now.ledger may c.entry_from-from.result c.entry_from-to.result ends c.loop-entry.self.ledger i.rows t gives
    (subst (λ (n : ℕ). IsFreeing s c.args.job.task c.entry_from-from.result n c.loop-entry.self.ledger) at (i.freeing s may))
