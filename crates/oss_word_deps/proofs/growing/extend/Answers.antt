use Rattle.std.proofs.Common.{◌≡◌, ◌+◌, ◌<◌, ◌-◌, ℕ, refl, sym, subst, ◌∙◌, length, arith, rules}
use Rattle.oss_deps.specs.Opens.{IsRising}
use Rattle.oss_word_deps.specs.Growing.{HasNew, IsGrowing}
use Rattle.oss_word_deps.specs.Ledger.{ledger_of}
use Rattle.oss_word_deps.proofs.ExtendLemmas.{all_written, count_next, count_within, item_is, may_write, writing_next, written_none}
use Rattle.oss_word_deps.proofs.WritingLemmas.{booked_now, depth_less}
use Rattle.oss_word_deps.proofs.growing.extend.Goals as goal

pub depth_below-depth-requires : goal.depth_below-depth-requires
depth_below-depth-requires c = let r = c.requires.may in depth_less r.0 r.1 c.args.creator (ledger_of c.args.book.now) r.2

pub loop-access-init : goal.loop-access-init
loop-access-init c =
    let first : length c.args.book.now.entries.items + 1 ≡ c.len.result + 1 = search rules in
    record {
      written = λ s o may same accesses.
          written_none s o c.args.creator c.args.accesses.now (ledger_of c.args.book.now) may accesses c.depth_below-depth.result (c.len.result + 1) c.depth_below-depth.ensures.none c.depth_below-depth.ensures.some first;
      count = omega arith;
      same = record { entries = search rules; marks = search rules; jobs = search rules };
    }

pub add_over-requires-clause-may : goal.add_over-requires-clause-may
add_over-requires-clause-may c =
    let r = c.requires.may in
    let item = item_is c.args.accesses.now c.loop-access.access-index c.access-item.result c.loop-access-test.true c.access-item.is in
    let first : length c.args.book.now.entries.items + 1 ≡ c.len.result + 1 = search rules in
    let k = count_within c.args.accesses.now c.loop-access.access-index c.access-item.result item in
    let less : length c.loop-access.book.entries.items + (c.access-item.result.range.hi - c.access-item.result.range.lo) < 16777216 = omega (arith, k, c.loop-access.invariant.count, c.requires.most) in
    (r.0, r.1, may_write r.0 r.1 c.args.creator c.args.accesses.now (ledger_of c.args.book.now) r.2 r.4 c.depth_below-depth.result (c.len.result + 1) c.depth_below-depth.ensures.none c.depth_below-depth.ensures.some first (ledger_of c.loop-access.book) c.loop-access.access-index c.access-item.result (c.loop-access.invariant.written r.0 r.1 r.2 r.3 r.4) item less, r.3)

pub add_over-requires-clause-most : goal.add_over-requires-clause-most
add_over-requires-clause-most c =
    let item = item_is c.args.accesses.now c.loop-access.access-index c.access-item.result c.loop-access-test.true c.access-item.is in
    let k = count_within c.args.accesses.now c.loop-access.access-index c.access-item.result item in
    omega (arith, k, c.loop-access.invariant.count, c.requires.most)

pub add_over-requires-clause-room : goal.add_over-requires-clause-room
add_over-requires-clause-room c =
    let item = item_is c.args.accesses.now c.loop-access.access-index c.access-item.result c.loop-access-test.true c.access-item.is in
    let k = count_within c.args.accesses.now c.loop-access.access-index c.access-item.result item in
    let i = c.loop-access.invariant in
    let r = c.requires.room.0 in
    record { entries = omega (arith, k, i.count, r.entries, i.same.entries); marks = omega (arith, k, i.count, r.marks, i.same.marks) }

pub loop-access-preserved : goal.loop-access-preserved
loop-access-preserved c =
    let i = c.loop-access.invariant in
    let item = item_is c.args.accesses.now c.loop-access.access-index c.access-item.result c.loop-access-test.true c.access-item.is in
    let first : length c.args.book.now.entries.items + 1 ≡ c.len.result + 1 = search rules in
    let k = count_within c.args.accesses.now c.loop-access.access-index c.access-item.result item in
    let less : length c.loop-access.book.entries.items + (c.access-item.result.range.hi - c.access-item.result.range.lo) < 16777216 = omega (arith, k, i.count, c.requires.most) in
    record {
      written = λ s o may same accesses.
          writing_next s o c.depth_below-depth.result (c.len.result + 1) c.loop-access.access-index c.args.accesses.now (ledger_of c.args.book.now) (ledger_of c.loop-access.book) (ledger_of c.add_over.new.book) c.access-item.result
          (subst IsRising accesses may.can.rising) (i.written s o may same accesses) item
          (c.add_over.ensures.grown s o (may_write s o c.args.creator c.args.accesses.now (ledger_of c.args.book.now) may accesses c.depth_below-depth.result (c.len.result + 1) c.depth_below-depth.ensures.none c.depth_below-depth.ensures.some first (ledger_of c.loop-access.book) c.loop-access.access-index c.access-item.result (i.written s o may same accesses) item less) same);
      count = (let k = count_next c.args.accesses.now c.loop-access.access-index c.access-item.result item in omega (arith, k, i.count, c.add_over.ensures.count));
      same = record { entries = c.add_over.ensures.same.entries ∙ i.same.entries; marks = c.add_over.ensures.same.marks ∙ i.same.marks; jobs = c.add_over.ensures.same.jobs ∙ i.same.jobs };
    }

pub returns-clause-booked : goal.returns-clause-booked
returns-clause-booked c = λ s t o may same accesses now.
    let w = c.loop-access.invariant.written s o may same accesses in
    let first : c.len.result + 1 ≡ length c.args.book.now.entries.items + 1 = search rules in
    let growing = subst (λ (f : ℕ). IsGrowing s o c.depth_below-depth.result f w.upto (ledger_of c.loop-access.book)) first w.growing in
    booked_now s o c.args.creator (ledger_of c.args.book.now) may c.depth_below-depth.result c.depth_below-depth.ensures.none c.depth_below-depth.ensures.some t now (ledger_of c.loop-access.book) (record {
      entries = c.loop-access.book.entries.items;
      marks = c.loop-access.book.marks.items;
      jobs = c.push_reserved.new.self.items;
      mains = c.loop-access.book.mains.items;
    }) w.upto growing w.jobs (λ a k listed from before. subst (λ (f : ℕ). HasNew c.loop-access.book.entries.items f k) first (all_written s o c.depth_below-depth.result (c.len.result + 1) c.loop-access.access-index c.args.accesses.now (ledger_of c.args.book.now) (ledger_of c.loop-access.book) accesses w c.loop-access-test.false a k listed from before))
    refl refl refl (record { task = c.args.task; depth = c.depth_below-depth.result; first = c.len.result + 1; end = c.len-2.result + 1 }) c.push_reserved.ensures.items (sym same) refl first (let e : c.len-2.result + 1 ≡ length c.loop-access.book.entries.items + 1 = search rules in e)

pub returns-clause-sound : goal.returns-clause-sound
returns-clause-sound c = let r = c.requires.may in let w = (c.loop-access.invariant.written r.0 r.1 r.2 r.3 r.4).growing.sound in record { fits = w.fits; marks = w.marks; mains = w.mains }

pub returns-clause-new : goal.returns-clause-new
returns-clause-new c = λ v e less is.
    let r = c.requires.may in
    let first : c.len.result + 1 ≡ length c.args.book.now.entries.items + 1 = search rules in
    sym ((c.loop-access.invariant.written r.0 r.1 r.2 r.3 r.4).growing.of_new v e (omega (arith, first, less)) is).0.task ∙ r.3
