use Rattle.std.proofs.Common.{◌≡◌, ◌+◌, ◌*◌, sym, ap, ◌∙◌, arith, refl, ℕ, Some}
use Rattle.std.specs.Prelude.{slice_index}
use Rattle.oss_words.specs.Bits.{state_at}
use Rattle.oss_filing.specs.Counted.{adds_to}
use Rattle.oss_filing.specs.Filed.{state_in}
use Rattle.oss_filing.proofs.CountLemmas.{adds_none, summed_more, summed_small}
use Rattle.oss_filing.proofs.FollowLemmas.{read_row, row_read}
use Rattle.oss_filing.proofs.counting.add_all.Goals as goal

pub add_row-requires-clause-inside : goal.add_row-requires-clause-inside
add_row-requires-clause-inside c =
    let t = c.requires.tasks (c.loop-at.at + 1) (read_row c.args.rows.now c.loop-at.at) (row_read c.args.rows.now c.loop-at.at c.loop-at-test.true) in
    let s = c.loop-at.invariant.size in
    let l = t.1 in
    let r = c.requires.size in
    omega (arith, l, s, r)

pub add_row-requires-clause-small : goal.add_row-requires-clause-small
add_row-requires-clause-small c =
    let row = read_row c.args.rows.now c.loop-at.at in
    let is = row_read c.args.rows.now c.loop-at.at c.loop-at-test.true in
    let a = c.loop-at.invariant.added row.info.task (record { entry = c.loop-at.at + 1; row = row; is = is; task = refl }) in
    let b = summed_small c.args.rows.now c.args.words.now row.info.task (1 + c.loop-at.at) in
    let l = c.loop-at-test.true in
    let m = c.requires.most in
    omega (arith, a, b, l, m)

pub loop-at-preserved : goal.loop-at-preserved
loop-at-preserved c =
    let i = c.loop-at.invariant in
    let row = read_row c.args.rows.now c.loop-at.at in
    let is = row_read c.args.rows.now c.loop-at.at c.loop-at-test.true in
    let word : 2 * c.loop-at.at + 3 ≡ 1 + 2 * (c.loop-at.at + 1) = omega arith in
    let adds = λ (t : ℕ). c.add_row.ensures.adds t ∙ ap (λ (x : ℕ). adds_to t (Some row) (state_at (slice_index c.args.words.now x)) + slice_index c.loop-at.counts.items t) word in
    record {
      size = c.add_row.ensures.size ∙ i.size;
      added = λ t has. adds t ∙ (ap (λ (x : ℕ). adds_to t (Some row) (state_in c.args.words.now (c.loop-at.at + 1)) + x) (i.added t has) ∙ sym (summed_more c.args.rows.now c.args.words.now t c.loop-at.at row is));
      others = λ t none.
          let a = adds t in
          let b = adds_none c.args.rows.now t (c.loop-at.at + 1) row (state_in c.args.words.now (c.loop-at.at + 1)) is none in
          let d = i.others t none in
          omega (arith, a, b, d);
    }
