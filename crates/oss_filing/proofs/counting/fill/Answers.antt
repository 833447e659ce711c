use Rattle.std.proofs.Common.{◌<◌, ◌+◌, inl, inr, sym, ◌∙◌, arith, length, rules}
use Rattle.std.proofs.lemmas.List.{length-set}
use Rattle.oss_filing.proofs.CountLemmas.{before_next, cleared, cleared_else, cleared_here, has_before}
use Rattle.oss_filing.proofs.FollowLemmas.{read_row, row_read}
use Rattle.oss_filing.proofs.counting.fill.Goals as goal

pub index_mut-requires-in-loop-at : goal.index_mut-requires-in-loop-at
index_mut-requires-in-loop-at c =
    let t = c.requires.tasks (c.loop-at.at + 1) (read_row c.args.rows.now c.loop-at.at) (row_read c.args.rows.now c.loop-at.at c.loop-at-test.true) in
    let s = c.loop-at.invariant.size in
    let l = t.1 in
    (let r = c.requires.size in omega (arith, l, s, r))

pub loop-at-preserved : goal.loop-at-preserved
loop-at-preserved c =
    let i = c.loop-at.invariant in
    let row = read_row c.args.rows.now c.loop-at.at in
    let is = row_read c.args.rows.now c.loop-at.at c.loop-at-test.true in
    let tasks = c.requires.tasks (c.loop-at.at + 1) row is in
    let inside : row.info.task < length c.loop-at.counts.items = (let s = i.size in let l = tasks.1 in let r = c.requires.size in omega (arith, l, s, r)) in
    record {
      size = length-set c.loop-at.counts.items row.info.task 0 ∙ i.size;
      main = cleared c.loop-at.counts.items row.info.task 0 inside i.main;
      filled = λ t b. elim (before_next c.args.rows.now c.loop-at.at t c.loop-at-test.true b) [
        | inl old ↦ cleared c.loop-at.counts.items row.info.task t inside (i.filled t old)
        | inr new ↦ cleared_here c.loop-at.counts.items row.info.task t inside (sym new)
      ];
      others = λ t ne none. cleared_else c.loop-at.counts.items row.info.task t (λ q. none (record { entry = c.loop-at.at + 1; row = row; is = is; task = sym q })) ∙ i.others t ne none;
    }

pub returns-clause-filled : goal.returns-clause-filled
returns-clause-filled c t has = c.loop-at.invariant.filled t (has_before c.args.rows.now c.loop-at.at t (search rules) has)
