use Rattle.std.specs.Prelude.{◌||◌}
use Rattle.oss_deps.specs.Kept.{is_cut}
use Rattle.oss_deps.specs.Seen.{is_access_end}
use Rattle.oss_deps.proofs.AskLemmas.{item_in}
use Rattle.oss_deps.proofs.CutLemmas.{asked_both, asked_stretches, asked_divided, cut_left, cut_done}
use Rattle.oss_deps.proofs.cutting.ask_all.Goals as goal

pub ask_ends-requires-clause-stretches : goal.ask_ends-requires-clause-stretches
ask_ends-requires-clause-stretches c = asked_stretches c.args.map.now.pieces c.args.columns.now.items c.loop-access.columns.items c.loop-access.invariant.same c.requires.stretches

pub ask_ends-requires-clause-begins : goal.ask_ends-requires-clause-begins
ask_ends-requires-clause-begins c = asked_divided c.args.columns.now.items c.loop-access.columns.items c.loop-access.invariant.same c.access-item.result.range.lo (c.requires.begins c.access-item.result (item_in c.args.accesses.now c.loop-access.access-index c.access-item.result c.loop-access-test.true c.access-item.is))

pub ask_ends-requires-clause-ends : goal.ask_ends-requires-clause-ends
ask_ends-requires-clause-ends c = asked_divided c.args.columns.now.items c.loop-access.columns.items c.loop-access.invariant.same c.access-item.result.range.hi (c.requires.ends c.access-item.result (item_in c.args.accesses.now c.loop-access.access-index c.access-item.result c.loop-access-test.true c.access-item.is))

pub loop-access-preserved : goal.loop-access-preserved
loop-access-preserved c = record {
  same = asked_both c.args.columns.now.items c.loop-access.columns.items c.ask_ends.new.columns.items c.loop-access.invariant.same c.ask_ends.ensures.same;
  cuts = λ k. cut_left (is_cut c.loop-access.columns.items c.loop-access.ended k) (is_cut c.ask_ends.new.columns.items c.ask_ends.new.ended k) c.args.accesses.now c.loop-access.access-index c.access-item.result k (is_cut c.args.columns.now.items c.args.ended.now k || is_access_end c.args.accesses.now k) c.loop-access-test.true c.access-item.is (c.loop-access.invariant.cuts k) (c.ask_ends.ensures.cuts k);
}

pub returns-clause-cuts : goal.returns-clause-cuts
returns-clause-cuts c = λ k. cut_done (is_cut c.loop-access.columns.items c.loop-access.ended k) c.args.accesses.now c.loop-access.access-index k (is_cut c.args.columns.now.items c.args.ended.now k || is_access_end c.args.accesses.now k) c.loop-access-test.false (c.loop-access.invariant.cuts k)
