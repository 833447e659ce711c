use Rattle.std.specs.Prelude.{◌||◌}
use Rattle.oss_fragments.specs.Kept.{is_cut_by}
use Rattle.oss_deps.specs.Seen.{is_access_end}
use Rattle.oss_deps.proofs.AskLemmas.{item_in}
use Rattle.oss_fragments.proofs.CutLemmas.{asked_both, asked_are, asked_divided, cut_left, cut_done}
use Rattle.oss_fragments.proofs.cutting.ask_all.Goals as goal

pub ask_ends-requires-clause-are : goal.ask_ends-requires-clause-are
ask_ends-requires-clause-are c = asked_are c.args.map.now.pieces c.args.fragments.now.items c.loop-access.fragments.items c.loop-access.invariant.same c.requires.are

pub ask_ends-requires-clause-begins : goal.ask_ends-requires-clause-begins
ask_ends-requires-clause-begins c = asked_divided c.args.fragments.now.items c.loop-access.fragments.items c.loop-access.invariant.same c.access-item.result.range.lo (c.requires.begins c.access-item.result (item_in c.args.accesses.now c.loop-access.access-index c.access-item.result c.loop-access-test.true c.access-item.is))

pub ask_ends-requires-clause-ends : goal.ask_ends-requires-clause-ends
ask_ends-requires-clause-ends c = asked_divided c.args.fragments.now.items c.loop-access.fragments.items c.loop-access.invariant.same c.access-item.result.range.hi (c.requires.ends c.access-item.result (item_in c.args.accesses.now c.loop-access.access-index c.access-item.result c.loop-access-test.true c.access-item.is))

pub loop-access-preserved : goal.loop-access-preserved
loop-access-preserved c = record {
  same = asked_both c.args.fragments.now.items c.loop-access.fragments.items c.ask_ends.new.fragments.items c.loop-access.invariant.same c.ask_ends.ensures.same;
  cuts = λ k. cut_left (is_cut_by c.loop-access.fragments.items c.loop-access.ended k) (is_cut_by c.ask_ends.new.fragments.items c.ask_ends.new.ended k) c.args.accesses.now c.loop-access.access-index c.access-item.result k (is_cut_by c.args.fragments.now.items c.args.ended.now k || is_access_end c.args.accesses.now k) c.loop-access-test.true c.access-item.is (c.loop-access.invariant.cuts k) (c.ask_ends.ensures.cuts k);
}

pub returns-clause-cuts : goal.returns-clause-cuts
returns-clause-cuts c = λ k. cut_done (is_cut_by c.loop-access.fragments.items c.loop-access.ended k) c.args.accesses.now c.loop-access.access-index k (is_cut_by c.args.fragments.now.items c.args.ended.now k || is_access_end c.args.accesses.now k) c.loop-access-test.false (c.loop-access.invariant.cuts k)
