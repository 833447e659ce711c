use Rattle.oss_fragments.proofs.DivideLemmas.{finer_both}
use Rattle.oss_fragments.proofs.reserving.split_around.Goals as goal

pub returns-in_err-split-2-clause-finer : goal.returns-in_err-split-2-clause-finer
returns-in_err-split-2-clause-finer c = finer_both c.args.map.now.pieces c.args.fragments.now.items c.split.new.map.pieces c.split.new.fragments.items c.split-2.new.map.pieces c.split-2.new.fragments.items c.split.ensures.finer c.split-2.ensures.finer

pub returns-clause-finer : goal.returns-clause-finer
returns-clause-finer c = finer_both c.args.map.now.pieces c.args.fragments.now.items c.split.new.map.pieces c.split.new.fragments.items c.split-2.new.map.pieces c.split-2.new.fragments.items c.split.ensures.finer c.split-2.ensures.finer

pub returns-clause-begins : goal.returns-clause-begins
returns-clause-begins c = c.split-2.ensures.finer.divided (c.split.ensures.finer.some c.requires.some) c.args.range.lo c.in_ok-split.ensures.divided
