use Rattle.std.proofs.Common.{refl}
use Rattle.oss_core.proofs.RangeLemmas.{range_cleared}
use Rattle.oss_core.proofs.GoingLemmas.{read_is}
use Rattle.oss_core.proofs.ranges_given.clear_range.Goals as goal

pub returns : goal.returns
returns c =
    range_cleared c.args.tasks.now.items c.args.at c.args.range.lo c.args.range.hi c.index_mut-held.result.now (record { body = c.index_mut-held.result.now.body; owed = c.clear.new.self }) c.is_empty.result
    (read_is c.args.tasks.now.items c.args.at c.index_mut-held.result.now c.requires.owes.held c.requires.owes.is c.index_mut-held.ensures.value) refl c.in_ok-clear.ensures.map c.is_empty.ensures
