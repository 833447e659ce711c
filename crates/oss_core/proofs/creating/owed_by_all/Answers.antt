use Rattle.std.proofs.Common.{refl, length}
use Rattle.std.proofs.lemmas.Option.{slice_get_read}
use Rattle.oss_core.proofs.OwedLemmas.{owed_more}
use Rattle.oss_core.proofs.creating.owed_by_all.Goals as goal

pub loop-access-preserved : goal.loop-access-preserved
loop-access-preserved c =
    owed_more c.args.accesses.now c.requires c.loop-access.access-index c.access-item.result
    (slice_get_read c.args.accesses.now (length c.args.accesses.now) c.loop-access.access-index c.access-item.result refl c.loop-access-test.true c.access-item.is)
    c.loop-access.owed.pieces c.assign.new.self.pieces c.loop-access.invariant c.owed_of.result c.owed_of.ensures c.in_ok-assign.ensures.map
