use Rattle.oss_span_check.proofs.FollowLemmas.{recording_first}
use Rattle.oss_span_check.proofs.run.check_chain.Goals as goal

pub check_from-requires : goal.check_from-requires
check_from-requires c =
    recording_first c.args.code.now c.args.fuel c.in-Ok.stage c.in-Ok.ensures.stage c.in-Ok.ensures.setting c.new-watch.result c.new-watch.ensures.notes c.new-watch.ensures.made c.new-watch.ensures.acts c.new-watch.ensures.above
