use Rattle.oss_explain.proofs.FollowingLemmas.{following_begins}
use Rattle.oss_explain.proofs.run.explain.Goals as goal

pub explain_from-requires : goal.explain_from-requires
explain_from-requires c =
    record { layout = c.requires.layout; follows = following_begins c.args.code.now c.args.fuel c.in-Ok.stage c.in_ok-ledger.ledger c.in-Ok.ensures.stage c.in-Ok.ensures.setting c.in_ok-ledger.ensures.top c.in_ok-ledger.ensures.above }
