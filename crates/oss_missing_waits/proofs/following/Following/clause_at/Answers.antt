use Rattle.oss_missing_waits.proofs.FollowLemmas.{child_has, main_has, none_of, some_of}
use Rattle.oss_missing_waits.proofs.following.Following.clause_at.Goals as goal

pub returns-then-alone : goal.returns-then-alone
returns-then-alone c all w n said s = main_has c.args.self.now c.args.cell (none_of c.is_empty-alone.result c.is_empty-alone.ensures c.if-alone.true) all w n s

pub returns-else-alone : goal.returns-else-alone
returns-else-alone c = child_has c.args.tasks.now c.args.self.now c.args.cell c.said_of.result (some_of c.is_empty-alone.result c.is_empty-alone.ensures c.if-alone.false) c.said_of.ensures
