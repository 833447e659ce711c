use Rattle.oss_sched.proofs.MoveLemmas.{point_ok}
use Rattle.oss_sched.proofs.line.point_of.Goals as goal

pub returns : goal.returns
returns c = point_ok c.args.word.now c.read_point.result c.read_point.ensures
