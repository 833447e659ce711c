use Rattle.oss_graph.proofs.FollowLemmas.{following_begins}
use Rattle.oss_graph.proofs.run.graph.Goals as goal

pub graph_from-requires : goal.graph_from-requires
graph_from-requires c =
    following_begins c.args.code.now c.args.fuel c.args.program.now.items c.in-Ok.stage c.in_ok-found.found c.in-Ok.ensures.stage c.in-Ok.ensures.setting c.in_ok-found.ensures
