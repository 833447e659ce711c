use Rattle.oss_graph_edges_laws.proofs.NearestLemmas.{groups_are_whole}
use Rattle.oss_graph_edges_laws.proofs.laws.groups_are_whole.Goals as goal

pub returns : goal.returns
returns c = groups_are_whole
