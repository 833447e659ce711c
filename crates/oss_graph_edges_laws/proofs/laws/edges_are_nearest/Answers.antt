use Rattle.oss_graph_edges_laws.proofs.NearestLemmas.{edges_are_nearest}
use Rattle.oss_graph_edges_laws.proofs.laws.edges_are_nearest.Goals as goal

pub returns : goal.returns
returns c = edges_are_nearest
