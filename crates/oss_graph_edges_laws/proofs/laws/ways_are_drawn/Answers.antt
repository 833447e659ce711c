use Rattle.oss_graph_edges_laws.proofs.WayLemmas.{ways_are_drawn}
use Rattle.oss_graph_edges_laws.proofs.laws.ways_are_drawn.Goals as goal

pub returns : goal.returns
returns c = ways_are_drawn
