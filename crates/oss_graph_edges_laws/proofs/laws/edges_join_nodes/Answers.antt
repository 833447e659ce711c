use Rattle.oss_graph_edges_laws.proofs.NodeLemmas.{edges_join_nodes}
use Rattle.oss_graph_edges_laws.specs.contracts.laws.edges_join_nodes.{S-type}
use Rattle.oss_graph_edges_laws.proofs.laws.edges_join_nodes.Goals as goal

pub returns : goal.returns
returns g c = edges_join_nodes (S-type g.row.S)
