use Rattle.oss_graph_laws.proofs.OneGraph.{graphs_are_one}
use Rattle.oss_graph_laws.specs.contracts.laws.graphs_are_one.{S-type}
use Rattle.oss_graph_laws.proofs.laws.graphs_are_one.Goals as goal

pub returns : goal.returns
returns g c = graphs_are_one (S-type g.row.S)
