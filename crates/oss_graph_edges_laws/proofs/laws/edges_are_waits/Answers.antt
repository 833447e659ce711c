use Rattle.oss_graph_edges_laws.proofs.WaitLemmas.{edges_are_waits}
use Rattle.oss_graph_edges_laws.specs.contracts.laws.edges_are_waits.{S-type}
use Rattle.oss_graph_edges_laws.proofs.laws.edges_are_waits.Goals as goal

pub returns : goal.returns
returns g c = edges_are_waits (S-type g.row.S)
