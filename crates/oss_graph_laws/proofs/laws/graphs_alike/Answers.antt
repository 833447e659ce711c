use Rattle.oss_graph_laws.proofs.MovedGraphs.{graphs_alike}
use Rattle.oss_graph_laws.proofs.laws.graphs_alike.Goals as goal

pub returns : goal.returns
returns c = λ all code of words fuel g. graphs_alike all code of words fuel g
