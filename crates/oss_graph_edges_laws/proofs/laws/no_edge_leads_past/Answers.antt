use Rattle.oss_graph_edges_laws.proofs.NearestLemmas.{no_edge_leads_past}
use Rattle.oss_graph_edges_laws.proofs.laws.no_edge_leads_past.Goals as goal

pub returns : goal.returns
returns c = no_edge_leads_past
