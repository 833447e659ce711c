use Rattle.oss_graph_text.proofs.TextLemmas.{on_ok}
use Rattle.oss_graph_text.proofs.NodeLemmas.{five}
use Rattle.oss_graph_text.proofs.text.add_all.Goals as goal

pub returns : goal.returns
returns c = on_ok c.add-2.result
    (λ last. record {
      nodes = c.in_ok-add_nodes.ensures.part;
      are_nodes = c.in_ok-add_nodes.ensures.is_part;
      added = five _ _ _ _ _ _ _ _ _ _ _ c.in_ok-add.ensures c.in_ok-add_nodes.ensures.added c.in_ok-add_edges.ensures c.in_ok-add_end.ensures last;
    })
    c.add-2.ensures
