use Rattle.oss_graph_text.proofs.TextLemmas.{on_ok, then}
use Rattle.oss_graph_text.proofs.nodes.add_box_of.Goals as goal

pub returns : goal.returns
returns c = on_ok c.add-2.result
    (λ last. then _ _ _ _ _ (then _ _ _ _ _ (then _ _ _ _ _ c.in_ok-add_indent.ensures c.in_ok-add.ensures) c.in_ok-add_point.ensures) last)
    c.add-2.ensures
