use Rattle.std.proofs.Common.{◌≡◌, subst}
use Rattle.oss_labels.specs.Lists.{label_at}
use Rattle.oss_graph_text.specs.Text.{IsGraphText}
use Rattle.oss_top.specs.Drawn.{drawn_reply}
use Rattle.oss_top.proofs.FormLemmas.{if_ok}
use Rattle.oss_top.proofs.RunLemmas.{graph_replies}
use Rattle.oss_top.proofs.graph.reply_to_graph.Goals as goal

pub returns : goal.returns
returns c =
    if_ok c.reply_to_drawn.result
    (λ reply is.
    graph_replies c.args.known.now c.args.fuel c.in_ok-graph.graph c.in_ok-labels.labels c.in_ok-text.text reply c.in_ok-graph.ensures c.in_ok-labels.ensures
    (subst (λ p. IsGraphText p.items (label_at c.in_ok-labels.labels) c.in_ok-graph.graph c.in_ok-text.text) c.program.ensures.same c.in_ok-text.ensures) is)
    c.reply_to_drawn.ensures
