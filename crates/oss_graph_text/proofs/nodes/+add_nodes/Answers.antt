use Rattle.std.proofs.Common.{◌∙◌, ap, ℕ, take, drop, arith}
use Rattle.oss_labels.specs.Lists.{label_at}
use Rattle.oss_graph_text.proofs.NodeLemmas.{finished, goes_on}
use Rattle.oss_graph_text.proofs.nodes.+add_nodes.Goals as goal

pub nodes-preserved : goal.nodes-preserved
nodes-preserved t c = record {
  fewer = omega (arith, c.in-Some.ensures.cases.1, c.split_at.ensures.back_len, c.nodes.invariant.fewer);
  whole =
      goes_on (label_at c.args.labels.now) c.args.fault.now c.args.level c.args.nodes.now c.args.text.now.items c.nodes.left.now c.in-Some.node.now c.in-Some.rest.now c.split_at.result.0.now c.split_at.result.1.now
      c.nodes.text.items c.add_begin.new.text.items c.add_nodes.new.text.items c.add_end.new.text.items
      c.in-Some.ensures.cases.0
      (c.split_at.ensures.front ∙ ap (λ (k : ℕ). take k c.in-Some.rest.now) c.count_below.ensures.same)
      (c.split_at.ensures.back ∙ ap (λ (k : ℕ). drop k c.in-Some.rest.now) c.count_below.ensures.same)
      c.nodes.invariant.whole c.in_ok-add_begin.ensures c.in_ok-add_nodes.ensures c.in_ok-add_end.ensures;
}

pub returns : goal.returns
returns t c =
    finished (label_at c.args.labels.now) c.args.fault.now c.args.level c.args.nodes.now c.args.text.now.items c.nodes.left.now c.nodes.text.items c.in_default.ensures.cases c.nodes.invariant.whole
