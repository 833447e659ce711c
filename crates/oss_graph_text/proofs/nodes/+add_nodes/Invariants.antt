use Rattle.std.proofs.Common.{◌≤◌, length}
use Rattle.oss_labels.specs.Lists.{label_at}
use Rattle.oss_graph_text.proofs.NodeLemmas.{MakesWhole}
use Rattle.oss_graph_text.proofs.nodes.+add_nodes.Given as goal

-- what is left makes the whole
abbrev pub invariant-nodes : goal.invariant-nodes
invariant-nodes l = record {
  fewer : length l.left ≤ length l.fn.nodes;
  whole : MakesWhole (label_at l.labels) l.fault l.level l.fn.nodes l.initial.text.items l.left l.text.items;
}

abbrev pub decreases-nodes : goal.decreases-nodes
decreases-nodes l = length l.left

-- those below a node are fewer
abbrev pub decreases-add_nodes : goal.decreases-add_nodes
decreases-add_nodes l = length l.nodes.now
