use Rattle.std.proofs.Common.{◌≡◌, ◌+◌, drop}
use Rattle.oss_graph_text.specs.Boxes.{count_below}
use Rattle.oss_graph_text.proofs.nodes.count_below.Given as goal

-- all nodes so far stand below it
abbrev pub invariant-loop-other : goal.invariant-loop-other
invariant-loop-other l = record {
  counted : l.count ≡ l.other-index;
  same : l.count + count_below l.node (drop l.other-index l.rest) ≡ count_below l.node l.rest;
}
