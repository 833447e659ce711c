use Rattle.std.proofs.Common.{◌≡◌, ◌++◌, drop}
use Rattle.std.specs.List.{flat_map}
use Rattle.oss_labels.specs.Lists.{label_at}
use Rattle.oss_explanation.specs.Text.{link_text}
use Rattle.oss_explanation.proofs.chain.add_chain.Given as goal

-- what is left goes behind what is written
abbrev pub invariant-loop-link : goal.invariant-loop-link
invariant-loop-link l = l.text.items ++ flat_map (link_text (label_at l.labels)) (drop l.link-index l.chain) ≡ l.initial.text.items ++ flat_map (link_text (label_at l.labels)) l.chain
