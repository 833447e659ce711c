use Rattle.std.proofs.Common.{◌≡◌, ◌++◌, drop}
use Rattle.std.specs.List.{flat_map}
use Rattle.oss_explanation.specs.Labels.{told_byte}
use Rattle.oss_explanation.proofs.labels.add_bytes.Given as goal

-- what is left goes behind what is written
abbrev pub invariant-loop-byte : goal.invariant-loop-byte
invariant-loop-byte l = l.text.items ++ flat_map told_byte (drop l.byte-index l.label) ≡ l.initial.text.items ++ flat_map told_byte l.label
