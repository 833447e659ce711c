use Rattle.std.proofs.Common.{◌≡◌, take}
use Rattle.std.specs.List.{flat_map}
use Rattle.oss_span.specs.Lines.{link_line}
use Rattle.oss_span.proofs.lines.chain_lines.Given as goal

-- the lines of the links so far
abbrev pub invariant-loop-link : goal.invariant-loop-link
invariant-loop-link l = l.text.items ≡ flat_map link_line (take l.link-index l.link-items)
