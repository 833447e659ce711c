use Rattle.std.proofs.Common.{◌≡◌, drop, take}
use Rattle.std.specs.List.{flat_map}
use Rattle.oss_audit.specs.Lines.{cells_from, unused_line}
use Rattle.oss_audit.proofs.lines.audit_lines.Given as goal

-- the lines of the runs so far, and the count to which those that follow add up
abbrev pub invariant-loop-run : goal.invariant-loop-run
invariant-loop-run l = (l.text.items ≡ flat_map unused_line (take l.run-index l.run-items)) × (cells_from l.count (drop l.run-index l.run-items) ≡ cells_from 0 l.unused)
