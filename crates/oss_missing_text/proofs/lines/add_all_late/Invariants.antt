use Rattle.std.proofs.Common.{◌≡◌, ◌++◌, drop}
use Rattle.std.specs.List.{flat_map}
use Rattle.oss_missing_text.specs.Lines.{late_line}
use Rattle.oss_missing_text.proofs.lines.add_all_late.Given as goal

-- what is left goes behind what is written
abbrev pub invariant-loop-one : goal.invariant-loop-one
invariant-loop-one l = l.text.items ++ flat_map (late_line l.names l.task) (drop l.one-index l.late) ≡ l.initial.text.items ++ flat_map (late_line l.names l.task) l.late
