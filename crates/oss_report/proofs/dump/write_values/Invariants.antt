use Rattle.std.proofs.Common.{◌≡◌, ◌++◌, take}
use Rattle.std.specs.List.{flat_map}
use Rattle.oss_report.specs.Dumps.{spaced_value}
use Rattle.oss_report.proofs.dump.write_values.Given as goal

-- as many of the values as were written
abbrev pub invariant-loop-value : goal.invariant-loop-value
invariant-loop-value l = l.text.items ≡ l.fn.text.items ++ flat_map (spaced_value l.kind) (take l.value-index l.values)
