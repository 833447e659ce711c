use Rattle.std.proofs.Common.{◌≡◌, ◌++◌, drop}
use Rattle.oss_report.specs.Dumps.{dump_text}
use Rattle.oss_report.proofs.dump.dump_bytes.Given as goal

-- the lines that are written, and those of the globals that are left, with the cells that are left
abbrev pub invariant-loop-item : goal.invariant-loop-item
invariant-loop-item l = l.text.items ++ dump_text (drop l.item-index l.item-items) l.left ≡ dump_text l.item-items l.cells
