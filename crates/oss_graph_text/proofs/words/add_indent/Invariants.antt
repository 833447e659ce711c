use Rattle.std.proofs.Common.{◌≡◌, ◌++◌}
use Rattle.oss_graph_text.specs.Points.{indent}
use Rattle.oss_graph_text.proofs.words.add_indent.Given as goal

-- what is left goes behind what is written
abbrev pub invariant-levels : goal.invariant-levels
invariant-levels l = l.text.items ++ indent l.left ≡ l.initial.text.items ++ indent l.level

abbrev pub decreases-levels : goal.decreases-levels
decreases-levels l = l.left
