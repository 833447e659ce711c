use Rattle.std.proofs.Common.{◌≡◌, ◌++◌, drop}
use Rattle.oss_explanation.specs.Text.{all_held_text}
use Rattle.oss_explanation.specs.Words.{who_text}
use Rattle.oss_explanation.proofs.holds.add_all_held.Given as goal

-- what is left goes behind what is written
abbrev pub invariant-loop-held : goal.invariant-loop-held
invariant-loop-held l = l.text.items ++ all_held_text l.program.items (who_text l.task) l.has (drop l.held-index l.holds) ≡ l.initial.text.items ++ all_held_text l.program.items (who_text l.task) l.has l.holds
