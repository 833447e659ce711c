use Rattle.std.proofs.Common.{◌≡◌, ◌++◌, drop}
use Rattle.std.specs.List.{flat_map}
use Rattle.oss_missing_text.specs.Text.{told_at}
use Rattle.oss_missing_text.proofs.tasks.add_told.Given as goal

-- what is left goes behind what is written
abbrev pub invariant-loop-words : goal.invariant-loop-words
invariant-loop-words l = l.text.items ++ flat_map (told_at l.table l.place l.task) (drop l.words-index l.told) ≡ l.initial.text.items ++ flat_map (told_at l.table l.place l.task) l.told
