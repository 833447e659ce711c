use Rattle.std.proofs.Common.{◌≡◌, ◌++◌, drop, map}
use Rattle.oss_missing_text.specs.Lines.{lack_text}
use Rattle.oss_missing_text.proofs.told.tell_lacks.Given as goal

-- what is left goes behind what is told
abbrev pub invariant-loop-held : goal.invariant-loop-held
invariant-loop-held l = l.told.items ++ map (lack_text l.names l.task) (drop l.held-index l.lacks) ≡ l.initial.told.items ++ map (lack_text l.names l.task) l.lacks
