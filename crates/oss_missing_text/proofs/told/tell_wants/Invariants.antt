use Rattle.std.proofs.Common.{◌≡◌, ◌++◌, drop, map}
use Rattle.oss_missing_text.specs.Lines.{want_text}
use Rattle.oss_missing_text.proofs.told.tell_wants.Given as goal

-- what is left goes behind what is told
abbrev pub invariant-loop-wanting : goal.invariant-loop-wanting
invariant-loop-wanting l = l.told.items ++ map (want_text l.names l.task) (drop l.wanting-index l.wants) ≡ l.initial.told.items ++ map (want_text l.names l.task) l.wants
