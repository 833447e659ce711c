use Rattle.std.proofs.Common.{◌≡◌, drop}
use Rattle.oss_explanation.specs.Held.{is_listed}
use Rattle.oss_lack_words.proofs.same.is_among.Given as goal

-- no word so far is this one
abbrev pub invariant-loop-other : goal.invariant-loop-other
invariant-loop-other l = is_listed (drop l.other-index l.words) l.word ≡ is_listed l.words l.word
