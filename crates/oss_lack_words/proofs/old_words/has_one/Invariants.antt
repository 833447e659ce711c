use Rattle.std.proofs.Common.{◌≡◌, ◌-◌}
use Rattle.oss_model.specs.Rights.{any_from}
use Rattle.oss_pieces.specs.CellSets.{has}
use Rattle.oss_lack_words.proofs.old_words.has_one.Given as goal

-- no cell so far is in the set
abbrev pub invariant-runs : goal.invariant-runs
invariant-runs l = any_from (has l.set) l.from (l.range.hi - l.from) ≡ any_from (has l.set) l.range.lo (l.range.hi - l.range.lo)

abbrev pub decreases-runs : goal.decreases-runs
decreases-runs l = l.range.hi - l.from
