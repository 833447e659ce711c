use Rattle.std.proofs.Common.{◌≡◌, List, ◌++◌, take}
use Rattle.oss_thread_groups.specs.Groups.{AreGiven}
use Rattle.oss_sched.specs.declared.moves.TextMove.{TextMove}
use Rattle.oss_waves.specs.Noting.{IsGivenOf}
use Rattle.oss_waves.proofs.noting.note_passed.Given as goal

-- those so far are noted
abbrev pub invariant-loop-one : goal.invariant-loop-one
invariant-loop-one g l = (added : List TextMove) × (l.lines ≡ l.fn.lines ++ added) × AreGiven (IsGivenOf l.fn.core.tree.tasks) (take l.one-index l.passed) added
