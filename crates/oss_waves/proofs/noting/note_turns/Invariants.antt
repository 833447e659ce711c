use Rattle.std.proofs.Common.{◌≡◌, List, ◌++◌, take}
use Rattle.oss_thread_groups.specs.Groups.{AreGiven}
use Rattle.oss_sched.specs.declared.moves.TextMove.{TextMove}
use Rattle.oss_waves.specs.Noting.{IsStepOf}
use Rattle.oss_waves.proofs.noting.note_turns.Given as goal

-- those so far are noted
abbrev pub invariant-loop-turn : goal.invariant-loop-turn
invariant-loop-turn g l = (added : List TextMove) × (l.lines ≡ l.fn.lines ++ added) × AreGiven (IsStepOf l.fn.core.tree.tasks) (take l.turn-index l.turns) added
