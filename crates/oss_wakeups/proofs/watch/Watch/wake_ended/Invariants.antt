use Rattle.std.proofs.Common.{take}
use Rattle.oss_wakeups.specs.Watches.{IsAboveEnded}
use Rattle.oss_wakeups.specs.Watching.{HasWoken}
use Rattle.oss_wakeups.proofs.watch.Watch.wake_ended.Given as goal

-- those that watch a task above one of those so far were woken
abbrev pub invariant-loop-turn : goal.invariant-loop-turn
invariant-loop-turn l = HasWoken (IsAboveEnded l.tree.tasks (take l.turn-index l.turns)) l.initial.self l.self
