use Rattle.std.proofs.Common.{◌∙◌, List, subst, sym, take}
use Rattle.std.proofs.lemmas.List.{take_all}
use Rattle.oss_core.specs.declared.turns.Turn.{Turn}
use Rattle.oss_wakeups.specs.Watches.{IsAboveEnded}
use Rattle.oss_wakeups.specs.declared.watch.Watch.{Watch}
use Rattle.oss_wakeups.specs.Watching.{HasWoken, IsAtOrAbove}
use Rattle.oss_wakeups.proofs.AboveLemmas.{ended_more, ended_none, ended_not}
use Rattle.oss_wakeups.proofs.watch.Watch.wake_ended.Goals as goal
use Rattle.oss_wakeups.proofs.watch.Watch.wake_ended.Goals.{then-task+in_ok-wake_above, else-task}

pub loop-turn-init : goal.loop-turn-init
loop-turn-init c = ended_none c.args.tree.now.tasks c.args.self.now

pub wake_above-requires-clause-sizes : goal.wake_above-requires-clause-sizes
wake_above-requires-clause-sizes c = c.loop-turn.invariant.watchers_size ∙ c.requires.sizes

pub loop-turn-preserved : goal.loop-turn-preserved
loop-turn-preserved c = elim c.if-task.branch [
  | then-task+in_ok-wake_above w ↦ ended_more c.args.tree.now.tasks c.args.turns.now c.loop-turn.turn-index _ c.loop-turn-test.true c.task.result.now c.task.ensures w.if-task.true c.args.self.now c.loop-turn.self c.if-task.self c.loop-turn.invariant (subst (λ (x : Watch). HasWoken (λ u. IsAtOrAbove c.args.tree.now.tasks u _) c.loop-turn.self x) (sym w.self-is) w.in_ok-wake_above.ensures)
  | else-task w ↦ ended_not c.args.tree.now.tasks c.args.turns.now c.loop-turn.turn-index _ c.loop-turn-test.true c.task.result.now c.task.ensures w.if-task.false c.args.self.now c.if-task.self (subst (λ (x : Watch). HasWoken (IsAboveEnded c.args.tree.now.tasks (take c.loop-turn.turn-index c.args.turns.now)) c.args.self.now x) (sym w.self-is) c.loop-turn.invariant)
]

pub returns : goal.returns
returns c = subst (λ (ts : List Turn). HasWoken (IsAboveEnded c.args.tree.now.tasks ts) c.args.self.now c.loop-turn.self) (take_all c.loop-turn.turn-index c.args.turns.now c.loop-turn-test.false) c.loop-turn.invariant
