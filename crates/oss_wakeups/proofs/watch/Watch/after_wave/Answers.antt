use Rattle.std.proofs.Common.{ℕ, subst}
use Rattle.oss_tree.specs.Tasks.{Kept as Tree}
use Rattle.oss_core.proofs.CallLemmas.{on_ok}
use Rattle.oss_wakeups.specs.Watches.{IsAboveEnded}
use Rattle.oss_wakeups.specs.Watching.{HasGrown, HasWoken}
use Rattle.oss_wakeups.proofs.RoundLemmas.{behind_wave}
use Rattle.oss_wakeups.proofs.watch.Watch.after_wave.Goals as goal

pub returns : goal.returns
returns g c =
    on_ok c.sort.result
    (λ sorted. behind_wave c.args.turns.now c.requires.behind.ran c.requires.running.1 c.requires.behind.wave c.args.self.now c.grow.new.self c.wake_ended.new.self c.sort.new.self c.requires.behind.watch
    (subst (λ (n : ℕ). HasGrown n c.args.self.now c.grow.new.self) c.count.ensures c.in_ok-grow.ensures)
    (subst (λ (t : Tree). HasWoken (IsAboveEnded t.tasks c.args.turns.now) c.grow.new.self c.wake_ended.new.self) c.tree.ensures c.in_ok-wake_ended.ensures) sorted) c.sort.ensures
