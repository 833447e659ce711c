use Rattle.std.proofs.Common.{subst}
use Rattle.oss_tree.specs.Tasks.{Kept as Tree}
use Rattle.oss_core.proofs.CallLemmas.{on_ok}
use Rattle.oss_wakeups.specs.Watches.{IsAbovePassed}
use Rattle.oss_wakeups.specs.Watching.{HasWoken}
use Rattle.oss_wakeups.proofs.RoundLemmas.{behind_pass}
use Rattle.oss_wakeups.proofs.watch.Watch.after_pass.Goals as goal

pub returns : goal.returns
returns g c =
    on_ok c.sort.result
    (λ sorted. behind_pass c.args.passed.now c.requires.behind.ran c.requires.running.1 c.requires.behind.pass c.args.self.now c.wake_passed.new.self c.sort.new.self c.requires.behind.watch
    (subst (λ (t : Tree). HasWoken (IsAbovePassed t.tasks c.args.passed.now) c.args.self.now c.wake_passed.new.self) c.tree.ensures c.in_ok-wake_passed.ensures) sorted) c.sort.ensures
