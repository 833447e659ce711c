use Rattle.std.proofs.Common.{subst}
use Rattle.oss_tree.specs.Tasks.{Kept as Tree}
use Rattle.oss_core.proofs.CallLemmas.{on_ok}
use Rattle.oss_wakeups.specs.Asides.{StoodAside}
use Rattle.oss_wakeups.specs.Watches.{IsAbovePassed}
use Rattle.oss_wakeups.specs.Watching.{HasWoken}
use Rattle.oss_wakeups.proofs.AsideLemmas.{behind_gifts}
use Rattle.oss_wakeups.proofs.watch.Watch.after_gifts.Goals as goal

pub returns : goal.returns
returns g c =
    on_ok c.sort.result
    (λ sorted. λ code before from task ran was pass.
    behind_gifts c.args.passed.now ran c.requires.running.1 pass (StoodAside from task) c.args.self.now c.wake_passed.new.self c.sort.new.self was
    (subst (λ (t : Tree). HasWoken (IsAbovePassed t.tasks c.args.passed.now) c.args.self.now c.wake_passed.new.self) c.tree.ensures c.in_ok-wake_passed.ensures) sorted) c.sort.ensures
