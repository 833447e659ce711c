use Rattle.std.proofs.Common.{ℕ, subst}
use Rattle.oss_core.specs.Cores.{kept_of}
use Rattle.oss_wakeups.specs.Watching.{HasGrown}
use Rattle.oss_wakeups.proofs.RoundLemmas.{begins, empty_apart}
use Rattle.oss_wakeups.proofs.watch.Watch.new.Goals as goal

pub sort-requires-clause-apart : goal.sort-requires-clause-apart
sort-requires-clause-apart g c = c.in_ok-grow.ensures.apart (empty_apart c.empty-watch.result c.empty-watch.ensures.awake c.empty-watch.ensures.asleep c.empty-watch.ensures.watchers)

pub returns : goal.returns
returns g c =
    begins (kept_of g.D.Deps.seen c.args.core.now) c.empty-watch.result c.grow.new.self c.sort.new.self c.empty-watch.ensures.awake c.empty-watch.ensures.asleep c.empty-watch.ensures.watchers
    (subst (λ (n : ℕ). HasGrown n c.empty-watch.result c.grow.new.self) c.count.ensures c.in_ok-grow.ensures) c.in_ok-sort.ensures
