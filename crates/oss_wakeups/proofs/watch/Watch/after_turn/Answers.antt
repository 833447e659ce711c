use Rattle.std.proofs.Common.{[], ◌∷◌, ℕ, subst}
use Rattle.oss_tree.specs.Tasks.{Kept as Tree}
use Rattle.oss_core.proofs.CallLemmas.{on_ok}
use Rattle.oss_wakeups.specs.Watches.{IsAboveEnded}
use Rattle.oss_wakeups.specs.Watching.{HasGrown, HasWoken}
use Rattle.oss_wakeups.proofs.AsideLemmas.{behind_turn, taken_apart}
use Rattle.oss_wakeups.proofs.watch.Watch.after_turn.Goals as goal

pub sort-requires-clause-apart : goal.sort-requires-clause-apart
sort-requires-clause-apart g c = c.in_ok-wake_ended.ensures.apart (c.in_ok-grow.ensures.apart (taken_apart c.args.turn.task c.args.self.now c.take.new.self c.in_ok-take.ensures c.requires.there c.requires.idle c.requires.apart))

pub returns : goal.returns
returns g c =
    on_ok c.sort.result
    (λ sorted. λ code before ran was wave.
    behind_turn c.args.turn ran c.requires.running.1 wave c.args.self.now c.take.new.self c.grow.new.self c.wake_ended.new.self c.sort.new.self was c.requires.there c.in_ok-take.ensures
    (subst (λ (n : ℕ). HasGrown n c.take.new.self c.grow.new.self) c.count.ensures c.in_ok-grow.ensures)
    (subst (λ (t : Tree). HasWoken (IsAboveEnded t.tasks (c.args.turn ∷ [])) c.grow.new.self c.wake_ended.new.self) c.tree.ensures c.in_ok-wake_ended.ensures) sorted c.requires.idle) c.sort.ensures
