use Rattle.oss_core.proofs.AwakeLemmas.{spent_told}
use Rattle.oss_core.proofs.machine.Core.spent.Goals as goal

pub returns-then-known : goal.returns-then-known
returns-then-known g c =
    let t = spent_told c.requires.running.1 c.args.task.0 c.task-known.result.now c.task-known.ensures in
    (λ e. t.0 (c.if-known.true, e), λ s. (t.1 s).1)

pub returns-else-known : goal.returns-else-known
returns-else-known g c =
    let t = spent_told c.requires.running.1 c.args.task.0 c.task-known.result.now c.task-known.ensures in
    (λ e. absurd cc, λ s. let a = (t.1 s).0 in let f = c.if-known.false in absurd cc)
