use Rattle.std.proofs.Common.{ap, sym, ◌∙◌}
use Rattle.oss_body.specs.declared.act.Act.TheVariants as acts
use Rattle.oss_enabled_moves.proofs.HindranceLemmas.{ranges_told}
use Rattle.oss_enabled_moves.proofs.hindrance.awaited_by.Goals as goal

pub returns-in-WaitOn-clause-awaited : goal.returns-in-WaitOn-clause-awaited
returns-in-WaitOn-clause-awaited g c =
    ranges_told c.args.tree.now.tasks (g.D.Deps.seen c.args.deps.now) c.args.task.0 c.args.act.now c.as_slice.result.now (c.in-WaitOn.is ∙ ap acts.WaitOn (sym c.as_slice.ensures)) c.undone_in.result c.undone_in.ensures.child
