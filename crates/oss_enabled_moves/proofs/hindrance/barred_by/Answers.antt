use Rattle.std.proofs.Common.{sym, ◌∙◌}
use Rattle.oss_enabled_moves.proofs.HindranceLemmas.{obstacle_told}
use Rattle.oss_enabled_moves.proofs.hindrance.barred_by.Goals as goal

pub returns-clause-barred : goal.returns-clause-barred
returns-clause-barred g c =
    obstacle_told c.args.body.now (g.D.Deps.seen c.args.deps.now) c.args.task.0 (sym c.begun.ensures.kept ∙ c.if-begun.false) c.if-task-eq0.false c.obstacle.result c.obstacle.ensures.obstacle
