use Rattle.std.proofs.Common.{sym}
use Rattle.oss_syntax.specs.declared.access.Op.{Op}
use Rattle.oss_enabled_moves.proofs.CallLemmas.{at_place, at_none}
use Rattle.oss_enabled_moves.specs.Enabled.{MayFold}
use Rattle.oss_enabled_moves.proofs.enabling.may_join.Goals as goal

pub may_fold-requires-clause-folding : goal.may_fold-requires-clause-folding
may_fold-requires-clause-folding g c = λ op. c.requires.folding c.args.task.0 c.args.cell c.in-Some.held.now op (sym c.in-Some.ensures)

pub returns-in-Some-clause-may : goal.returns-in-Some-clause-may
returns-in-Some-clause-may g c =
    at_place {F = λ held. (op : Op) × MayFold held c.args.tree.now.tasks (g.D.Deps.seen c.args.deps.now) c.args.task.0 c.args.cell op} c.args.tasks.now c.args.task.0 c.in-Some.held.now c.in-Some.ensures c.may_fold.ensures.may
    (λ held is folds. (folds.0, record { held = held; is = is; folds = folds.1 })) (λ may. (may.1.held, may.1.is, (may.0, may.1.folds)))

pub returns-in-None-clause-may : goal.returns-in-None-clause-may
returns-in-None-clause-may g c =
    at_none {F = λ held. (op : Op) × MayFold held c.args.tree.now.tasks (g.D.Deps.seen c.args.deps.now) c.args.task.0 c.args.cell op} c.args.tasks.now c.args.task.0 c.in-None.ensures (λ may. (may.1.held, may.1.is, (may.0, may.1.folds)))
