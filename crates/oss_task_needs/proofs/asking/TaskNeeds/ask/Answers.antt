use Rattle.std.proofs.Common.{subst, List}
use Rattle.oss_needs.specs.declared.need.Need.{Need}
use Rattle.oss_ranges.specs.declared.piece.Piece.{Piece}
use Rattle.oss_task_needs.specs.Asking.{IsAsked}
use Rattle.oss_task_needs.proofs.asking.TaskNeeds.ask.Goals as goal

pub returns-in-Ok-clause-asked : goal.returns-in-Ok-clause-asked
returns-in-Ok-clause-asked c = subst (λ (ps : List (Piece Need)). IsAsked c.args.demand c.args.range.lo c.args.range.hi ps c.ask_runs.new.cells.pieces) c.self.view_is c.in-Ok.ensures
