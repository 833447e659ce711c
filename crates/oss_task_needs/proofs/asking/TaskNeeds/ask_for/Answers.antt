use Rattle.std.proofs.Common.{subst, List}
use Rattle.oss_needs.specs.declared.need.Need.{Need}
use Rattle.oss_ranges.specs.declared.piece.Piece.{Piece}
use Rattle.oss_ranges.specs.Cells.{value_at}
use Rattle.oss_task_needs.specs.Asking.{AreKept, Asked, asks_for}
use Rattle.oss_task_needs.proofs.asking.TaskNeeds.ask_for.Goals as goal

pub returns-in-Ok-clause-asked : goal.returns-in-Ok-clause-asked
returns-in-Ok-clause-asked c =
    subst (λ (ps : List (Piece Need)). (asked : Asked) → AreKept asked (value_at ps) → AreKept (asks_for (value_at c.args.clauses.now.pieces) asked) (value_at c.ask_for_runs.new.cells.pieces)) c.self.view_is c.in-Ok.ensures
