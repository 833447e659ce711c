use Rattle.oss_pieces.specs.CellSets.{SetOfCells}
use Rattle.oss_explain.proofs.DirectiveLemmas.{uncovered_by_modes}
use Rattle.oss_explain.proofs.HoldingLemmas.{if_ok_as}
use Rattle.oss_explain.proofs.directives.uncovered_set.Goals as goal

pub returns : goal.returns
returns c =
    if_ok_as c.uncovered_cells.result (λ (set : SetOfCells) h. uncovered_by_modes c.args.context.now c.args.clauses.now c.in_ok-wanted.wanted.modes.pieces set c.in_ok-wanted.ensures.joined h) c.uncovered_cells.ensures
