use Rattle.std.proofs.Common.{ℕ}
use Rattle.oss_pieces.specs.CellSets.{has}
use Rattle.oss_explain.proofs.HoldingLemmas.{if_ok_as}
use Rattle.oss_explain.proofs.TouchLemmas.{one_noted, one_released, one_there}
use Rattle.oss_explain.proofs.releases.touch_released.Goals as goal

pub released_reason-requires-clause-some : goal.released_reason-requires-clause-some
released_reason-requires-clause-some c = one_there (λ (k : ℕ). has c.in_ok-cells.cells k) c.args.cell c.in_ok-cells.ensures _ _ c.as_slice.ensures c.requires.within

pub released_reason-requires-clause-noted : goal.released_reason-requires-clause-noted
released_reason-requires-clause-noted c = one_noted (λ (k : ℕ). has c.in_ok-cells.cells k) c.args.cell c.in_ok-cells.ensures _ _ c.as_slice.ensures c.requires.noted

pub returns : goal.returns
returns c =
    if_ok_as c.released_reason.result (λ reason h. one_released (λ (k : ℕ). has c.in_ok-cells.cells k) c.args.cell c.in_ok-cells.ensures _ _ c.as_slice.ensures c.args.program.now.items reason h) c.released_reason.ensures
