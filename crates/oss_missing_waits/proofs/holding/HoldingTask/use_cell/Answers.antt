use Rattle.std.proofs.Common.{◌≡◌, ◌≤◌, ◌∙◌, ◌==◌, ℕ, false}
use Rattle.oss_pieces.specs.CellSets.{has}
use Rattle.oss_missing_waits.proofs.holding.HoldingTask.use_cell.Goals as goal

pub returns : goal.returns
returns c all h laid s =
    let bounded : (d : ℕ) → 1048576 ≤ d → has c.args.self.now.released d ≡ false = λ d l. s.released d ∙ s.past d l in
    c.in_ok-tell_use.ensures (λ d. c.args.cell == d) (c.in_ok-used.ensures bounded) all h laid s
