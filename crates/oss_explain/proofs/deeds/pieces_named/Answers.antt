use Rattle.std.proofs.Common.{ℕ, Bool, subst}
use Rattle.oss_pieces.specs.Pieces.{ArePieces}
use Rattle.oss_explain.proofs.HoldingLemmas.{ext, if_ok_as}
use Rattle.oss_explain.proofs.deeds.pieces_named.Goals as goal

pub returns : goal.returns
returns c =
    if_ok_as c.pieces.result (λ ps h. subst (λ (f : ℕ → Bool). ArePieces f c.args.program.now.items 0 0 ps) (ext c.in_ok-cells.ensures) h) c.pieces.ensures
