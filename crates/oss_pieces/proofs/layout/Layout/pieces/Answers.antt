use Rattle.std.proofs.Common.{◌∙◌, List, ap, subst}
use Rattle.oss_pieces.specs.CellSets.{has}
use Rattle.oss_pieces.specs.Layouts.{ArePiecesIn, grids}
use Rattle.oss_pieces.specs.Rows.{Grid}
use Rattle.oss_pieces.proofs.LayoutLemmas.{as_pieces, if_ok}
use Rattle.oss_pieces.proofs.layout.Layout.pieces.Goals as goal

pub returns : goal.returns
returns c = if_ok c.pieces_in.result (λ found h all e. as_pieces (has c.args.set.now) all 0 0 found (subst (λ (gs : List Grid). ArePiecesIn (has c.args.set.now) gs 0 found) (ap grids c.as_slice.ensures.value ∙ c.self.view_is ∙ e) h)) c.pieces_in.ensures
