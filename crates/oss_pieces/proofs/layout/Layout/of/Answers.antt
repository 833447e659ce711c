use Rattle.std.proofs.Common.{List, sym, subst}
use Rattle.oss_pieces.specs.Layouts.{AreLaid}
use Rattle.oss_pieces.specs.Rows.{Grid}
use Rattle.oss_pieces.proofs.LayoutLemmas.{laid_from}
use Rattle.oss_pieces.proofs.layout.Layout.of.Goals as goal

pub invariant_of-result : goal.invariant_of-result
invariant_of-result c = subst (λ (gs : List Grid). AreLaid 0 gs) (sym c.in_ok-shapes.ensures) (laid_from c.args.program.now.items 0)
