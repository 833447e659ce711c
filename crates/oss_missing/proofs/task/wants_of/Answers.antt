use Rattle.std.proofs.Common.{◌≡◌, subst, List}
use Rattle.std.specs.Prelude.{IfOk}
use Rattle.oss_syntax.specs.declared.access.Access.{Access}
use Rattle.oss_syntax.specs.declared.tree.program.Item.{Item}
use Rattle.oss_pieces.specs.Layouts.{grids_from}
use Rattle.oss_ranges.specs.Cells.{value_at}
use Rattle.oss_lack_words.specs.Told.{AreWanting}
use Rattle.oss_missing.proofs.task.wants_of.Goals as goal

pub returns : goal.returns
returns c =
    subst (λ (xs : List Access). IfOk c.wanting.result (λ wants. (all : List Item) → c.args.layout.now ≡ grids_from all 0 → AreWanting all (value_at c.args.task.now.mending.lacks.pieces) c.args.task.now.is_final xs wants))
    c.as_slice.ensures c.wanting.ensures
