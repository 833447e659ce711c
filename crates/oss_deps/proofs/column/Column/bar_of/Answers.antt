use Rattle.std.proofs.Common.{sym, subst, List}
use Rattle.oss_deps.specs.declared.frame.Frame.{Frame}
use Rattle.oss_deps.specs.Columns.{IsPlaceOf}
use Rattle.oss_deps.proofs.column.Column.bar_of.Goals as goal

pub unreachable-requires : goal.unreachable-requires
unreachable-requires c =
    c.in-None.ensures.none c.requires.shown.place
    (subst (λ (xs : List Frame). IsPlaceOf xs c.args.number c.requires.shown.place) (sym c.as_slice.ensures.value) (c.requires.shown.frame, c.requires.shown.is, c.requires.shown.number))
