use Rattle.std.proofs.Common.{sym, subst, List}
use Rattle.oss_deps.specs.declared.frame.Frame.{Frame}
use Rattle.oss_deps.specs.Columns.{IsPlaceOf}
use Rattle.oss_deps.proofs.opening.add_in.Goals as goal

pub unreachable-requires : goal.unreachable-requires
unreachable-requires c = c.in-None.ensures.none c.requires.up (subst (λ (xs : List Frame). IsPlaceOf xs c.args.parent c.requires.up) (sym c.as_slice.ensures.value) c.requires.up_is)
