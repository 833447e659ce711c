use Rattle.std.proofs.Common.{◌+◌, sym, subst, ap, ◌∙◌, List, [], ◌∷◌, ◌++◌, take}
use Rattle.std.proofs.lemmas.List.{take_more}
use Rattle.oss_syntax.specs.declared.access.Range.{Range}
use Rattle.oss_span.specs.declared.best.Best.{Best}
use Rattle.oss_span.specs.Bests.{better}
use Rattle.oss_span.specs.Tables.{IsGreatestOf}
use Rattle.oss_span.proofs.TableLemmas.{greatest_both}
use Rattle.oss_span.proofs.table.greatest_of.Goals as goal

pub loop-range-preserved : goal.loop-range-preserved
loop-range-preserved c =
    subst (λ (b : Best). IsGreatestOf c.args.way c.args.table.now.pieces (take (c.loop-range.range-index + 1) c.args.ranges.now) b) (sym c.or-best.ensures)
    (subst (λ (rs : List Range). IsGreatestOf c.args.way c.args.table.now.pieces rs (better c.loop-range.best c.greatest.result))
    (ap (λ (r : Range). take c.loop-range.range-index c.args.ranges.now ++ r ∷ []) c.range-item.is ∙ sym (take_more c.args.ranges.now c.loop-range.range-index c.range-item.result c.loop-range-test.true))
    (greatest_both c.args.way c.args.table.now.pieces c.range-item.result (take c.loop-range.range-index c.args.ranges.now) c.loop-range.best c.greatest.result c.loop-range.invariant c.greatest.ensures))
