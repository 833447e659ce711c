use Rattle.std.proofs.Common.{◌+◌, ◌*◌, ◌<◌, ◌++◌, refl, sym, ap, ◌∙◌, arith}
use Rattle.std.specs.List.{range_with_len}
use Rattle.oss_sections.specs.RangeCells.{cells_of}
use Rattle.oss_sections.proofs.RangeLemmas.{cells_of-push, each_push, last_push}
use Rattle.oss_sections.proofs.RowLemmas.{rows-more}
use Rattle.oss_sections.proofs.rows.parted_rows.Goals as goal

pub loop-row-preserved : goal.loop-row-preserved
loop-row-preserved c =
    let before = c.loop-row.invariant in
    let lo = c.args.first + c.loop-row.row * c.args.columns in
    let narrow = c.requires.narrow in
    record {
      cells = ap cells_of c.in_ok-push.ensures.ok ∙ cells_of-push c.loop-row.found _ lo c.args.size refl refl
          ∙ ap (λ cells. cells ++ range_with_len lo c.args.size) before.cells
          ∙ sym (rows-more c.args.columns c.args.size c.args.first c.loop-row.row);
      apart = rw c.in_ok-push.ensures.ok (each_push (λ r next. r.hi < next.lo) c.loop-row.found _ before.apart before.behind);
      behind = rw c.in_ok-push.ensures.ok
          (last_push (λ last. last.hi < c.args.first + (c.loop-row.row + 1) * c.args.columns) c.loop-row.found _ (omega arith));
    }
