use Rattle.std.proofs.Common.{◌≡◌, true, false, sym, ◌∙◌}
use Rattle.oss_ranges.specs.Cells.{is_before, next_of}
use Rattle.oss_ranges.proofs.MapLemmas.{outside_none, outside_removed, removed_shorter}
use Rattle.oss_ranges.proofs.PieceLemmas.{removed_rises}
use Rattle.oss_ranges.proofs.tree_map.without_range.Goals as goal

pub loop-left-smaller : goal.loop-left-smaller
loop-left-smaller g c =
    let before : is_before (next_of c.args.lo c.loop-left.left) c.args.hi ≡ true = rw (← c.next.ensures) (sym c.begins_before.ensures ∙ c.loop-left-test.true) in
    rw c.without-rest.ensures.pieces (removed_shorter c.args.lo c.args.hi c.loop-left.left before)

pub loop-left-preserved : goal.loop-left-preserved
loop-left-preserved g c =
    let before : is_before (next_of c.args.lo c.loop-left.left) c.args.hi ≡ true = rw (← c.next.ensures) (sym c.begins_before.ensures ∙ c.loop-left-test.true) in
    rw c.without-rest.ensures.pieces (removed_rises 0 1048576 c.args.lo c.loop-left.left c.loop-left.invariant.0, outside_removed 0 1048576 c.args.lo c.args.hi c.loop-left.left c.loop-left.invariant.0 before ∙ c.loop-left.invariant.1)

pub returns : goal.returns
returns g c =
    let none : is_before (next_of c.args.lo c.loop-left.left) c.args.hi ≡ false = rw (← c.next.ensures) (sym c.begins_before.ensures ∙ c.loop-left-test.false) in
    sym (outside_none 0 1048576 c.args.lo c.args.hi c.loop-left.left c.loop-left.invariant.0 none) ∙ c.loop-left.invariant.1
