use Rattle.std.proofs.Common.{◌≡◌, true, false, ap, subst, sym, ◌∙◌, arith}
use Rattle.oss_ranges.specs.Cells.{is_before, next_of, outside}
use Rattle.oss_ranges.proofs.MapLemmas.{outside_none, outside_removed, removed_shorter}
use Rattle.oss_ranges.proofs.PieceLemmas.{removed_rises}
use Rattle.oss_ranges.proofs.flat_map.clear_out.Goals as goal

pub loop-pieces-smaller : goal.loop-pieces-smaller
loop-pieces-smaller g c =
    let told : is_before (next_of c.args.lo c.as_slice.result.now) c.args.hi ≡ true = rw (← c.next_in.ensures) (sym c.begins_before.ensures ∙ c.loop-pieces-test.true) in
    let before = subst (λ xs. is_before (next_of c.args.lo xs) c.args.hi ≡ true) c.as_slice.ensures.value told in
    rw c.take_out.ensures.items (removed_shorter c.args.lo c.args.hi c.loop-pieces.pieces.items before)

pub loop-pieces-preserved : goal.loop-pieces-preserved
loop-pieces-preserved g c =
    let told : is_before (next_of c.args.lo c.as_slice.result.now) c.args.hi ≡ true = rw (← c.next_in.ensures) (sym c.begins_before.ensures ∙ c.loop-pieces-test.true) in
    let before = subst (λ xs. is_before (next_of c.args.lo xs) c.args.hi ≡ true) c.as_slice.ensures.value told in (
      rw c.take_out.ensures.items (removed_rises 0 1048576 c.args.lo c.loop-pieces.pieces.items c.loop-pieces.invariant.0),
      ap (outside c.args.lo c.args.hi) c.take_out.ensures.items ∙ outside_removed 0 1048576 c.args.lo c.args.hi c.loop-pieces.pieces.items c.loop-pieces.invariant.0 before ∙ c.loop-pieces.invariant.1,
      omega (arith, c.loop-pieces.invariant.2, c.take_out.ensures.count),
      omega (arith, c.loop-pieces.invariant.3, c.take_out.ensures.room),
    )

pub returns-clause-items : goal.returns-clause-items
returns-clause-items g c =
    let told : is_before (next_of c.args.lo c.as_slice.result.now) c.args.hi ≡ false = rw (← c.next_in.ensures) (sym c.begins_before.ensures ∙ c.loop-pieces-test.false) in
    let none = subst (λ xs. is_before (next_of c.args.lo xs) c.args.hi ≡ false) c.as_slice.ensures.value told in
    sym (outside_none 0 1048576 c.args.lo c.args.hi c.loop-pieces.pieces.items c.loop-pieces.invariant.0 none) ∙ c.loop-pieces.invariant.1
