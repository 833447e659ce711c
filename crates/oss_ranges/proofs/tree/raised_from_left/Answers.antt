use Rattle.std.proofs.Common.{◌++◌}
use Rattle.oss_ranges.proofs.NodeLemmas.{between_left, between_right}
use Rattle.oss_ranges.specs.Trees.{own}
use Rattle.oss_ranges.proofs.tree.raised_from_left.Goals as goal

pub over-requires : goal.over-requires
over-requires g c =
    let none = c.in-Leaf.ensures.pieces in
    let all = rw (← none) at c.requires.whole.1 in
    (c.requires.whole.0, rw c.new.ensures (between_right c.args.outer _ c.args.right c.args.high.value.piece c.args.top.value.piece c.requires.left.0 all))

pub over-requires-in-Fork : goal.over-requires-in-Fork
over-requires-in-Fork g c =
    let all = rw (← c.in-Fork.ensures.pieces) at c.requires.left.1 in
    (c.requires.left.0, rw (c.sides-before.ensures.left, c.deref_mut.ensures.value) (between_left c.args.outer c.in-Fork.middle.value.left c.in-Fork.middle.value.right c.args.high.value.piece c.in-Fork.middle.value.piece c.in-Fork.ensures.whole.0 all))

pub over-requires-in-Fork-2 : goal.over-requires-in-Fork-2
over-requires-in-Fork-2 g c =
    let all = rw (← c.in-Fork.ensures.pieces) at c.requires.whole.1 in
    let inner = between_right c.args.outer (c.in-Fork.middle.value.left ++ (own c.in-Fork.middle.value.piece ++ c.in-Fork.middle.value.right)) c.args.right c.args.high.value.piece c.args.top.value.piece c.requires.left.0 all in
    (c.requires.whole.0, rw (c.sides-before.ensures.right, c.deref_mut.ensures.value) (between_right c.in-Fork.middle.value.left c.in-Fork.middle.value.right c.args.right c.in-Fork.middle.value.piece c.args.top.value.piece c.in-Fork.ensures.whole.0 inner))
