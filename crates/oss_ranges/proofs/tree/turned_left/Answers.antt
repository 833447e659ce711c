use Rattle.oss_ranges.proofs.NodeLemmas.{between_left}
use Rattle.oss_ranges.proofs.tree.turned_left.Goals as goal

pub over-requires-else-height : goal.over-requires-else-height
over-requires-else-height g c =
    let all = rw (← c.in-Fork.ensures.pieces) at c.requires.1 in
    (c.requires.0, rw (c.sides-inner.ensures.left, c.deref_mut.ensures.value) (between_left c.args.left c.in-Fork.high.value.left c.in-Fork.high.value.right c.args.top.value.piece c.in-Fork.high.value.piece c.in-Fork.ensures.whole.0 all))
