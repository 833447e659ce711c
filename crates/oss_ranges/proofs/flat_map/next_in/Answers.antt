use Rattle.oss_ranges.proofs.FlatLemmas.{next_at, next_beyond}
use Rattle.std.proofs.Common.{sym}
use Rattle.oss_ranges.proofs.flat_map.next_in.Goals as goal

pub returns-then-at-pieces : goal.returns-then-at-pieces
returns-then-at-pieces g c =
    let is = c.place_of-at.ensures in
    sym (next_at c.args.cell c.index-pieces-at.result c.args.pieces.now (rw is at c.if-at-pieces.true) (rw is at c.index-pieces-at.is))

pub returns-else-at-pieces : goal.returns-else-at-pieces
returns-else-at-pieces g c = sym (next_beyond c.args.cell c.args.pieces.now (rw c.place_of-at.ensures at c.if-at-pieces.false))
