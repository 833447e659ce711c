use Rattle.std.proofs.Common.{◌≡◌, ◌<◌, length, Some, rules}
use Rattle.oss_ranges.proofs.NodeLemmas.{sides_short, with_left, with_right}
use Rattle.oss_ranges.specs.Cells.{inserted, Rises}
use Rattle.oss_ranges.specs.Trees.{HasPiece}
use Rattle.oss_ranges.proofs.tree.Tree.+with.Goals as goal

pub with-requires : goal.with-requires
with-requires g t c =
    let is : c.in-Fork.top.value.piece ≡ Some c.piece_of-own.result = cc in
    let parts = with_left c.args.self c.in-Fork.top.value.left c.in-Fork.top.value.right c.in-Fork.top.value.piece c.args.piece c.piece_of-own.result c.in-Fork.ensures.pieces is c.if-piece-own.true c.requires in
    let left : Rises 0 (inserted c.args.piece c.sides-left.result.0) 1048576 = rw (c.sides-left.ensures.left, c.deref_mut.ensures.value) parts.0 in
    let short = sides_short c.args.self c.in-Fork.top.value.left c.in-Fork.top.value.right c.in-Fork.top.value.piece c.piece_of-own.result c.in-Fork.ensures.pieces is in
    let fewer : length c.sides-left.result.0 < length c.args.self = rw (c.sides-left.ensures.left, c.deref_mut.ensures.value) short.0 in
    λ κs within. (search rules, (within, left))

pub balanced-requires : goal.balanced-requires
balanced-requires g t c =
    let is : c.in-Fork.top.value.piece ≡ Some c.piece_of-own.result = cc in
    let parts = with_left c.args.self c.in-Fork.top.value.left c.in-Fork.top.value.right c.in-Fork.top.value.piece c.args.piece c.piece_of-own.result c.in-Fork.ensures.pieces is c.if-piece-own.true c.requires in
    let has : HasPiece c.sides-left.new.node.piece = rw (c.sides-left.ensures.piece, c.deref_mut.ensures.value) c.in-Fork.ensures.whole.0 in
    (has, rw (c.with.ensures, c.sides-left.ensures.left, c.sides-left.ensures.right, c.sides-left.ensures.piece, c.deref_mut.ensures.value, parts.1) c.requires)

pub returns-then-piece-own : goal.returns-then-piece-own
returns-then-piece-own g t c =
    let is : c.in-Fork.top.value.piece ≡ Some c.piece_of-own.result = cc in
    let parts = with_left c.args.self c.in-Fork.top.value.left c.in-Fork.top.value.right c.in-Fork.top.value.piece c.args.piece c.piece_of-own.result c.in-Fork.ensures.pieces is c.if-piece-own.true c.requires in
    rw (c.balanced.ensures, c.with.ensures, c.sides-left.ensures.left, c.sides-left.ensures.right, c.sides-left.ensures.piece, c.deref_mut.ensures.value) parts.1

pub with-requires-else-piece-own : goal.with-requires-else-piece-own
with-requires-else-piece-own g t c =
    let is : c.in-Fork.top.value.piece ≡ Some c.piece_of-own.result = cc in
    let all : Rises 0 c.args.self 1048576 = rw (← c.in-Fork.ensures.pieces) c.in-Fork.ensures.whole.1 in
    let parts = with_right c.args.self c.in-Fork.top.value.left c.in-Fork.top.value.right c.in-Fork.top.value.piece c.args.piece c.piece_of-own.result c.in-Fork.ensures.pieces is c.if-piece-own.false all c.requires in
    let right : Rises 0 (inserted c.args.piece c.sides-left.result.1) 1048576 = rw (c.sides-left.ensures.right, c.deref_mut.ensures.value) parts.0 in
    let short = sides_short c.args.self c.in-Fork.top.value.left c.in-Fork.top.value.right c.in-Fork.top.value.piece c.piece_of-own.result c.in-Fork.ensures.pieces is in
    let fewer : length c.sides-left.result.1 < length c.args.self = rw (c.sides-left.ensures.right, c.deref_mut.ensures.value) short.1 in
    λ κs within. (search rules, (within, right))

pub balanced-requires-else-piece-own : goal.balanced-requires-else-piece-own
balanced-requires-else-piece-own g t c =
    let is : c.in-Fork.top.value.piece ≡ Some c.piece_of-own.result = cc in
    let all : Rises 0 c.args.self 1048576 = rw (← c.in-Fork.ensures.pieces) c.in-Fork.ensures.whole.1 in
    let parts = with_right c.args.self c.in-Fork.top.value.left c.in-Fork.top.value.right c.in-Fork.top.value.piece c.args.piece c.piece_of-own.result c.in-Fork.ensures.pieces is c.if-piece-own.false all c.requires in
    let has : HasPiece c.sides-left.new.node.piece = rw (c.sides-left.ensures.piece, c.deref_mut.ensures.value) c.in-Fork.ensures.whole.0 in
    (has, rw (c.with-else-piece-own.ensures, c.sides-left.ensures.left, c.sides-left.ensures.right, c.sides-left.ensures.piece, c.deref_mut.ensures.value, parts.1) c.requires)

pub returns-else-piece-own : goal.returns-else-piece-own
returns-else-piece-own g t c =
    let is : c.in-Fork.top.value.piece ≡ Some c.piece_of-own.result = cc in
    let all : Rises 0 c.args.self 1048576 = rw (← c.in-Fork.ensures.pieces) c.in-Fork.ensures.whole.1 in
    let parts = with_right c.args.self c.in-Fork.top.value.left c.in-Fork.top.value.right c.in-Fork.top.value.piece c.args.piece c.piece_of-own.result c.in-Fork.ensures.pieces is c.if-piece-own.false all c.requires in
    rw (c.balanced-else-piece-own.ensures, c.with-else-piece-own.ensures, c.sides-left.ensures.left, c.sides-left.ensures.right, c.sides-left.ensures.piece, c.deref_mut.ensures.value) parts.1
