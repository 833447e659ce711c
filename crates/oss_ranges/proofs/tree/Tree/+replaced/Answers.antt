use Rattle.std.proofs.Common.{◌≡◌, ◌<◌, length, Some, rules, arith}
use Rattle.oss_ranges.proofs.NodeLemmas.{replaced_left, replaced_own, replaced_right, sides_short}
use Rattle.oss_ranges.specs.Cells.{Begins, inserted, next_of, removed, Rises}
use Rattle.oss_ranges.specs.Trees.{HasPiece}
use Rattle.oss_ranges.proofs.tree.Tree.+replaced.Goals as goal

pub replaced-requires : goal.replaced-requires
replaced-requires g t c =
    let is : c.in-Fork.top.value.piece ≡ Some c.piece_of-own.result = cc in
    let all : Rises 0 c.args.self 1048576 = rw (← c.in-Fork.ensures.pieces) c.in-Fork.ensures.whole.1 in
    let parts = replaced_left c.args.self c.in-Fork.top.value.left c.in-Fork.top.value.right c.in-Fork.top.value.piece c.args.piece c.piece_of-own.result c.in-Fork.ensures.pieces is all c.requires.found c.requires.rising c.if-piece-own.true in
    let short = sides_short c.args.self c.in-Fork.top.value.left c.in-Fork.top.value.right c.in-Fork.top.value.piece c.piece_of-own.result c.in-Fork.ensures.pieces is in
    let begins : Begins c.args.piece.lo (next_of c.args.piece.lo c.sides-left.result.0) = rw (c.sides-left.ensures.left, c.deref_mut.ensures.value) parts.0 in
    let fits : Rises 0 (inserted c.args.piece (removed c.args.piece.lo c.sides-left.result.0)) 1048576 = rw (c.sides-left.ensures.left, c.deref_mut.ensures.value) parts.1 in
    let fewer : length c.sides-left.result.0 < length c.args.self = rw (c.sides-left.ensures.left, c.deref_mut.ensures.value) short.0 in
    λ κs within. (search rules, (within, (begins, fits)))

pub over-requires : goal.over-requires
over-requires g t c =
    let is : c.in-Fork.top.value.piece ≡ Some c.piece_of-own.result = cc in
    let all : Rises 0 c.args.self 1048576 = rw (← c.in-Fork.ensures.pieces) c.in-Fork.ensures.whole.1 in
    let parts = replaced_left c.args.self c.in-Fork.top.value.left c.in-Fork.top.value.right c.in-Fork.top.value.piece c.args.piece c.piece_of-own.result c.in-Fork.ensures.pieces is all c.requires.found c.requires.rising c.if-piece-own.true in
    let has : HasPiece c.sides-left.new.node.piece = rw (c.sides-left.ensures.piece, c.deref_mut.ensures.value) c.in-Fork.ensures.whole.0 in
    (has, rw (c.replaced.ensures, c.sides-left.ensures.left, c.sides-left.ensures.right, c.sides-left.ensures.piece, c.deref_mut.ensures.value, parts.2) c.requires.rising)

pub returns-then-piece-own : goal.returns-then-piece-own
returns-then-piece-own g t c =
    let is : c.in-Fork.top.value.piece ≡ Some c.piece_of-own.result = cc in
    let all : Rises 0 c.args.self 1048576 = rw (← c.in-Fork.ensures.pieces) c.in-Fork.ensures.whole.1 in
    let parts = replaced_left c.args.self c.in-Fork.top.value.left c.in-Fork.top.value.right c.in-Fork.top.value.piece c.args.piece c.piece_of-own.result c.in-Fork.ensures.pieces is all c.requires.found c.requires.rising c.if-piece-own.true in
    rw (c.over.ensures, c.replaced.ensures, c.sides-left.ensures.left, c.sides-left.ensures.right, c.sides-left.ensures.piece, c.deref_mut.ensures.value) parts.2

pub replaced-requires-then-own-piece : goal.replaced-requires-then-own-piece
replaced-requires-then-own-piece g t c =
    let is : c.in-Fork.top.value.piece ≡ Some c.piece_of-own.result = cc in
    let all : Rises 0 c.args.self 1048576 = rw (← c.in-Fork.ensures.pieces) c.in-Fork.ensures.whole.1 in
    let parts = replaced_right c.args.self c.in-Fork.top.value.left c.in-Fork.top.value.right c.in-Fork.top.value.piece c.args.piece c.piece_of-own.result c.in-Fork.ensures.pieces is all c.requires.found c.requires.rising c.if-own-piece.true in
    let short = sides_short c.args.self c.in-Fork.top.value.left c.in-Fork.top.value.right c.in-Fork.top.value.piece c.piece_of-own.result c.in-Fork.ensures.pieces is in
    let begins : Begins c.args.piece.lo (next_of c.args.piece.lo c.sides-left.result.1) = rw (c.sides-left.ensures.right, c.deref_mut.ensures.value) parts.0 in
    let fits : Rises 0 (inserted c.args.piece (removed c.args.piece.lo c.sides-left.result.1)) 1048576 = rw (c.sides-left.ensures.right, c.deref_mut.ensures.value) parts.1 in
    let fewer : length c.sides-left.result.1 < length c.args.self = rw (c.sides-left.ensures.right, c.deref_mut.ensures.value) short.1 in
    λ κs within. (search rules, (within, (begins, fits)))

pub over-requires-then-own-piece : goal.over-requires-then-own-piece
over-requires-then-own-piece g t c =
    let is : c.in-Fork.top.value.piece ≡ Some c.piece_of-own.result = cc in
    let all : Rises 0 c.args.self 1048576 = rw (← c.in-Fork.ensures.pieces) c.in-Fork.ensures.whole.1 in
    let parts = replaced_right c.args.self c.in-Fork.top.value.left c.in-Fork.top.value.right c.in-Fork.top.value.piece c.args.piece c.piece_of-own.result c.in-Fork.ensures.pieces is all c.requires.found c.requires.rising c.if-own-piece.true in
    let has : HasPiece c.sides-left.new.node.piece = rw (c.sides-left.ensures.piece, c.deref_mut.ensures.value) c.in-Fork.ensures.whole.0 in
    (has, rw (c.replaced-then-own-piece.ensures, c.sides-left.ensures.left, c.sides-left.ensures.right, c.sides-left.ensures.piece, c.deref_mut.ensures.value, parts.2) c.requires.rising)

pub returns-then-own-piece : goal.returns-then-own-piece
returns-then-own-piece g t c =
    let is : c.in-Fork.top.value.piece ≡ Some c.piece_of-own.result = cc in
    let all : Rises 0 c.args.self 1048576 = rw (← c.in-Fork.ensures.pieces) c.in-Fork.ensures.whole.1 in
    let parts = replaced_right c.args.self c.in-Fork.top.value.left c.in-Fork.top.value.right c.in-Fork.top.value.piece c.args.piece c.piece_of-own.result c.in-Fork.ensures.pieces is all c.requires.found c.requires.rising c.if-own-piece.true in
    rw (c.over-then-own-piece.ensures, c.replaced-then-own-piece.ensures, c.sides-left.ensures.left, c.sides-left.ensures.right, c.sides-left.ensures.piece, c.deref_mut.ensures.value) parts.2

pub over-requires-else-own-piece : goal.over-requires-else-own-piece
over-requires-else-own-piece g t c =
    let is : c.in-Fork.top.value.piece ≡ Some c.piece_of-own.result = cc in
    let all : Rises 0 c.args.self 1048576 = rw (← c.in-Fork.ensures.pieces) c.in-Fork.ensures.whole.1 in
    let low = c.if-piece-own.false in
    let high = c.if-own-piece.false in
    let same = replaced_own c.args.self c.in-Fork.top.value.left c.in-Fork.top.value.right c.in-Fork.top.value.piece c.args.piece c.piece_of-own.result c.in-Fork.ensures.pieces is all (omega arith) (omega arith) in
    (tt {0}, rw (c.sides-left.ensures.left, c.sides-left.ensures.right, c.deref_mut.ensures.value, same) c.requires.rising)

pub returns-else-own-piece : goal.returns-else-own-piece
returns-else-own-piece g t c =
    let is : c.in-Fork.top.value.piece ≡ Some c.piece_of-own.result = cc in
    let all : Rises 0 c.args.self 1048576 = rw (← c.in-Fork.ensures.pieces) c.in-Fork.ensures.whole.1 in
    let low = c.if-piece-own.false in
    let high = c.if-own-piece.false in
    let same = replaced_own c.args.self c.in-Fork.top.value.left c.in-Fork.top.value.right c.in-Fork.top.value.piece c.args.piece c.piece_of-own.result c.in-Fork.ensures.pieces is all (omega arith) (omega arith) in
    rw (c.over-else-own-piece.ensures, c.sides-left.ensures.left, c.sides-left.ensures.right, c.deref_mut.ensures.value) same
