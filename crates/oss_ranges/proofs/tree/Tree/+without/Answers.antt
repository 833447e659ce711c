use Rattle.std.proofs.Common.{◌≡◌, Some, true, false, is_some, sym}
use Rattle.oss_ranges.specs.Cells.{next_of, Rises}
use Rattle.oss_ranges.specs.Trees.{HasPiece}
use Rattle.oss_ranges.proofs.NodeLemmas.{without_left, without_own, without_right}
use Rattle.oss_ranges.proofs.tree.Tree.+without.Goals as goal

pub balanced-requires : goal.balanced-requires
balanced-requires g t c =
    let all : Rises 0 c.args.self 1048576 = rw (← c.in-Fork.ensures.pieces) c.in-Fork.ensures.whole.1 in
    let left : c.sides-left.result.0 ≡ c.in-Fork.top.value.left = cc in
    let there : is_some (next_of c.args.cell c.in-Fork.top.value.left) ≡ true = rw (← left) (rw c.in-Some.is at (sym c.without-node.ensures.node)) in
    let parts = without_left c.args.cell c.args.self c.in-Fork.top.value.left c.in-Fork.top.value.right c.in-Fork.top.value.piece c.in-Fork.ensures.pieces all there in
    let has : HasPiece c.sides-left.new.node.piece = rw (c.sides-left.ensures.piece, c.deref_mut.ensures.value) c.in-Fork.ensures.whole.0 in
    (has, rw (c.without-node.ensures.pieces, left, c.sides-left.ensures.right, c.sides-left.ensures.piece, c.deref_mut.ensures.value) parts.2)

pub returns-in-Some-clause-pieces : goal.returns-in-Some-clause-pieces
returns-in-Some-clause-pieces g t c =
    let all : Rises 0 c.args.self 1048576 = rw (← c.in-Fork.ensures.pieces) c.in-Fork.ensures.whole.1 in
    let left : c.sides-left.result.0 ≡ c.in-Fork.top.value.left = cc in
    let there : is_some (next_of c.args.cell c.in-Fork.top.value.left) ≡ true = rw (← left) (rw c.in-Some.is at (sym c.without-node.ensures.node)) in
    let parts = without_left c.args.cell c.args.self c.in-Fork.top.value.left c.in-Fork.top.value.right c.in-Fork.top.value.piece c.in-Fork.ensures.pieces all there in
    rw (c.balanced.ensures, c.without-node.ensures.pieces, left, c.sides-left.ensures.right, c.sides-left.ensures.piece, c.deref_mut.ensures.value) parts.0

pub returns-in-Some-clause-node : goal.returns-in-Some-clause-node
returns-in-Some-clause-node g t c =
    let all : Rises 0 c.args.self 1048576 = rw (← c.in-Fork.ensures.pieces) c.in-Fork.ensures.whole.1 in
    let left : c.sides-left.result.0 ≡ c.in-Fork.top.value.left = cc in
    let there : is_some (next_of c.args.cell c.in-Fork.top.value.left) ≡ true = rw (← left) (rw c.in-Some.is at (sym c.without-node.ensures.node)) in
    (without_left c.args.cell c.args.self c.in-Fork.top.value.left c.in-Fork.top.value.right c.in-Fork.top.value.piece c.in-Fork.ensures.pieces all there).1

pub joined-requires : goal.joined-requires
joined-requires g t c =
    let is : c.in-Fork.top.value.piece ≡ Some c.piece_of-own.result = cc in
    let all : Rises 0 c.args.self 1048576 = rw (← c.in-Fork.ensures.pieces) c.in-Fork.ensures.whole.1 in
    let left : c.sides-left.result.0 ≡ c.in-Fork.top.value.left = cc in
    let there : is_some (next_of c.args.cell c.in-Fork.top.value.left) ≡ false = rw (← left) (rw c.in-None.is at (sym c.without-node.ensures.node)) in
    let parts = without_own c.args.cell c.args.self c.in-Fork.top.value.left c.in-Fork.top.value.right c.in-Fork.top.value.piece c.piece_of-own.result c.in-Fork.ensures.pieces is all c.if-cell-own.true there in
    rw (c.without-node.ensures.pieces, left, c.sides-left.ensures.right, c.deref_mut.ensures.value) parts.2

pub returns-in-None-clause-pieces : goal.returns-in-None-clause-pieces
returns-in-None-clause-pieces g t c =
    let is : c.in-Fork.top.value.piece ≡ Some c.piece_of-own.result = cc in
    let all : Rises 0 c.args.self 1048576 = rw (← c.in-Fork.ensures.pieces) c.in-Fork.ensures.whole.1 in
    let left : c.sides-left.result.0 ≡ c.in-Fork.top.value.left = cc in
    let there : is_some (next_of c.args.cell c.in-Fork.top.value.left) ≡ false = rw (← left) (rw c.in-None.is at (sym c.without-node.ensures.node)) in
    let parts = without_own c.args.cell c.args.self c.in-Fork.top.value.left c.in-Fork.top.value.right c.in-Fork.top.value.piece c.piece_of-own.result c.in-Fork.ensures.pieces is all c.if-cell-own.true there in
    rw (c.joined.ensures, c.without-node.ensures.pieces, left, c.sides-left.ensures.right, c.deref_mut.ensures.value) parts.0

pub returns-in-None-clause-node : goal.returns-in-None-clause-node
returns-in-None-clause-node g t c =
    let is : c.in-Fork.top.value.piece ≡ Some c.piece_of-own.result = cc in
    let all : Rises 0 c.args.self 1048576 = rw (← c.in-Fork.ensures.pieces) c.in-Fork.ensures.whole.1 in
    let left : c.sides-left.result.0 ≡ c.in-Fork.top.value.left = cc in
    let there : is_some (next_of c.args.cell c.in-Fork.top.value.left) ≡ false = rw (← left) (rw c.in-None.is at (sym c.without-node.ensures.node)) in
    (without_own c.args.cell c.args.self c.in-Fork.top.value.left c.in-Fork.top.value.right c.in-Fork.top.value.piece c.piece_of-own.result c.in-Fork.ensures.pieces is all c.if-cell-own.true there).1

pub balanced-requires-else-cell-own : goal.balanced-requires-else-cell-own
balanced-requires-else-cell-own g t c =
    let is : c.in-Fork.top.value.piece ≡ Some c.piece_of-own.result = cc in
    let all : Rises 0 c.args.self 1048576 = rw (← c.in-Fork.ensures.pieces) c.in-Fork.ensures.whole.1 in
    let right : c.sides-left.result.1 ≡ c.in-Fork.top.value.right = cc in
    let parts = without_right c.args.cell c.args.self c.in-Fork.top.value.left c.in-Fork.top.value.right c.in-Fork.top.value.piece c.piece_of-own.result c.in-Fork.ensures.pieces is all c.if-cell-own.false in
    let has : HasPiece c.sides-left.new.node.piece = rw (c.sides-left.ensures.piece, c.deref_mut.ensures.value) c.in-Fork.ensures.whole.0 in
    (has, rw (c.without-node-else-cell-own.ensures.pieces, right, c.sides-left.ensures.left, c.sides-left.ensures.piece, c.deref_mut.ensures.value) parts.2)

pub returns-else-cell-own-clause-pieces : goal.returns-else-cell-own-clause-pieces
returns-else-cell-own-clause-pieces g t c =
    let is : c.in-Fork.top.value.piece ≡ Some c.piece_of-own.result = cc in
    let all : Rises 0 c.args.self 1048576 = rw (← c.in-Fork.ensures.pieces) c.in-Fork.ensures.whole.1 in
    let right : c.sides-left.result.1 ≡ c.in-Fork.top.value.right = cc in
    let parts = without_right c.args.cell c.args.self c.in-Fork.top.value.left c.in-Fork.top.value.right c.in-Fork.top.value.piece c.piece_of-own.result c.in-Fork.ensures.pieces is all c.if-cell-own.false in
    rw (c.balanced-else-cell-own.ensures, c.without-node-else-cell-own.ensures.pieces, right, c.sides-left.ensures.left, c.sides-left.ensures.piece, c.deref_mut.ensures.value) parts.0

pub returns-else-cell-own-clause-node : goal.returns-else-cell-own-clause-node
returns-else-cell-own-clause-node g t c =
    let is : c.in-Fork.top.value.piece ≡ Some c.piece_of-own.result = cc in
    let all : Rises 0 c.args.self 1048576 = rw (← c.in-Fork.ensures.pieces) c.in-Fork.ensures.whole.1 in
    let right : c.sides-left.result.1 ≡ c.in-Fork.top.value.right = cc in
    let parts = without_right c.args.cell c.args.self c.in-Fork.top.value.left c.in-Fork.top.value.right c.in-Fork.top.value.piece c.piece_of-own.result c.in-Fork.ensures.pieces is all c.if-cell-own.false in
    rw (c.without-node-else-cell-own.ensures.node, right) parts.1
