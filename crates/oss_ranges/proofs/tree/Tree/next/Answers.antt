use Rattle.std.proofs.Common.{◌≡◌, ◌++◌, Some, subst, ◌∙◌}
use Rattle.oss_ranges.proofs.NodeLemmas.{search_left, search_right}
use Rattle.oss_ranges.specs.Cells.{next_of}
use Rattle.oss_ranges.specs.Trees.{IsTree, or_found, own}
use Rattle.oss_ranges.proofs.tree.Tree.next.Goals as goal

pub nodes-preserved-then-cell-own : goal.nodes-preserved-then-cell-own
nodes-preserved-then-cell-own g c =
    let n = c.in-Fork.node.value in
    let is : n.piece ≡ Some c.piece_of-own.result = cc in
    let all : c.nodes.tree.now ≡ n.left ++ (own n.piece ++ n.right) = cc in
    let at = search_left c.args.cell n c.piece_of-own.result c.nodes.found is c.if-cell-own.true in
    let before : or_found (next_of c.args.cell (n.left ++ (own n.piece ++ n.right))) c.nodes.found ≡ next_of c.args.cell c.args.self.now = subst (λ xs. or_found (next_of c.args.cell xs) c.nodes.found ≡ next_of c.args.cell c.args.self.now) all c.nodes.invariant in
    rw c.deref-then-cell-own.ensures (at ∙ before)

pub nodes-preserved : goal.nodes-preserved
nodes-preserved g c =
    let n = c.in-Fork.node.value in
    let is : n.piece ≡ Some c.piece_of-own.result = cc in
    let all : c.nodes.tree.now ≡ n.left ++ (own n.piece ++ n.right) = cc in
    let whole = subst IsTree c.in-Fork.is c.tree.invariant in
    let at = search_right c.args.cell n c.piece_of-own.result c.nodes.found is whole.1 c.if-cell-own.false in
    let before : or_found (next_of c.args.cell (n.left ++ (own n.piece ++ n.right))) c.nodes.found ≡ next_of c.args.cell c.args.self.now = subst (λ xs. or_found (next_of c.args.cell xs) c.nodes.found ≡ next_of c.args.cell c.args.self.now) all c.nodes.invariant in
    rw c.deref-else-cell-own.ensures (at ∙ before)
