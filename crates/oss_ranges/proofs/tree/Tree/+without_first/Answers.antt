use Rattle.std.proofs.Common.{◌≡◌, ◌++◌, sym, ◌∙◌, ap, subst}
use Rattle.oss_ranges.specs.Trees.{HasPiece, IsParted, own}
use Rattle.oss_ranges.proofs.NodeLemmas.{parted_left}
use Rattle.oss_ranges.proofs.tree.Tree.+without_first.Goals as goal

pub balanced-requires : goal.balanced-requires
balanced-requires g t c =
    let parted = subst (λ o. IsParted c.sides-left.result.0 o c.without_first-first.result.1) c.in-Some.is c.without_first-first.ensures in
    let has : HasPiece c.sides-left.new.node.piece = rw (c.sides-left.ensures.piece, c.deref_mut.ensures.value) c.in-Fork.ensures.whole.0 in
    let whole = c.in-Fork.ensures.whole.1 in
    let left : c.in-Fork.top.value.left ≡ own c.in-Some.first.value.piece ++ c.without_first-first.result.1 = sym (c.sides-left.ensures.left ∙ ap (λ n. n.left) c.deref_mut.ensures.value) ∙ parted.1 in
    (has, rw (c.sides-left.ensures.piece, c.sides-left.ensures.right, c.deref_mut.ensures.value) (parted_left c.in-Some.first.value.piece c.in-Fork.top.value.piece c.without_first-first.result.1 c.in-Fork.top.value.right parted.0 (rw left at whole)))
