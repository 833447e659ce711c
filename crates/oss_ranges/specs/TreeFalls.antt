-- The sides of a tree have fewer pieces than the tree.
-- A proof that stands among the definitions: the model of `Tree` names it (`size_decreases`), and an item of src/ may name
-- nothing of proofs/.
use Rattle.std.specs.Prelude.{◌≤◌, ◌+◌, List, ◌++◌, length, max, Option, Some, None}
use Rattle.std.proofs.Common.{arith, length-append}
use Rattle.oss_ranges.specs.Trees.{IsTree, HasPiece, own, pieces_of}
use Rattle.oss_ranges.specs.declared.piece.Piece.{Piece}
use Rattle.oss_ranges.specs.declared.tree.Root.{Root}
use Rattle.oss_ranges.specs.declared.tree.Root.TheVariants.{Leaf, Fork}
use Rattle.oss_ranges.specs.declared.tree.Tree.TheDeep.{deep-Root}

sides_within : {T : Type 0} (left right : List (Piece T)) (piece : Option (Piece T)) → HasPiece piece
    → max (length left + 1) (max (length right + 1) 0) ≤ length (left ++ (own piece ++ right))
sides_within left right None whole = absurd whole
sides_within left right (Some p) whole = grind (arith, length-append)

pub falls : {T : Type 0} (root : Root T) → IsTree root → max (deep-Root T root) 0 ≤ length (pieces_of root)
falls Leaf whole = grind arith
falls (Fork n) whole = grind (arith, sides_within n.value.left n.value.right n.value.piece whole.0)
