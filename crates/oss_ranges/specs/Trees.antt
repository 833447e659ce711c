-- The pieces of a tree: those of its left side, its own, and those of its right side.
use Rattle.std.specs.Global.{Box}
use Rattle.std.specs.Prelude.{◌≡◌, List, [], ◌∷◌, ◌++◌, Option, Some, None}
use Rattle.oss_ranges.specs.Cells.{Rises}
use Rattle.oss_ranges.specs.declared.piece.Piece.{Piece}
use Rattle.oss_ranges.specs.declared.tree.Node.{Node}
use Rattle.oss_ranges.specs.declared.tree.Root.{Root}
use Rattle.oss_ranges.specs.declared.tree.Root.TheVariants.{Leaf, Fork}

-- a node that is in no tree has no piece
abbrev pub own : {T : Type 0} → Option (Piece T) → List (Piece T)
own None = []
own (Some p) = p ∷ []

abbrev pub pieces_of : {T : Type 0} → Root T → List (Piece T)
pieces_of Leaf = []
pieces_of (Fork n) = n.value.left ++ (own n.value.piece ++ n.value.right)

abbrev pub HasPiece : {T : Type 0} → Option (Piece T) → Type 0
HasPiece None = ⊥
HasPiece (Some p) = Unit {0}

-- the node of a tree has a piece
abbrev pub IsWhole : {T : Type 0} → Root T → Type 0
IsWhole Leaf = Unit {0}
IsWhole (Fork n) = HasPiece n.value.piece

-- what holds of each tree: its pieces lie one behind the other
abbrev pub IsTree : {T : Type 0} → Root T → Type 0
IsTree root = IsWhole root × Rises 0 (pieces_of root) 1048576

-- a piece between two sides makes a tree
abbrev pub IsBetween : {T : Type 0} → List (Piece T) → Option (Piece T) → List (Piece T) → Type 0
IsBetween left piece right = HasPiece piece × Rises 0 (left ++ (own piece ++ right)) 1048576

-- the piece that was found first, or else the other one
abbrev pub or_found : {T : Type 0} → Option (Piece T) → Option (Piece T) → Option (Piece T)
or_found (Some first) other = Some first
or_found None other = other

-- pieces are parted in the first, which a node has, and the others; or there is none
abbrev pub IsParted : {T : Type 0} → List (Piece T) → Option (Box (Node T)) → List (Piece T) → Type 0
IsParted pieces None rest = (pieces ≡ []) × (rest ≡ [])
IsParted pieces (Some first) rest = HasPiece first.value.piece × (pieces ≡ own first.value.piece ++ rest)
