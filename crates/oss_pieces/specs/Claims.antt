-- What is promised of pieces beside what the calls say.
use Rattle.std.specs.Prelude.{◌≡◌, ℕ, Bool, List}
use Rattle.oss_syntax.specs.declared.tree.program.Item.{Item}
use Rattle.oss_pieces.specs.declared.piece.Piece.{Piece}
use Rattle.oss_pieces.specs.Pieces.{ArePieces}

-- Two lists of the pieces of one set, over the globals of one program, are equal.
abbrev pub OneList : Type 0
OneList = (test : ℕ → Bool) (all : List Item) (ps qs : List Piece) → ArePieces test all 0 0 ps → ArePieces test all 0 0 qs → ps ≡ qs
