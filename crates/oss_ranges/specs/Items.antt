-- What an iterator over the pieces of a range gives, as a piece.
use Rattle.oss_ranges.specs.declared.piece.Piece.{Piece}
use Rattle.oss_syntax.specs.declared.access.Range.{Range}

abbrev pub piece_of : {T : Type 0} → Range × T → Piece T
piece_of item = record { lo = item.0.lo; hi = item.0.hi; value = item.1 }
