-- Formats: the string of `printf` and what it writes (C11 7.21.6.1), the conversions being %d, %ld, %lu and %%.
-- Read against: %d and %ld of 18446744073709551611 write -5, %lu writes 18446744073709551611; "100%%" writes 100%; of "%s" and of
-- "50%" there are no pieces, and "%d!" has the two pieces that "%ld!" has.
use Rattle.std.specs.Prelude.{◌≡◌, ℕ, ◌+◌, ◌-◌, ◌^◌, ◌==◌, false, if◌then◌else◌, List, [], ◌∷◌, ◌++◌, Option, Some, None, option_map}
use Rattle.std.specs.Fmt.{decimal}
use Rattle.oss_grammar.specs.Values.{is_negative}
use Rattle.oss_grammar.specs.declared.format.Piece.{Piece}
use Rattle.oss_grammar.specs.declared.format.Piece.TheVariants as piece

-- a number of 64 bits in decimal, read as signed
abbrev pub signed_text : ℕ → List ℕ
signed_text v = if is_negative v then 45 ∷ decimal (2 ^ 64 - v) else decimal v

-- How a piece is spelled: a byte that is no `%` as itself, a `%` as `%%`, the place of a signed number as `%d` or `%ld`, and that
-- of an unsigned one as `%lu`. Nothing else begins with a `%`.
pub data IsSpelling : Piece → List ℕ → Type 0 where
  itself : (b : ℕ) → (b == 37) ≡ false → IsSpelling (piece.Plain b) (b ∷ [])
  percent : IsSpelling (piece.Plain 37) (37 ∷ 37 ∷ [])
  signed : IsSpelling piece.Signed (37 ∷ 100 ∷ [])
  long_signed : IsSpelling piece.Signed (37 ∷ 108 ∷ 100 ∷ [])
  long_unsigned : IsSpelling piece.Unsigned (37 ∷ 108 ∷ 117 ∷ [])

-- A string has these pieces: it is their spellings, one behind the other.
pub data HasPieces : List ℕ → List Piece → Type 0 where
  no_piece : {format : List ℕ} → format ≡ [] → HasPieces format []
  more_pieces : {format : List ℕ} {p : Piece} {more : List Piece} (front back : List ℕ)
      → format ≡ front ++ back → IsSpelling p front → HasPieces back more → HasPieces format (p ∷ more)

-- a piece, and those behind it
abbrev pub with_piece : Piece → Option (List Piece) → Option (List Piece)
with_piece piece pieces = option_map (λ rest. piece ∷ rest) pieces

-- The pieces of a whole string, and of what stands behind a `%` and behind a `%l`; none where a `%` begins something else. `%d!` has
-- two; of `%s` there are none, since it is refused.
abbrev mutual
  pub pieces_of : List ℕ → Option (List Piece)
  pieces_of [] = Some []
  pieces_of (b ∷ rest) = if b == 37 then pieces_behind_percent rest else with_piece (piece.Plain b) (pieces_of rest)

  pub pieces_behind_percent : List ℕ → Option (List Piece)
  pieces_behind_percent [] = None
  pieces_behind_percent (b ∷ rest) =
      if b == 37 then with_piece (piece.Plain 37) (pieces_of rest)
      else if b == 100 then with_piece piece.Signed (pieces_of rest)
      else if b == 108 then pieces_behind_long rest
      else None

  pub pieces_behind_long : List ℕ → Option (List Piece)
  pieces_behind_long [] = None
  pieces_behind_long (b ∷ rest) =
      if b == 100 then with_piece piece.Signed (pieces_of rest)
      else if b == 117 then with_piece piece.Unsigned (pieces_of rest)
      else None

-- The string has the pieces that are computed of it, and no others, and none where none are computed.
pub record HasItsPiecesAlone (format : List ℕ) : Type 0 where
  pub computed : (pieces : List Piece) → HasPieces format pieces → pieces_of format ≡ Some pieces
  pub has : (pieces : List Piece) → pieces_of format ≡ Some pieces → HasPieces format pieces
  pub alone : (pieces other : List Piece) → HasPieces format pieces → HasPieces format other → pieces ≡ other

-- how many arguments the pieces take
abbrev pub arguments_of : List Piece → ℕ
arguments_of [] = 0
arguments_of (piece.Plain b ∷ rest) = arguments_of rest
arguments_of (piece.Signed ∷ rest) = arguments_of rest + 1
arguments_of (piece.Unsigned ∷ rest) = arguments_of rest + 1

-- how many arguments a string takes; none where a % begins something else
abbrev pub conversions_of : List ℕ → Option ℕ
conversions_of format = option_map arguments_of (pieces_of format)

-- what is written for the pieces and these arguments; without an argument a conversion writes nothing
abbrev pub written_pieces : List Piece → List ℕ → List ℕ
written_pieces [] vs = []
written_pieces (piece.Plain b ∷ rest) vs = b ∷ written_pieces rest vs
written_pieces (piece.Signed ∷ rest) [] = written_pieces rest []
written_pieces (piece.Signed ∷ rest) (v ∷ vs) = signed_text v ++ written_pieces rest vs
written_pieces (piece.Unsigned ∷ rest) [] = written_pieces rest []
written_pieces (piece.Unsigned ∷ rest) (v ∷ vs) = decimal v ++ written_pieces rest vs

-- the same, if the string has pieces; a string without any writes nothing
abbrev pub printed_pieces : Option (List Piece) → List ℕ → List ℕ
printed_pieces None vs = []
printed_pieces (Some pieces) vs = written_pieces pieces vs

-- what `printf` writes for a string and the values of its arguments
abbrev pub printed : List ℕ → List ℕ → List ℕ
printed format vs = printed_pieces (pieces_of format) vs
