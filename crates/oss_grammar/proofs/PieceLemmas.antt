-- The pieces of a string of `printf`: those that are computed of it are those that it has, and no others.
use Rattle.std.proofs.Common.{◌≡◌, ◌==◌, ℕ, List, [], ◌∷◌, ◌++◌, refl, sym, subst, ap, ◌∙◌, inl, inr, Option, Some, None}
use Rattle.std.proofs.lemmas.Bool.{cases_Bool, eqb-true}
use Rattle.oss_grammar.specs.declared.format.Piece.{Piece}
use Rattle.oss_grammar.specs.declared.format.Piece.TheVariants as piece
use Rattle.oss_grammar.specs.Formats.{IsSpelling, HasPieces, HasItsPiecesAlone, with_piece, pieces_of, pieces_behind_percent, pieces_behind_long}
use Rattle.oss_grammar.specs.Formats.IsSpelling.{itself, percent, signed, long_signed, long_unsigned}
use Rattle.oss_grammar.specs.Formats.HasPieces.{no_piece, more_pieces}

-- what begins with a spelling begins with its piece
spelled : {p : Piece} {front : List ℕ} (back : List ℕ) → IsSpelling p front → pieces_of (front ++ back) ≡ with_piece p (pieces_of back)
spelled back (itself b other) = rw other refl
spelled back percent = refl
spelled back signed = refl
spelled back long_signed = refl
spelled back long_unsigned = refl

computed : {format : List ℕ} {pieces : List Piece} → HasPieces format pieces → pieces_of format ≡ Some pieces
computed (no_piece is) = rw is refl
computed (more_pieces {p = p} front back split is behind) = rw split (spelled back is ∙ ap (λ o. with_piece p o) (computed behind))

-- what stands behind the first piece has the others
Others : Piece → List ℕ → List Piece → Type 0
Others p back pieces = (more : List Piece) × (HasPieces back more) × (p ∷ more ≡ pieces)

others : (p : Piece) (back : List ℕ) (o : Option (List Piece)) (pieces : List Piece)
    → ((more : List Piece) → o ≡ Some more → HasPieces back more) → with_piece p o ≡ Some pieces → Others p back pieces
unfolding Others
others p back None pieces has is = absurd (cc)
others p back (Some more) pieces has is = (more, has more refl, cc)

put : {p : Piece} {format : List ℕ} {pieces : List Piece} (front back : List ℕ) → format ≡ front ++ back → IsSpelling p front → Others p back pieces → HasPieces format pieces
unfolding Others
put {format = format} front back split is found = subst (λ all. HasPieces format all) found.2 (more_pieces front back split is found.1)

-- what is computed of a string, and of one behind a `%` and behind a `%l`, it has
record AllHave (text : List ℕ) : Type 0 where
  whole : (pieces : List Piece) → pieces_of text ≡ Some pieces → HasPieces text pieces
  behind_percent : (pieces : List Piece) → pieces_behind_percent text ≡ Some pieces → HasPieces (37 ∷ text) pieces
  behind_long : (pieces : List Piece) → pieces_behind_long text ≡ Some pieces → HasPieces (37 ∷ 108 ∷ text) pieces

all_have : (text : List ℕ) → AllHave text
all_have [] = record { whole = λ pieces is. (let none : [] ≡ pieces = cc in subst (λ all. HasPieces [] all) none (no_piece refl)); behind_percent = λ pieces is. absurd (cc); behind_long = λ pieces is. absurd (cc) }
all_have (b ∷ rest) = more (all_have rest) where
  more : AllHave rest → AllHave (b ∷ rest)
  more have = record { whole = whole; behind_percent = behind_percent; behind_long = behind_long } where
    whole : (pieces : List Piece) → pieces_of (b ∷ rest) ≡ Some pieces → HasPieces (b ∷ rest) pieces
    whole pieces is = elim (cases_Bool (b == 37)) [
      | inl same ↦ (let is_b : b ≡ 37 = eqb-true b 37 same in rw is_b (have.behind_percent pieces (rw same at is)))
      | inr other ↦ put (b ∷ []) rest refl (itself b other) (others (piece.Plain b) rest (pieces_of rest) pieces have.whole (rw other at is))
    ]

    behind_percent : (pieces : List Piece) → pieces_behind_percent (b ∷ rest) ≡ Some pieces → HasPieces (37 ∷ b ∷ rest) pieces
    behind_percent pieces is = elim (cases_Bool (b == 37)) [
      | inl same ↦ (let is_b : b ≡ 37 = eqb-true b 37 same in rw is_b (put (37 ∷ 37 ∷ []) rest refl percent (others (piece.Plain 37) rest (pieces_of rest) pieces have.whole (rw same at is))))
      | inr other ↦ elim (cases_Bool (b == 100)) [
        | inl same ↦ (let is_b : b ≡ 100 = eqb-true b 100 same in rw is_b (put (37 ∷ 100 ∷ []) rest refl signed (others piece.Signed rest (pieces_of rest) pieces have.whole (rw (other, same) at is))))
        | inr next ↦ elim (cases_Bool (b == 108)) [
          | inl same ↦ (let is_b : b ≡ 108 = eqb-true b 108 same in rw is_b (have.behind_long pieces (rw (other, next, same) at is)))
          | inr last ↦ (let none : None ≡ Some pieces = rw (other, next, last) at is in absurd (cc))
        ]
      ]
    ]

    behind_long : (pieces : List Piece) → pieces_behind_long (b ∷ rest) ≡ Some pieces → HasPieces (37 ∷ 108 ∷ b ∷ rest) pieces
    behind_long pieces is = elim (cases_Bool (b == 100)) [
      | inl same ↦ (let is_b : b ≡ 100 = eqb-true b 100 same in rw is_b (put (37 ∷ 108 ∷ 100 ∷ []) rest refl long_signed (others piece.Signed rest (pieces_of rest) pieces have.whole (rw same at is))))
      | inr other ↦ elim (cases_Bool (b == 117)) [
        | inl same ↦ (let is_b : b ≡ 117 = eqb-true b 117 same in rw is_b (put (37 ∷ 108 ∷ 117 ∷ []) rest refl long_unsigned (others piece.Unsigned rest (pieces_of rest) pieces have.whole (rw (other, same) at is))))
        | inr last ↦ (let none : None ≡ Some pieces = rw (other, last) at is in absurd (cc))
      ]
    ]

pub its_pieces_alone : (format : List ℕ) → HasItsPiecesAlone format
its_pieces_alone format = record {
  computed = λ pieces has. computed has;
  has = λ pieces is. (all_have format).whole pieces is;
  alone = one;
} where
  one : (pieces other : List Piece) → HasPieces format pieces → HasPieces format other → pieces ≡ other
  one pieces other has also = let e : Some pieces ≡ Some other = sym (computed has) ∙ computed also in cc
