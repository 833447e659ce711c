-- A set has one list of pieces.
use Rattle.std.proofs.Common.{◌≡◌, ◌<◌, ℕ, ◌+◌, Bool, List, [], ◌∷◌, ◌++◌, inl, inr, arith, refl, sym, ◌∙◌, ap, subst}
use Rattle.oss_model.specs.Order.{IsIn}
use Rattle.oss_model.proofs.SortLemmas.{in_append, in_last, in_left}
use Rattle.oss_syntax.specs.declared.tree.program.Item.{Item}
use Rattle.oss_grammar.specs.Layout.{cells_of}
use Rattle.oss_pieces.specs.declared.piece.Piece.{Piece}
use Rattle.oss_pieces.specs.Rows.{Grid, grid_of}
use Rattle.oss_pieces.specs.Pieces.{ArePieces, ArePiecesTo, Rise, first_cell}
use Rattle.oss_pieces.specs.Pieces.ArePieces.{none as no_items, of_function, of_global}
use Rattle.oss_pieces.specs.Pieces.Rise.{none as no_piece, one_more}

-- a piece of a list begins before the cell up to which the list goes
begins_before : (s : Grid) (ps : List Piece) (to : ℕ) (x : Piece) → Rise s ps to → IsIn x ps → first_cell s x < to
begins_before s _ to x no_piece i = elim i [ ]
begins_before s _ to x (one_more {ps} p r below) i = elim (in_append ps i) [
  | inl j ↦ (let early : first_cell s x < first_cell s p = begins_before s ps (first_cell s p) x r j in omega arith)
  | inr e ↦ subst (λ y. first_cell s y < to) (sym e) below
]

-- no piece is in a list without one
none_in : (p : Piece) (ps : List Piece) → ((q : Piece) → IsIn q (ps ++ p ∷ []) → IsIn q []) → ⊥
none_in p ps h = elim (h p (in_last ps)) [ ]

-- two rising lists with the same pieces are one
pub one_rising : (s : Grid) (ps qs : List Piece) (a b : ℕ) → Rise s ps a → Rise s qs b → ((x : Piece) → IsIn x ps → IsIn x qs) → ((x : Piece) → IsIn x qs → IsIn x ps) → ps ≡ qs
one_rising s _ _ a b no_piece no_piece f g = refl
one_rising s _ _ a b no_piece (one_more {ps} q r below) f g = absurd (none_in q ps g)
one_rising s _ _ a b (one_more {ps} p r below) no_piece f g = absurd (none_in p ps f)
one_rising s _ _ a b (one_more {ps} p r below) (one_more {ps = qs} q t under) f g =
    let lasts : p ≡ q = elim (in_append qs (f p (in_last ps))) [
      | inl i ↦ elim (in_append ps (g q (in_last qs))) [
        | inl j ↦ (let early : first_cell s p < first_cell s q = begins_before s qs (first_cell s q) p t i in
            let late : first_cell s q < first_cell s p = begins_before s ps (first_cell s p) q r j in absurd (omega arith))
        | inr e ↦ sym e
      ]
      | inr e ↦ e
    ] in
    let cells : first_cell s p ≡ first_cell s q = ap (first_cell s) lasts in
    let there : (x : Piece) → IsIn x ps → IsIn x qs = λ x i. elim (in_append qs (f x (in_left p ps i))) [
      | inl j ↦ j
      | inr e ↦ (let early : first_cell s x < first_cell s p = begins_before s ps (first_cell s p) x r i in
          let same : first_cell s x ≡ first_cell s q = ap (first_cell s) e in absurd (omega arith))
    ] in
    let back : (x : Piece) → IsIn x qs → IsIn x ps = λ x i. elim (in_append ps (g x (in_left q qs i))) [
      | inl j ↦ j
      | inr e ↦ (let early : first_cell s x < first_cell s q = begins_before s qs (first_cell s q) x t i in
          let same : first_cell s x ≡ first_cell s p = ap (first_cell s) e in absurd (omega arith))
    ] in
    let fronts : ps ≡ qs = one_rising s ps qs (first_cell s p) (first_cell s q) r t there back in
    ap (λ xs. xs ++ p ∷ []) fronts ∙ ap (λ x. qs ++ x ∷ []) lasts

-- the pieces of one global
one_of_global : (s : Grid) (number : ℕ) (test : ℕ → Bool) (to : ℕ) (ps qs : List Piece) → ArePiecesTo s number test to ps → ArePiecesTo s number test to qs → ps ≡ qs
one_of_global s number test to ps qs a b = one_rising s ps qs to to a.rise b.rise
    (λ x i. b.every x (a.each x i) (begins_before s ps to x a.rise i)) (λ x i. a.every x (b.each x i) (begins_before s qs to x b.rise i))

-- the pieces of all
pub one_list : (test : ℕ → Bool) (all : List Item) (number start : ℕ) (ps qs : List Piece) → ArePieces test all number start ps → ArePieces test all number start qs → ps ≡ qs
one_list test _ number start _ _ no_items no_items = refl
one_list test _ number start _ _ (of_function {rest} {ps} a) (of_function {ps = qs} b) = one_list test rest number start ps qs a b
one_list test _ number start _ _ (of_global {g} {rest} {own} {others} a more) (of_global {own = other} {others = those} b too) =
    let owns : own ≡ other = one_of_global (grid_of g start) number test (start + cells_of g.cells) own other a b in
    let rests : others ≡ those = one_list test rest (number + 1) (start + cells_of g.cells) others those more too in
    ap (λ xs. xs ++ others) owns ∙ ap (λ xs. other ++ xs) rests
