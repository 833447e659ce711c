-- One item more: its pieces go behind those of the items before it.
use Rattle.std.proofs.Common.{◌≡◌, ◌<◌, ℕ, ◌+◌, Bool, List, [], ◌∷◌, ◌++◌, suc, length, drop, get_or, arith, sym, ◌∙◌, ap, subst}
use Rattle.std.proofs.lemmas.List.{append_assoc}
use Rattle.std.proofs.Math.Seq.{drop-cons}
use Rattle.oss_syntax.specs.declared.tree.program.Function.{Function}
use Rattle.oss_syntax.specs.declared.tree.program.GlobalDef.{GlobalDef}
use Rattle.oss_syntax.specs.declared.tree.program.Item.{Item}
use Rattle.oss_syntax.specs.declared.tree.program.Item.TheVariants as items
use Rattle.oss_grammar.specs.Layout.{cells_of}
use Rattle.oss_pieces.specs.declared.piece.Piece.{Piece}
use Rattle.oss_pieces.specs.Rows.{grid_of}
use Rattle.oss_pieces.specs.Pieces.{ArePieces, ArePiecesTo}
use Rattle.oss_pieces.specs.Pieces.ArePieces.{none, of_function, of_global}

-- what is left, with its first item
pub first_left : (all : List Item) (i : ℕ) (item : Item) → i < length all → item ≡ get_or all i item → drop i all ≡ item ∷ drop (i + 1) all
first_left all i item h e =
    let n : suc i ≡ i + 1 = omega arith in
    drop-cons all i item h ∙ ap (λ x. x ∷ drop (suc i) all) (sym e) ∙ ap (λ k. item ∷ drop k all) n

-- Of what is left nothing is told behind the last item.
pub all_done : (test : ℕ → Bool) (all left : List Item) (number start : ℕ) (found : List Piece) → left ≡ []
    → ((others : List Piece) → ArePieces test left number start others → ArePieces test all 0 0 (found ++ others)) → ArePieces test all 0 0 (found ++ [])
all_done test all left number start found e goes = goes [] (subst (λ xs. ArePieces test xs number start []) (sym e) none)

-- A function has no pieces.
pub past_function : (test : ℕ → Bool) (all left rest : List Item) (f : Function) (number start : ℕ) (found : List Piece) → left ≡ items.Function f ∷ rest
    → ((others : List Piece) → ArePieces test left number start others → ArePieces test all 0 0 (found ++ others))
    → (others : List Piece) → ArePieces test rest number start others → ArePieces test all 0 0 (found ++ others)
past_function test all left rest f number start found e goes others are = goes others (subst (λ xs. ArePieces test xs number start others) (sym e) (of_function are))

-- Those of a global go behind what is found.
pub past_global : (test : ℕ → Bool) (all left rest : List Item) (g : GlobalDef) (number start next after : ℕ) (found own new : List Piece) → left ≡ items.Global g ∷ rest
    → next ≡ number + 1 → after ≡ start + cells_of g.cells → ArePiecesTo (grid_of g start) number test (start + cells_of g.cells) own → new ≡ found ++ own
    → ((others : List Piece) → ArePieces test left number start others → ArePieces test all 0 0 (found ++ others))
    → (others : List Piece) → ArePieces test rest next after others → ArePieces test all 0 0 (new ++ others)
past_global test all left rest g number start next after found own new e is_next is_after own_are is_new goes others are =
    let them : ArePieces test left number start (own ++ others) = subst (λ xs. ArePieces test xs number start (own ++ others)) (sym e)
    (of_global own_are (subst (λ n. ArePieces test rest n (start + cells_of g.cells) others) is_next (subst (λ n. ArePieces test rest next n others) is_after are))) in
    subst (λ xs. ArePieces test all 0 0 xs) (sym (append_assoc found own others) ∙ ap (λ xs. xs ++ others) (sym is_new)) (goes (own ++ others) them)
