-- Texts that grow, call by call.
use Rattle.std.proofs.Common.{◌≡◌, ◌∙◌, ap, ℕ, ◌≤◌, List, ◌++◌, length, drop, append_assoc, Result, Ok, Err, OnOk}
use Rattle.std.proofs.Math.ListN.{drop_of_length-le}
use Rattle.std.proofs.lemmas.List.{append-nil, take_all}
use Rattle.oss_syntax.specs.declared.tree.program.Item.{Item}
use Rattle.oss_pieces.specs.declared.piece.Piece.{Piece}
use Rattle.oss_pieces.specs.Names.{cells_in_pieces, joined_pieces, left_out, pieces_text}

-- what follows from what holds of an Ok holds of it
pub on_ok : {T E : Type 0} {A B : Type 0} (r : Result T E) → (A → B) → OnOk r A → OnOk r B
on_ok (Ok v) f a = f a
on_ok (Err e) f a = a

-- one part behind another
pub then : (t0 t1 t2 a b : List ℕ) → t1 ≡ t0 ++ a → t2 ≡ t1 ++ b → t2 ≡ t0 ++ (a ++ b)
then t0 t1 t2 a b p q = q ∙ ap (λ (t : List ℕ). t ++ b) p ∙ append_assoc t0 a b

-- eight pieces at most are told, and no cells are left out
pub few : (all : List Item) (ps : List Piece) → length ps ≤ 8 → pieces_text all 8 ps ≡ joined_pieces all ps
few all ps short =
    ap (λ (xs : List Piece). joined_pieces all xs ++ left_out (cells_in_pieces (drop 8 ps))) (take_all 8 ps short)
    ∙ ap (λ (xs : List Piece). joined_pieces all ps ++ left_out (cells_in_pieces xs)) (drop_of_length-le ps short)
    ∙ append-nil (joined_pieces all ps)
