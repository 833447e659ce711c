-- A piece is written by the number of its global.
use Rattle.std.proofs.Common.{◌≡◌, ℕ, zero, suc, ◌-◌, ◌==◌, false, if◌then◌else◌, List, [], ◌∷◌, Option, Some, None, refl, ◌∙◌, ap, arith}
use Rattle.std.specs.Prelude.{slice_get}
use Rattle.std.proofs.lemmas.Bool.Decides.{nat_tests}
use Rattle.oss_syntax.specs.declared.tree.program.GlobalDef.{GlobalDef}
use Rattle.oss_syntax.specs.declared.tree.program.Item.{Item}
use Rattle.oss_syntax.specs.declared.tree.program.Item.TheVariants as items
use Rattle.oss_pieces.specs.declared.piece.Piece.{Piece}
use Rattle.oss_pieces.specs.Names.{piece_from, piece_of_global}
use Rattle.oss_pieces.specs.Numbered.{globals_of}

-- a piece of this global, or nothing
abbrev pub piece_if : Option GlobalDef → Piece → List ℕ
piece_if None p = []
piece_if (Some g) p = piece_of_global g p

not_first : (n : ℕ) → (suc n == 0) ≡ false
not_first n = grind (arith, nat_tests)

less_by_one : (n : ℕ) → suc n - 1 ≡ n
less_by_one n = omega arith

-- what stands behind the first global is one of the others
behind : (rest : List Item) (n : ℕ) (p : Piece) (here : List ℕ) → (if suc n == 0 then here else piece_from rest (suc n - 1) p) ≡ piece_from rest n p
behind rest n p here = ap (λ b. if b then here else piece_from rest (suc n - 1) p) (not_first n) ∙ ap (λ k. piece_from rest k p) (less_by_one n)

pub by_number : (all : List Item) (n : ℕ) (p : Piece) → piece_from all n p ≡ piece_if (slice_get (globals_of all) n) p
by_number [] zero p = refl
by_number [] (suc n) p = refl
by_number (items.Function f ∷ rest) n p = by_number rest n p
by_number (items.Global g ∷ rest) zero p = refl
by_number (items.Global g ∷ rest) (suc n) p = behind rest n p (piece_of_global g p) ∙ by_number rest n p
