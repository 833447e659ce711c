-- Expressions, one list of them behind the other.
use Rattle.std.proofs.Common.{◌≡◌, ℕ, ◌+◌, List, [], ◌∷◌, ◌++◌, length, map, refl, sym, ap, ◌∙◌, append_assoc, arith}
use Rattle.oss_lower_laws.specs.ExpressionCode.{ExprCode, arguments_code}

pub arguments-behind : (es fs : List ExprCode) (line depth : ℕ) → arguments_code (es ++ fs) line depth ≡ arguments_code es line depth ++ arguments_code fs line (depth + length es)
arguments-behind [] fs line depth = ap (arguments_code fs line) (omega arith)
arguments-behind (e ∷ es) fs line depth =
    ap (λ xs. e.value line depth ++ xs) (arguments-behind es fs line (depth + 1))
    ∙ ap (λ d. e.value line depth ++ (arguments_code es line (depth + 1) ++ arguments_code fs line d)) (omega arith)
    ∙ sym (append_assoc (e.value line depth) (arguments_code es line (depth + 1)) (arguments_code fs line (depth + length (e ∷ es))))

pub map-behind : {A B : Type 0} (f : A → B) (xs ys : List A) → map f (xs ++ ys) ≡ map f xs ++ map f ys
map-behind f [] ys = refl
map-behind f (x ∷ xs) ys = ap (λ zs. f x ∷ zs) (map-behind f xs ys)

pub map-length : {A B : Type 0} (f : A → B) (xs : List A) → length (map f xs) ≡ length xs
map-length f [] = refl
map-length f (x ∷ xs) = omega (arith, map-length f xs)

pub ruleset operands = (arguments-behind, map-behind, map-length)
