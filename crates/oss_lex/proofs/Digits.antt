-- The value of digits only grows with more of them.
use Rattle.std.proofs.Common.{◌≡◌, ℕ, ◌+◌, ◌*◌, ◌^◌, ◌<◌, ◌≤◌, List, [], ◌∷◌, ◌++◌, length, take, drop, get_or, arith, ap}
use Rattle.std.proofs.lemmas.List.{take-append-drop}
use Rattle.std.proofs.lemmas.List.Sums.{fold-append, fold_more}
use Rattle.std.proofs.Math.Nat.{mul-le-mul_left}
use Rattle.std.specs.List.{fold}
use Rattle.oss_grammar.specs.Words.{digit_of, value_in}

pub value_from-grows : (base : ℕ) → 0 < base → (a : ℕ) (ds : List ℕ) → a ≤ fold (λ value b. value * base + digit_of b) a ds
value_from-grows base some a [] = omega arith
value_from-grows base some a (d ∷ ds) =
    let more : a * base + digit_of d ≤ fold (λ value b. value * base + digit_of b) (a * base + digit_of d) ds = value_from-grows base some (a * base + digit_of d) ds in
    let up : a * 1 ≤ a * base = mul-le-mul_left a some in
    omega arith

-- a value that is too large stays so
pub value_in_over : (base : ℕ) → 0 < base → (ds : List ℕ) (i : ℕ) → i < length ds → 2 ^ 64 ≤ value_in base (take i ds) * base + digit_of (get_or ds i 0) → ¬ (value_in base ds < 2 ^ 64)
value_in_over base some ds i within over below =
    let f : ℕ → ℕ → ℕ = λ value b. value * base + digit_of b in
    let step : fold f 0 (take (i + 1) ds) ≡ fold f 0 (take i ds) * base + digit_of (get_or ds i 0) = fold_more f 0 ds i 0 within in
    let whole : fold f 0 (take (i + 1) ds ++ drop (i + 1) ds) ≡ fold f (fold f 0 (take (i + 1) ds)) (drop (i + 1) ds) = fold-append f 0 (take (i + 1) ds) (drop (i + 1) ds) in
    let same : fold f 0 (take (i + 1) ds ++ drop (i + 1) ds) ≡ fold f 0 ds = ap (fold f 0) (take-append-drop (i + 1) ds) in
    let up : fold f 0 (take (i + 1) ds) ≤ fold f (fold f 0 (take (i + 1) ds)) (drop (i + 1) ds) = value_from-grows base some (fold f 0 (take (i + 1) ds)) (drop (i + 1) ds) in
    omega (arith, step, whole, same, up, over, below)
