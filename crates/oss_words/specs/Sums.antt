-- Sums over a list, and over the numbers below a bound.
-- Read against: the total of doubling over 1, 2, 3 is 12; doubling below 4 is 0 + 2 + 4 + 6, which is 12 too; of true the number is 1.
use Rattle.std.specs.Prelude.{◌+◌, ℕ, zero, suc, Bool, true, false, List, [], ◌∷◌}

-- The sum of h over a list.
abbrev pub total : {A : Type 0} → (A → ℕ) → List A → ℕ
total h [] = 0
total h (x ∷ xs) = h x + total h xs

-- The sum of f over the numbers below n.
abbrev pub below : (ℕ → ℕ) → ℕ → ℕ
below f zero = 0
below f (suc n) = f n + below f n

-- 1 for true, 0 for false.
abbrev pub num : Bool → ℕ
num true = 1
num false = 0
