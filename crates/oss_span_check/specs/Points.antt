-- Points of tasks, one beside another: which stands below which, and where two part.
-- Read against: 0.1.4 stands below 0.1; 0.1.4 and 0.2 part behind the first number, where the first has the smaller one.
use Rattle.std.specs.Prelude.{ℕ, suc, Bool, ◌&&◌, nat_eq, nat_lt, if◌then◌else◌, List, ◌∷◌, length, take, Option, Some, None}
use Rattle.std.specs.Cmp.Lexicographic.{pointwise}

-- The points are one.
abbrev pub same_point : List ℕ → List ℕ → Bool
same_point p q = pointwise nat_eq p q

-- The second stands below the first.
abbrev pub below : List ℕ → List ℕ → Bool
below p q = nat_lt (length p) (length q) && same_point p (take (length p) q)

-- Where they part, if the second has the smaller number there; so many numbers stand before both.
abbrev pub parted : ℕ → List ℕ → List ℕ → Option ℕ
parted n (x ∷ xs) (y ∷ ys) = if nat_eq x y then parted (suc n) xs ys else (if nat_lt y x then Some n else None)
parted n _ _ = None
