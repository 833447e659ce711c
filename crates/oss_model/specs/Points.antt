-- Points as a program holds them and as they are written: the numbers from main's 0 down, joined by dots.
-- Read against: main's point is `0`, that of its third child `0.2`. `00`, `0.`, `.0`, `0..1`, `0.01`, `0.+1`, `0. 1`, `1` and
-- `0.65536` are no points, and neither is the empty text.
use Rattle.std.specs.Prelude.{◌≡◌, ◌≤◌, ◌<◌, ◌+◌, ◌-◌, ◌*◌, ◌==◌, ◌&&◌, ℕ, Bool, false, nat_le, nat_lt, if◌then◌else◌, List, [], ◌∷◌, ◌++◌, length, Option, Some, None, option_and_then, slice_get}
use Rattle.std.specs.Fmt.{decimal}
use Rattle.std.specs.List.{AllByRecursion, flat_map}

-- A number behind another one: 2 as `.2`.
abbrev pub with_dot : ℕ → List ℕ
with_dot n = 46 ∷ decimal n

-- The text of a list of numbers: 0, 2 and 7 as `0.2.7`.
abbrev pub text_of : List ℕ → List ℕ
text_of [] = []
text_of (n ∷ more) = decimal n ++ flat_map with_dot more

-- A number of 16 bits: 65535, and not 65536.
abbrev pub IsSmall : ℕ → Type 0
IsSmall n = n < 65536

-- The numbers are a point of a task, or of an act of one: they begin with main's 0, and each has 16 bits. A task has at most
-- 64 tasks above it, so its point has at most 65 numbers, and that of an act one more. 0, 2 is a point, and 2 is none.
pub record IsPoint (p : List ℕ) : Type 0 where
  pub main : slice_get p 0 ≡ Some 0
  pub short : length p ≤ 66
  pub small : AllByRecursion IsSmall p

-- The numbers are a point of a task: 0, 2 is one; 0 with 65 numbers behind it is none.
abbrev pub IsTaskPoint : List ℕ → Type 0
IsTaskPoint p = IsPoint p × (length p ≤ 65)

-- The text is that of a point of a task: `0.2` is that of 0, 2.
abbrev pub IsPointText : List ℕ → List ℕ → Type 0
IsPointText text p = IsTaskPoint p × (text ≡ text_of p)

-- A digit of base 10: `7`, and not `a`.
abbrev pub is_digit : ℕ → Bool
is_digit b = nat_le 48 b && nat_le b 57

-- A number of 16 bits with one more digit behind it, if it is one: 12 with `3` is 123. There is none behind 0, and none that
-- makes it too large.
abbrev pub with_digit : ℕ → ℕ → Option ℕ
with_digit n digit = if n == 0 then None else (if nat_lt (n * 10 + digit) 65536 then Some (n * 10 + digit) else None)

-- The number of the bytes since the last dot, with one more byte: none and `7` are 7, 7 and `0` are 70, and 0 and `7` are none.
abbrev pub continued : Option ℕ → ℕ → Option ℕ
continued None b = if is_digit b then Some (b - 48) else None
continued (Some n) b = if is_digit b then with_digit n (b - 48) else None

-- A number in front of others, if both are there: 0 and 2, 7 are 0, 2, 7.
abbrev pub in_front : Option ℕ → Option (List ℕ) → Option (List ℕ)
in_front None more = None
in_front (Some n) None = None
in_front (Some n) (Some more) = Some (n ∷ more)

-- The numbers of a text, the first of which has begun with this number, if any: with none `0.27` are 0 and 27, with 3 `2.7`
-- are 32 and 7, and `.7` are none.
abbrev pub numbers_from : Option ℕ → List ℕ → Option (List ℕ)
numbers_from number [] = in_front number (Some [])
numbers_from number (b ∷ rest) = if b == 46 then in_front number (numbers_from None rest) else option_and_then (λ n. numbers_from (Some n) rest) (continued number b)

-- The numbers begin with main's 0: 0, 2 do, and 2, 0 do not.
abbrev pub begins_at_main : List ℕ → Bool
begins_at_main [] = false
begins_at_main (n ∷ more) = n == 0

-- The numbers, if they are those of a point of a task: 0, 2 are, and 1 is none.
abbrev pub kept_point : Option (List ℕ) → Option (List ℕ)
kept_point None = None
kept_point (Some p) = if begins_at_main p && nat_le (length p) 65 then Some p else None
