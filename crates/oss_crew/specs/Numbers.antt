-- Numbers below a limit.
-- Read against: 0 3 2 are all below 4, and not all below 3.
use Rattle.std.specs.Prelude.{◌<◌, ℕ, List, [], ◌∷◌, ⊤, length, slice_index}

-- Each number of a list is below the limit, from the first on: so it stands in the rule of a queue.
abbrev pub EachBelow : ℕ → List ℕ → Type 0
EachBelow limit [] = ⊤
EachBelow limit (number ∷ more) = (number < limit) × EachBelow limit more

-- The same, said of each place of the list: so a caller gives and gets it.
abbrev pub AllBelow : ℕ → List ℕ → Type 0
AllBelow limit numbers = (place : ℕ) → place < length numbers → slice_index numbers place < limit
