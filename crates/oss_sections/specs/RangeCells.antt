-- The cells of a list of ranges, and how neighbouring ranges lie.
-- Read against: the cells of 1..3 and 5..7 are 1, 2, 5 and 6. The ranges 1..3 and 4..5 are apart, 1..3 and 3..5 are not; 5..7 and 1..3 are
-- joined, though they do not rise, and 1..3 and 3..5 are not.
use Rattle.std.specs.Prelude.{ℕ, ◌-◌, ◌<◌, ◌≢◌, List, [], ◌∷◌, ◌++◌}
use Rattle.std.specs.List.{range_with_len}
use Rattle.oss_syntax.specs.declared.access.Range.{Range}

-- the cells of ranges, one after the other: those of 1..3 and 5..7 are 1, 2, 5 and 6
abbrev pub cells_of : List Range → List ℕ
cells_of [] = []
cells_of (r ∷ rest) = range_with_len r.lo (r.hi - r.lo) ++ cells_of rest

-- a range lies so to the first of those behind it, if there is one
abbrev pub IsFollowed : (Range → Range → Type 0) → Range → List Range → Type 0
IsFollowed R r [] = Unit {0}
IsFollowed R r (next ∷ rest) = R r next

-- each range lies so to the next one: 1..3, 4..5 and 7..8 each end before the next begins
abbrev pub EachNext : (Range → Range → Type 0) → List Range → Type 0
EachNext R [] = Unit {0}
EachNext R (r ∷ rest) = IsFollowed R r rest × EachNext R rest

-- the ranges rise, and there are cells between any two: 1..3 and 4..5
abbrev pub AreApart : List Range → Type 0
AreApart = EachNext (λ r next. r.hi < next.lo)

-- no range begins where the one before it ends, so none of them could be longer: 5..7 and 1..3
abbrev pub AreJoined : List Range → Type 0
AreJoined = EachNext (λ r next. r.hi ≢ next.lo)

-- a fact of the last range, if there is one: of 1..3 and 5..7, that it ends at 7
abbrev pub LastIs : (Range → Type 0) → List Range → Type 0
LastIs P [] = Unit {0}
LastIs P (r ∷ []) = P r
LastIs P (r ∷ next ∷ rest) = LastIs P (next ∷ rest)
