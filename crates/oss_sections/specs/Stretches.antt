-- Stretches of the code, as those of the definitions, and a stretch in its dimension.
-- Read against: the stretch from 1 on of 2 elements is inside of a dimension of 4, and begins there at 1 with 2 elements; it is not inside
-- of one of 2.
use Rattle.std.specs.Prelude.{◌≡◌, ◌≤◌, ◌+◌, ℕ, false, Option, Some, None, pos}
use Rattle.oss_grammar.specs.SectionCells.{Stretch as MeantStretch, is_inside}
use Rattle.oss_sections.specs.declared.stretch.Inside.{Inside}
use Rattle.oss_sections.specs.declared.stretch.Stretch.{Stretch}

-- the stretch of the definitions
abbrev pub meant_stretch : Stretch → MeantStretch
meant_stretch s = record { from = s.from; size = s.size }

-- the stretch in a dimension of so many elements, if each of its elements is one of these
abbrev pub IsWithin : ℕ → MeantStretch → Option Inside → Type 0
IsWithin count s None = is_inside count s ≡ false
IsWithin count s (Some i) = (s.from ≡ pos i.first) × (s.size ≡ pos i.size) × (i.first + i.size ≤ count)
