-- The text of an audit: a line for each run of unused cells, with its point, its first cell and how many there are, and last a line with how many cells all lines tell of.
-- Read against: of the runs 0.0 with the cells from 1 up to 5, and 0.0 from 6 up to 10, it is `unused 0.0 1 4`, `unused 0.0 6 4`, `# unused 8`, each with a newline; of none it is `# unused 0`.
use Rattle.std.specs.Prelude.{ℕ, ◌+◌, ◌-◌, ◌^◌, min, List, [], ◌∷◌, ◌++◌, codes}
use Rattle.std.specs.Fmt.{decimal}
use Rattle.std.specs.List.{flat_map}
use Rattle.oss_model.specs.Points.{text_of}
use Rattle.oss_audit.specs.declared.unused.Unused.{Unused}

-- How many cells a run has.
abbrev pub cells_in : Unused → ℕ
cells_in u = u.range.hi - u.range.lo

-- How many cells runs have, with so many before them; the count stays at its greatest value.
abbrev pub cells_from : ℕ → List Unused → ℕ
cells_from n [] = n
cells_from n (u ∷ us) = cells_from (min (n + cells_in u) (2 ^ 64 - 1)) us

-- The line of a run: `unused 0.0 1 4`.
abbrev pub unused_line : Unused → List ℕ
unused_line u = codes "unused " ++ text_of u.point ++ (32 ∷ decimal u.range.lo ++ 32 ∷ decimal (cells_in u) ++ 10 ∷ [])

-- The last line: `# unused 8`.
abbrev pub count_line : ℕ → List ℕ
count_line n = codes "# unused " ++ decimal n ++ 10 ∷ []

-- The text of an audit that tells of these runs.
abbrev pub audit_text : List Unused → List ℕ
audit_text us = flat_map unused_line us ++ count_line (cells_from 0 us)
