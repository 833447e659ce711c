-- Which lines are told, and of how many later tasks they are told too.
-- Read against: of four tasks the first and the last two have the line `in(x)`, and the second has `out(x)` alone. At the first, task 0, `in(x)` is told, and two later tasks have it; at task 2 and task 3 it is not told, since task 0 has it. At task 1
-- `out(x)` is told, and no later task has it. A task that has a line twice is one task.
use Rattle.std.specs.Prelude.{ℕ, ◌+◌, Bool, if◌then◌else◌, List, take, drop, Option, Some, None, count_by}
use Rattle.std.specs.List.{list_any}
use Rattle.std.specs.Str.{bytes_eq}

-- a line is among these
abbrev pub has_line : List ℕ → List (List ℕ) → Bool
has_line line lines = list_any (λ other. bytes_eq other line) lines

-- Of the lines of all tasks: how many tasks behind that with this number have the line, where no task before it has.
abbrev pub later_alike : List (List (List ℕ)) → ℕ → List ℕ → Option ℕ
later_alike told place line = if list_any (has_line line) (take place told) then None else Some (count_by (has_line line) (drop (place + 1) told))
