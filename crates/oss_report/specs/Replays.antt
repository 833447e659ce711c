-- The lines that tell why a schedule was not replayed to its end.
-- Read against: a schedule whose third line is wrong is told of as `schedule refused at line 3`; one whose second move may not be made at its turn as `move 2 is not
-- enabled`; and one behind which three tasks are not complete as `3 tasks unfinished`.
use Rattle.std.specs.Prelude.{ℕ, List, [], ◌∷◌, ◌++◌, codes}
use Rattle.std.specs.Fmt.{decimal}

-- `schedule refused at line N` and a newline
abbrev pub schedule_line : ℕ → List ℕ
schedule_line line = codes "schedule refused at line " ++ decimal line ++ 10 ∷ []

-- `move N is not enabled` and a newline
abbrev pub not_enabled_line : ℕ → List ℕ
not_enabled_line number = codes "move " ++ decimal number ++ codes " is not enabled" ++ 10 ∷ []

-- `N tasks unfinished` and a newline
abbrev pub unfinished_line : ℕ → List ℕ
unfinished_line count = decimal count ++ codes " tasks unfinished" ++ 10 ∷ []
