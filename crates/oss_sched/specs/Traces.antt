-- Traces: the text that tells which moves a run by waves made.
-- Read against a run of three tasks, in which main steps alone, then the task 0.0 does five acts and gives up the cells 0
-- and 1, and so on: its trace begins with the lines `# wave 1`, `step 0 5`, `# wave 2`, `step 0.0 5`, `let 0.0 0 2`, and its
-- last line is `# tasks 3 waves 4 widest 1`. A run of main alone that ends in one wave has `# wave 1`, `step 0 1`,
-- `# tasks 1 waves 1 widest 1`.
use Rattle.std.specs.Prelude.{ℕ, ◌+◌, List, [], ◌∷◌, ◌++◌, length, codes}
use Rattle.std.specs.Fmt.{decimal}
use Rattle.std.specs.List.{AllByRecursion, flat_map}
use Rattle.oss_sched.specs.declared.moves.TextMove.{TextMove}
use Rattle.oss_sched.specs.declared.moves.WaveRecord.{WaveRecord}
use Rattle.oss_sched.specs.Schedules.{IsScheduleText, IsWithinLimits, move_text}

-- The line of a move, with its newline.
abbrev pub move_line : TextMove → List ℕ
move_line what = move_text what ++ 10 ∷ []

-- The lines of a wave with this number: `# wave 2`, and then its moves.
abbrev pub wave_text : ℕ → List TextMove → List ℕ
wave_text number moves = codes "# wave " ++ decimal number ++ 10 ∷ flat_map move_line moves

-- The lines of waves that are counted from this number on.
abbrev pub waves_text : ℕ → List (List TextMove) → List ℕ
waves_text number [] = []
waves_text number (wave ∷ more) = wave_text number wave ++ waves_text (number + 1) more

-- The last line: `# tasks 3 waves 4 widest 1`.
abbrev pub counts_text : ℕ → ℕ → ℕ → List ℕ
counts_text tasks waves widest = codes "# tasks " ++ decimal tasks ++ codes " waves " ++ decimal waves ++ codes " widest " ++ decimal widest ++ 10 ∷ []

-- The text of what a run by waves did.
abbrev pub trace_text : WaveRecord → List ℕ
trace_text ran = waves_text 1 ran.waves ++ counts_text ran.tasks (length ran.waves) ran.widest

-- The moves of all waves, in their order.
abbrev pub moves_of : WaveRecord → List TextMove
moves_of ran = flat_map (λ wave. wave) ran.waves

-- A trace is a schedule of the moves that were made, where these are within their limits.
abbrev pub IsTraceRead : WaveRecord → Type 0
IsTraceRead ran = AllByRecursion (AllByRecursion IsWithinLimits) ran.waves → IsScheduleText (trace_text ran) (moves_of ran)
