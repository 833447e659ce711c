-- Schedules as texts: the moves that tasks are to make one after the other, one a line.
-- Read against the lines `# wave 2`, `step 0.0 5`, `let 0.0 0 4`, an empty one and `join 0.1 2 1`, which are three moves:
-- five acts of the task 0.0, the cells 0 to 3 given up by it, the slot of the task 0.1 joined to cell 2. Wrong lines are
-- `step 0 0`, `step 00 1`, `step 0 +1`, `step  0 1` with two blanks, `step 0 1 ` with one at its end, ` # wave 2` with one
-- in front, `step 0.65536 1`, `step 1 1`, `let 0.0 1048576 1`, `let 0.0 0 1048577`, and `step 0 18446744073709551616`.
use Rattle.std.specs.Prelude.{◌≡◌, ◌≤◌, ◌+◌, ℕ, ◌==◌, ◌⊎◌, if◌then◌else◌, List, [], ◌∷◌, ◌++◌, Result, Ok, Err, codes}
use Rattle.std.specs.Fmt.{decimal}
use Rattle.oss_model.specs.Points.{IsTaskPoint, text_of}
use Rattle.oss_sched.specs.declared.moves.TextMove.{TextMove}
use Rattle.oss_sched.specs.declared.moves.TextMove.TheVariants.{Step, Let, Join}
use Rattle.oss_sched.specs.declared.refused.ScheduleRefused.{ScheduleRefused}
use Rattle.oss_sched.specs.declared.refused.ScheduleRefused.TheVariants.{Line, Memory}

-- A run of cells that a move may name: at least one and at most 1,048,576, from a cell below 1,048,576 on.
abbrev pub IsCellRun : ℕ → ℕ → Type 0
IsCellRun first count = (first ≤ 1048575) × (1 ≤ count) × (count ≤ 1048576)

-- A move within its limits: that of a task, at least one act and at most 2^64 - 1, or such a run of cells.
abbrev pub IsWithinLimits : TextMove → Type 0
IsWithinLimits (Step point count) = IsTaskPoint point × (1 ≤ count) × (count ≤ 18446744073709551615)
IsWithinLimits (Let point first count) = IsTaskPoint point × IsCellRun first count
IsWithinLimits (Join point first count) = IsTaskPoint point × IsCellRun first count

-- The words for cells of a task: `0.1 2 1` for the task 0.1 and one cell from cell 2 on. Each number is written in
-- decimal, without sign and leading zeros, and one blank stands between two words.
abbrev pub cells_text : List ℕ → ℕ → ℕ → List ℕ
cells_text point first count = text_of point ++ (32 ∷ decimal first ++ 32 ∷ decimal count)

-- A move in its exact form: `step 0.0 5`, `let 0.0 0 4`, `join 0.1 2 1`.
abbrev pub move_text : TextMove → List ℕ
move_text (Step point count) = codes "step " ++ text_of point ++ 32 ∷ decimal count
move_text (Let point first count) = codes "let " ++ cells_text point first count
move_text (Join point first count) = codes "join " ++ cells_text point first count

-- The line is this move: `step 0 5` is five acts of main.
pub record IsMoveLine (line : List ℕ) (what : TextMove) : Type 0 where
  pub limits : IsWithinLimits what
  pub text : line ≡ move_text what

-- The line asks for nothing: it is empty, or begins with `#`.
abbrev pub IsRemark : List ℕ → Type 0
IsRemark [] = Unit {0}
IsRemark (b ∷ more) = b ≡ 35

-- The line may stand in a schedule: it asks for nothing, or is a move.
abbrev pub IsRightLine : List ℕ → Type 0
IsRightLine line = IsRemark line ⊎ ((what : TextMove) × IsMoveLine line what)

-- The line may not: `step 00 1`.
abbrev pub IsWrongLine : List ℕ → Type 0
IsWrongLine line = IsRightLine line → ⊥

-- One more byte in front of the first line, or as the one line: `a` before `b`, `c` gives `ab`, `c`.
abbrev pub with_byte : ℕ → List (List ℕ) → List (List ℕ)
with_byte b [] = (b ∷ []) ∷ []
with_byte b (line ∷ more) = (b ∷ line) ∷ more

-- The lines of a text: what stands before each newline, and what stands behind the last newline, if anything does. The text
-- `a`, newline, newline, `b` has the lines `a`, the empty one and `b`, with a newline behind `b` or without.
abbrev pub lines_of : List ℕ → List (List ℕ)
lines_of [] = []
lines_of (b ∷ rest) = if b == 10 then [] ∷ lines_of rest else with_byte b (lines_of rest)

-- The lines are a schedule of these moves, in their order.
pub data IsSchedule : List (List ℕ) → List TextMove → Type 0 where
  over : IsSchedule [] []
  remark : {line : List ℕ} {lines : List (List ℕ)} {moves : List TextMove} → IsRemark line → IsSchedule lines moves → IsSchedule (line ∷ lines) moves
  asked : {line : List ℕ} {lines : List (List ℕ)} {what : TextMove} {moves : List TextMove} → IsMoveLine line what → IsSchedule lines moves → IsSchedule (line ∷ lines) (what ∷ moves)

-- The text is a schedule of these moves.
abbrev pub IsScheduleText : List ℕ → List TextMove → Type 0
IsScheduleText text moves = IsSchedule (lines_of text) moves

-- Of lines that are counted from this number on, the first wrong one has that number.
pub data IsFirstWrong : ℕ → List (List ℕ) → ℕ → Type 0 where
  here : {number : ℕ} {line : List ℕ} {lines : List (List ℕ)} → IsWrongLine line → IsFirstWrong number (line ∷ lines) number
  later : {number at : ℕ} {line : List ℕ} {lines : List (List ℕ)} → IsRightLine line → IsFirstWrong (number + 1) lines at → IsFirstWrong number (line ∷ lines) at

-- Why a text is refused: for its first wrong line, counted from 1. Want of memory says nothing of it.
abbrev pub IsRefusal : List ℕ → ScheduleRefused → Type 0
IsRefusal text (Line number) = IsFirstWrong 1 (lines_of text) number
IsRefusal text (Memory error) = Unit {0}

-- What reading a text answers: its moves, or why it is refused.
abbrev pub IsReading : List ℕ → Result (List TextMove) ScheduleRefused → Type 0
IsReading text (Ok moves) = IsScheduleText text moves
IsReading text (Err refused) = IsRefusal text refused

-- A text has at most one list of moves, none where a line is wrong, and one first wrong line at most; as a line it is at most
-- one move, and none where it asks for nothing.
pub record IsReadOnce (text : List ℕ) : Type 0 where
  pub one_list : (moves others : List TextMove) → IsScheduleText text moves → IsScheduleText text others → moves ≡ others
  pub no_both : (moves : List TextMove) (number : ℕ) → IsScheduleText text moves → IsFirstWrong 1 (lines_of text) number → ⊥
  pub one_line : (number other : ℕ) → IsFirstWrong 1 (lines_of text) number → IsFirstWrong 1 (lines_of text) other → number ≡ other
  pub one_move : (what other : TextMove) → IsMoveLine text what → IsMoveLine text other → what ≡ other
  pub no_remark : (what : TextMove) → IsRemark text → IsMoveLine text what → ⊥
