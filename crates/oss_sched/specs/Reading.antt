-- What the reader's functions answer, as functions on lists. That these are the answers of `Schedules` is proved of them once,
-- in proofs/. Read against: `step 0.2 7` is cut at its first blank into `step` and `0.2 7`, and is the step of seven acts of the
-- task 0.2; of `step 0.2 07` there is no move, since `07` is no number.
use Rattle.std.specs.Prelude.{◌≡◌, ℕ, ◌+◌, ◌-◌, ◌*◌, ◌^◌, Bool, true, not, ◌==◌, ◌&&◌, nat_le, nat_lt, if◌then◌else◌, List, [], ◌∷◌, ◌++◌, take, drop, codes, Option, Some, None, option_and_then}
use Rattle.std.specs.List.{prefix_len}
use Rattle.std.specs.Str.{bytes_eq}
use Rattle.oss_model.specs.Points.{is_digit, kept_point, numbers_from}
use Rattle.oss_sched.specs.declared.moves.TextMove.{TextMove}
use Rattle.oss_sched.specs.declared.moves.TextMove.TheVariants.{Step, Let, Join}
use Rattle.oss_sched.specs.declared.refused.ScheduleRefused.{ScheduleRefused}
use Rattle.oss_sched.specs.declared.refused.ScheduleRefused.TheVariants.{Line, Memory}
use Rattle.oss_sched.specs.declared.told.Told.{Told}
use Rattle.oss_sched.specs.declared.told.Told.TheVariants.{Nothing, Move, Wrong}
use Rattle.oss_sched.specs.declared.told.CellVerb.{CellVerb}
use Rattle.oss_sched.specs.declared.told.CellVerb.TheVariants as verb

-- a byte that does not end what ends at this one
abbrev pub goes_on : ℕ → ℕ → Bool
goes_on stop b = not (b == stop)

-- a word, and what stands behind the blank that this begins with
abbrev pub cut_parts : List ℕ → List ℕ → Option (List ℕ × List ℕ)
cut_parts word [] = None
cut_parts word (b ∷ rest) = Some (word, rest)

-- the word before the first blank, and what stands behind that blank
unfoldable pub cut_at : List ℕ → Option (List ℕ × List ℕ)
cut_at text = cut_parts (take (prefix_len (goes_on 32) text) text) (drop (prefix_len (goes_on 32) text) text)

-- a number of 64 bits with one more digit behind it
abbrev pub with_digit : ℕ → ℕ → Option ℕ
with_digit n digit = if n == 0 then None else (if nat_lt (n * 10 + digit) (2 ^ 64) then Some (n * 10 + digit) else None)

-- the number of the digits so far, with one more byte
abbrev pub number_with : Option ℕ → ℕ → Option ℕ
number_with None b = if is_digit b then Some (b - 48) else None
number_with (Some n) b = if is_digit b then with_digit n (b - 48) else None

-- the number of a word of which these digits are read
abbrev pub number_from : Option ℕ → List ℕ → Option ℕ
number_from number [] = number
number_from number (b ∷ rest) = option_and_then (λ n. number_from (Some n) rest) (number_with number b)

-- a number that is between these two, or one of them
abbrev pub kept_within : ℕ → ℕ → Option ℕ → Option ℕ
kept_within least most None = None
kept_within least most (Some n) = if nat_le least n && nat_le n most then Some n else None

-- the number between these two that a word is
unfoldable pub number_in : ℕ → ℕ → List ℕ → Option ℕ
number_in least most word = kept_within least most (number_from None word)

-- the point of a task that a word is
abbrev pub point_in : List ℕ → Option (List ℕ)
point_in word = kept_point (numbers_from None word)

-- two numbers as one run of cells
abbrev pub run_made : Option ℕ → Option ℕ → Option (ℕ × ℕ)
run_made None count = None
run_made (Some first) None = None
run_made (Some first) (Some count) = Some (first, count)

-- the first cell and the number of cells that the two words of a cut text are
abbrev pub run_cut : Option (List ℕ × List ℕ) → Option (ℕ × ℕ)
run_cut None = None
run_cut (Some parts) = run_made (number_in 0 1048575 parts.0) (number_in 1 1048576 parts.1)

-- the first cell and the number of cells that a text is
unfoldable pub run_in : List ℕ → Option (ℕ × ℕ)
run_in text = run_cut (cut_at text)

-- the move of a verb on cells
abbrev pub cells_move : CellVerb → List ℕ → ℕ → ℕ → TextMove
cells_move verb.Let point first count = Let point first count
cells_move verb.Join point first count = Join point first count

-- the same from a point and a run of cells, if both are there
abbrev pub cells_made : CellVerb → Option (List ℕ) → Option (ℕ × ℕ) → Option TextMove
cells_made name None run = None
cells_made name (Some point) None = None
cells_made name (Some point) (Some run) = Some (cells_move name point run.0 run.1)

-- the same from a text that is cut into its point and its run
abbrev pub cells_cut : CellVerb → Option (List ℕ × List ℕ) → Option TextMove
cells_cut name None = None
cells_cut name (Some parts) = cells_made name (point_in parts.0) (run_in parts.1)

-- the move on cells that the words behind its verb are
unfoldable pub cells_in : CellVerb → List ℕ → Option TextMove
cells_in name text = cells_cut name (cut_at text)

-- the acts of a task from its point and their number, if both are there
abbrev pub step_made : Option (List ℕ) → Option ℕ → Option TextMove
step_made None count = None
step_made (Some point) None = None
step_made (Some point) (Some count) = Some (Step point count)

-- the same from a text that is cut into its point and its number
abbrev pub step_cut : Option (List ℕ × List ℕ) → Option TextMove
step_cut None = None
step_cut (Some parts) = step_made (point_in parts.0) (number_in 1 18446744073709551615 parts.1)

-- the acts of a task that the words behind `step` are
unfoldable pub step_in : List ℕ → Option TextMove
step_in text = step_cut (cut_at text)

-- the move with this verb that the words behind it are
unfoldable pub named_move : List ℕ → List ℕ → Option TextMove
named_move word rest =
    if bytes_eq word (codes "step") then step_in rest
    else (if bytes_eq word (codes "let") then cells_in verb.Let rest
    else (if bytes_eq word (codes "join") then cells_in verb.Join rest else None))

-- the move that a line is which is cut into its verb and what stands behind
abbrev pub move_cut : Option (List ℕ × List ℕ) → Option TextMove
move_cut None = None
move_cut (Some parts) = named_move parts.0 parts.1

-- the move that a line is
unfoldable pub move_in : List ℕ → Option TextMove
move_in line = move_cut (cut_at line)

-- a line is empty or a comment
abbrev pub is_remark : List ℕ → Bool
is_remark [] = true
is_remark (b ∷ more) = b == 35

-- what a line tells that is neither, from the move that it is
abbrev pub told_of : Option TextMove → Told
told_of None = Wrong
told_of (Some what) = Move what

-- what a line tells
unfoldable pub told_in : List ℕ → Told
told_in line = if is_remark line then Nothing else told_of (move_in line)

-- the moves so far, and those with what a line tells
abbrev pub TakenAs : Told → List TextMove → List TextMove → Type 0
TakenAs Nothing moves more = more ≡ moves
TakenAs (Move what) moves more = more ≡ moves ++ what ∷ []
TakenAs Wrong moves more = ⊥

-- why a line with this number is refused that tells this
abbrev pub RefusedAs : Told → ℕ → ScheduleRefused → Type 0
RefusedAs told number (Line at) = (told ≡ Wrong) × (at ≡ number)
RefusedAs told number (Memory error) = Unit {0}
