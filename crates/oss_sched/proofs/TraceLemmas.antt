-- A trace is a schedule.
use Rattle.std.proofs.Common.{◌≡◌, ◌+◌, ℕ, true, refl, sym, subst, ◌∙◌, List, [], ◌∷◌, ◌++◌, length, arith, append_assoc}
use Rattle.std.specs.Prelude.{codes}
use Rattle.std.specs.Fmt.{decimal}
use Rattle.std.specs.List.{AllByRecursion, flat_map}
use Rattle.oss_model.specs.Points.{text_of}
use Rattle.oss_sched.specs.declared.moves.TextMove.{TextMove}
use Rattle.oss_sched.specs.declared.moves.TextMove.TheVariants.{Step, Let, Join}
use Rattle.oss_sched.specs.declared.moves.WaveRecord.{WaveRecord}
use Rattle.oss_sched.specs.Schedules.{IsRemark, IsScheduleText, IsWithinLimits, cells_text, move_text}
use Rattle.oss_sched.specs.Schedules.IsSchedule.{over, remark, asked}
use Rattle.oss_sched.specs.Traces.{IsTraceRead, counts_text, move_line, wave_text, waves_text}
use Rattle.oss_sched.proofs.ByteLemmas.{all_append, all_from, all_lower, decimal_from, point_from}
use Rattle.oss_sched.proofs.LineLemmas.{line_before}

-- no line of a trace has a newline in it

decimal_line : (n : ℕ) → all_from 11 (decimal n) ≡ true
decimal_line n = all_lower 11 33 (omega arith) (decimal n) (decimal_from n)

point_line : (p : List ℕ) → all_from 11 (text_of p) ≡ true
point_line p = all_lower 11 33 (omega arith) (text_of p) (point_from p)

cells_line : (point : List ℕ) (first count : ℕ) → all_from 11 (cells_text point first count) ≡ true
cells_line point first count =
    all_append 11 (text_of point) (32 ∷ decimal first ++ 32 ∷ decimal count) (point_line point)
    (all_append 11 (decimal first) (32 ∷ decimal count) (decimal_line first) (decimal_line count))

move_from : (what : TextMove) → all_from 11 (move_text what) ≡ true
move_from (Step point count) = all_append 11 (text_of point) (32 ∷ decimal count) (point_line point) (decimal_line count)
move_from (Let point first count) = cells_line point first count
move_from (Join point first count) = cells_line point first count

-- a line and its newline, before a text that is read

move_read : (what : TextMove) (rest text : List ℕ) (more : List TextMove) → IsWithinLimits what → text ≡ move_text what ++ 10 ∷ rest → IsScheduleText rest more → IsScheduleText text (what ∷ more)
move_read what rest text more limits is found =
    rw (is, line_before (move_text what) rest (move_from what)) (asked (record { limits = limits; text = refl }) found)

remark_read : (line rest text : List ℕ) (more : List TextMove) → IsRemark line → all_from 11 line ≡ true → text ≡ line ++ 10 ∷ rest → IsScheduleText rest more → IsScheduleText text more
remark_read line rest text more silent all is found =
    rw (is, line_before line rest all) (remark silent found)

-- the moves of a wave

moves_read : (wave : List TextMove) (rest : List ℕ) (more : List TextMove) → AllByRecursion IsWithinLimits wave → IsScheduleText rest more → IsScheduleText (flat_map move_line wave ++ rest) (wave ++ more)
moves_read [] rest more limits found = found
moves_read (what ∷ wave) rest more limits found =
    move_read what (flat_map move_line wave ++ rest) ((move_line what ++ flat_map move_line wave) ++ rest) (wave ++ more) limits.0
    (append_assoc (move_line what) (flat_map move_line wave) rest ∙ append_assoc (move_text what) (10 ∷ []) (flat_map move_line wave ++ rest))
    (moves_read wave rest more limits.1 found)

-- the heading of a wave, without its newline
abbrev heading : ℕ → List ℕ
heading number = codes "# wave " ++ decimal number

heading_line : (number : ℕ) → all_from 11 (heading number) ≡ true
heading_line number = all_append 11 (codes "# wave ") (decimal number) refl (decimal_line number)

wave_read : (number : ℕ) (wave : List TextMove) (rest : List ℕ) (more : List TextMove) → AllByRecursion IsWithinLimits wave → IsScheduleText rest more → IsScheduleText (wave_text number wave ++ rest) (wave ++ more)
wave_read number wave rest more limits found =
    remark_read (heading number) (flat_map move_line wave ++ rest) (wave_text number wave ++ rest) (wave ++ more) refl (heading_line number)
    (simp append_assoc)
    (moves_read wave rest more limits found)

waves_read : (number : ℕ) (waves : List (List TextMove)) (rest : List ℕ) → AllByRecursion (AllByRecursion IsWithinLimits) waves → IsScheduleText rest [] → IsScheduleText (waves_text number waves ++ rest) (flat_map (λ wave. wave) waves)
waves_read number [] rest limits found = found
waves_read number (wave ∷ waves) rest limits found =
    subst (λ (text : List ℕ). IsScheduleText text (flat_map (λ wave. wave) (wave ∷ waves))) (sym (append_assoc (wave_text number wave) (waves_text (number + 1) waves) rest))
    (wave_read number wave (waves_text (number + 1) waves ++ rest) (flat_map (λ wave. wave) waves) limits.0 (waves_read (number + 1) waves rest limits.1 found))

-- the last line, without its newline
abbrev counts : ℕ → ℕ → ℕ → List ℕ
counts tasks waves widest = codes "# tasks " ++ decimal tasks ++ codes " waves " ++ decimal waves ++ codes " widest " ++ decimal widest

counts_line : (tasks waves widest : ℕ) → all_from 11 (counts tasks waves widest) ≡ true
counts_line tasks waves widest =
    let first : all_from 11 (codes "# tasks " ++ decimal tasks) ≡ true = all_append 11 (codes "# tasks ") (decimal tasks) refl (decimal_line tasks) in
    let second : all_from 11 (codes "# tasks " ++ decimal tasks ++ codes " waves ") ≡ true = all_append 11 (codes "# tasks " ++ decimal tasks) (codes " waves ") first refl in
    let third : all_from 11 (codes "# tasks " ++ decimal tasks ++ codes " waves " ++ decimal waves) ≡ true = all_append 11 (codes "# tasks " ++ decimal tasks ++ codes " waves ") (decimal waves) second (decimal_line waves) in
    let fourth : all_from 11 (codes "# tasks " ++ decimal tasks ++ codes " waves " ++ decimal waves ++ codes " widest ") ≡ true = all_append 11 (codes "# tasks " ++ decimal tasks ++ codes " waves " ++ decimal waves) (codes " widest ") third refl in
    all_append 11 (codes "# tasks " ++ decimal tasks ++ codes " waves " ++ decimal waves ++ codes " widest ") (decimal widest) fourth (decimal_line widest)

counts_read : (tasks waves widest : ℕ) → IsScheduleText (counts_text tasks waves widest) []
counts_read tasks waves widest =
    remark_read (counts tasks waves widest) [] (counts_text tasks waves widest) [] refl (counts_line tasks waves widest) (simp append_assoc) over

pub trace_read : (ran : WaveRecord) → IsTraceRead ran
trace_read ran limits = waves_read 1 ran.waves (counts_text ran.tasks (length ran.waves) ran.widest) limits (counts_read ran.tasks (length ran.waves) ran.widest)
