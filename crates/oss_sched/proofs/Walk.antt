-- The walk over the lines of a text: the moves so far, and what is left.
use Rattle.std.proofs.Common.{◌≡◌, ◌≤◌, ◌<◌, ◌+◌, ℕ, refl, inl, inr, List, [], ◌∷◌, ◌++◌, length, arith, append_assoc, append-nil}
use Rattle.oss_sched.specs.declared.moves.TextMove.{TextMove}
use Rattle.oss_sched.specs.declared.refused.ScheduleRefused.{ScheduleRefused}
use Rattle.oss_sched.specs.declared.refused.ScheduleRefused.TheVariants.{Line, Memory}
use Rattle.oss_sched.specs.declared.told.Told.{Told}
use Rattle.oss_sched.specs.declared.told.Told.TheVariants.{Nothing, Move, Wrong}
use Rattle.oss_sched.specs.Schedules.{IsFirstWrong, IsRefusal, IsSchedule, IsScheduleText, lines_of}
use Rattle.oss_sched.specs.Schedules.IsSchedule.{over, remark, asked}
use Rattle.oss_sched.specs.Schedules.IsFirstWrong.{here, later}
use Rattle.oss_sched.specs.Reading.{RefusedAs, TakenAs, told_in}
use Rattle.oss_sched.proofs.MoveLemmas.{line_tells}

-- The moves so far are those of the text up to the rest, whose first line has this number.
pub record IsLeft (text : List ℕ) (moves : List TextMove) (number : ℕ) (rest : List ℕ) : Type 0 where
  pub goes_on : (more : List TextMove) → IsSchedule (lines_of rest) more → IsSchedule (lines_of text) (moves ++ more)
  pub stops : (at : ℕ) → IsFirstWrong number (lines_of rest) at → IsFirstWrong 1 (lines_of text) at
  pub room : number + length rest ≤ 1 + length text

pub left_start : (text : List ℕ) (moves : List TextMove) → moves ≡ [] → IsLeft text moves 1 text
left_start text moves none = rw none (record { goes_on = λ more is. is; stops = λ at is. is; room = omega arith })

-- A line is passed.
pub left_step : (text : List ℕ) (moves next : List TextMove) (number : ℕ) (rest line after : List ℕ) → IsLeft text moves number rest → lines_of rest ≡ line ∷ lines_of after → length after < length rest → TakenAs (told_in line) moves next → IsLeft text next (number + 1) after
left_step text moves next number rest line after left split shorter taken = by (told_in line) refl taken where
  by : (told : Told) → told_in line ≡ told → TakenAs told moves next → IsLeft text next (number + 1) after
  by Nothing is same =
      let silent = line_tells line Nothing is in
      rw same (record {
        goes_on = λ more found. left.goes_on more (rw split (remark silent found));
        stops = λ at found. left.stops at (rw split (later (inl silent) found));
        room = omega (arith, left.room, shorter);
      })
  by (Move what) is longer =
      let line_is = line_tells line (Move what) is in
      rw longer (record {
        goes_on = λ more found. rw (append_assoc moves (what ∷ []) more) (left.goes_on (what ∷ more) (rw split (asked line_is found)));
        stops = λ at found. left.stops at (rw split (later (inr (what, line_is)) found));
        room = omega (arith, left.room, shorter);
      })
  by Wrong is none = absurd none

-- The text is at its end.
pub left_end : (text : List ℕ) (moves : List TextMove) (number : ℕ) (rest : List ℕ) → IsLeft text moves number rest → rest ≡ [] → IsScheduleText text moves
left_end text moves number rest left done =
    let nothing : IsSchedule (lines_of rest) [] = rw done over in
    rw append-nil at (left.goes_on [] nothing)

-- The text is refused here.
pub left_wrong : (text : List ℕ) (moves : List TextMove) (number : ℕ) (rest line after : List ℕ) (refused : ScheduleRefused) → IsLeft text moves number rest → lines_of rest ≡ line ∷ lines_of after → RefusedAs (told_in line) number refused → IsRefusal text refused
left_wrong text moves number rest line after (Line at) left split is =
    rw is.1 (left.stops number (rw split (here (line_tells line Wrong is.0))))
left_wrong text moves number rest line after (Memory error) left split is = tt
