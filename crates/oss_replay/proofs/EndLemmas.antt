-- A replay has one end, and its answer is that of the sequential run.
use Rattle.std.proofs.Common.{◌≡◌, ℕ, sym, subst, ap, ◌∙◌, List}
use Rattle.oss_model.specs.Machine.{State}
use Rattle.oss_model.specs.Moves.{opening, opens}
use Rattle.oss_model.specs.Agreement.{AreWords, Setting}
use Rattle.oss_model.specs.Answers.{IsResult, IsStopped, IsAnswer}
use Rattle.oss_model.specs.declared.answer.Answer.{Answer}
use Rattle.oss_model.proofs.AgreementTheorem.{every_state_agrees}
use Rattle.oss_model.proofs.Exclusive.{every_main_is_a_setting}
use Rattle.oss_model.proofs.ResultTheorem.{every_answer_is_the_result}
use Rattle.oss_model.proofs.TerminationTheorem.{run_has_result}
use Rattle.oss_wave_laws.proofs.SameLemmas.{same_itself, stopped_forth}
use Rattle.oss_code.specs.declared.code.CodeParts.{CodeParts}
use Rattle.oss_machine.specs.Frames.{CodeScript}
use Rattle.oss_machine.specs.Machines.{asks}
use Rattle.oss_machine.proofs.LiveTheorem.{lively}
use Rattle.oss_body.specs.Mains.{code_main, main_order}
use Rattle.oss_sched.specs.declared.moves.TextMove.{TextMove}
use Rattle.oss_replay.specs.declared.replayed.Replayed.{Replayed}
use Rattle.oss_replay.specs.declared.replayed.Replayed.TheVariants.{Answered, NotEnabled, Unfinished}
use Rattle.oss_replay.specs.Replays.{IsReplayed, Plays}
use Rattle.oss_replay.specs.Claims.{AReplayHasOneEnd, AnAnsweredReplayIsTheRun}
use Rattle.oss_replay.proofs.SameLemmas.{plays_one, not_stuck, stuck_one, unfinished_one, plays_reached}

module _ (code : CodeParts) (fuel : ℕ) (list : List TextMove) (words : AreWords code.first) where
  abbrev first : State CodeScript
  first = opening (code_main code fuel) code.first

  setting : Setting (code_main code fuel) code.first
  setting = every_main_is_a_setting CodeScript main_order code.first fuel words

  -- the sequential run has an answer
  result : (b : Answer) × IsResult (asks code) (code_main code fuel) code.first b
  result = run_has_result CodeScript (asks code) (code_main code fuel) code.first setting (lively code)

  -- and no state in which no move is left has another
  answer_is : (n : State CodeScript) (a : Answer) → Plays (asks code) first list n → IsStopped (asks code) n → IsAnswer (asks code) n a → a ≡ result.0
  answer_is n a plays stopped answer =
      every_answer_is_the_result CodeScript (asks code) (code_main code fuel) code.first n a result.0 setting
      (λ z run. every_state_agrees CodeScript (asks code) (code_main code fuel) code.first z n setting run (plays_reached (asks code) (code_main code fuel) code.first list first n opens plays))
      stopped answer result.1

  -- states to which all moves lead are stopped or not
  both_stopped : (n m : State CodeScript) → Plays (asks code) first list n → Plays (asks code) first list m → IsStopped (asks code) n → (IsStopped (asks code) m → ⊥) → ⊥
  both_stopped n m a b stopped still = still (stopped_forth (asks code) (plays_one (asks code) list (same_itself first) a b) stopped)

  pub one_end : (a b : Replayed) → IsReplayed code fuel list a → IsReplayed code fuel list b → a ≡ b
  one_end (Answered a) (Answered b) (n, h, s, x) (m, k, u, y) = ap Answered (answer_is n a h s x ∙ sym (answer_is m b k u y))
  one_end (Answered a) (NotEnabled number) (n, h, s, x) k = absurd (not_stuck (asks code) list (same_itself first) h k)
  one_end (Answered a) (Unfinished count) (n, h, s, x) (m, k, u, y) = absurd (both_stopped n m h k s u)
  one_end (NotEnabled number) (Answered b) h (m, k, u, y) = absurd (not_stuck (asks code) list (same_itself first) k h)
  one_end (NotEnabled number) (NotEnabled other) h k = ap NotEnabled (stuck_one (asks code) list 1 number other (same_itself first) h k)
  one_end (NotEnabled number) (Unfinished count) h (m, k, u, y) = absurd (not_stuck (asks code) list (same_itself first) k h)
  one_end (Unfinished count) (Answered b) (n, h, s, x) (m, k, u, y) = absurd (both_stopped m n k h u s)
  one_end (Unfinished count) (NotEnabled number) (n, h, s, x) k = absurd (not_stuck (asks code) list (same_itself first) h k)
  one_end (Unfinished count) (Unfinished other) (n, h, s, x) (m, k, u, y) = ap Unfinished (unfinished_one (asks code) count other (plays_one (asks code) list (same_itself first) h k) x y)

  pub is_the_run : (answer : Answer) → IsReplayed code fuel list (Answered answer) → IsResult (asks code) (code_main code fuel) code.first answer
  is_the_run answer (n, h, s, x) = subst (λ (b : Answer). IsResult (asks code) (code_main code fuel) code.first b) (sym (answer_is n answer h s x)) result.1

pub a_replay_has_one_end : AReplayHasOneEnd
a_replay_has_one_end code fuel list a b words h k = one_end code fuel list words a b h k

pub an_answered_replay_is_the_run : AnAnsweredReplayIsTheRun
an_answered_replay_is_the_run code fuel list answer words h = is_the_run code fuel list words answer h
