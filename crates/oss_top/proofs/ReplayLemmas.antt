-- What comes of a schedule on the code of a program is what comes of it on the program; and one reply at most is that to it.
use Rattle.std.proofs.Common.{◌≡◌, ◌∙◌, ℕ, false, List, refl, sym, ap}
use Rattle.oss_syntax.specs.declared.tree.program.Program.{Program}
use Rattle.oss_model.specs.Agreement.{AreWords}
use Rattle.oss_model.specs.Answers.{IsStopped}
use Rattle.oss_model.specs.Bodies.{Program as Asks, Start}
use Rattle.oss_model.specs.Machine.{State}
use Rattle.oss_model.specs.Moves.{opening}
use Rattle.oss_same_acts_laws.specs.Alike.{IsAlike, IsBisimulation, turned}
use Rattle.oss_same_acts_laws.proofs.MayLemmas.{stopped_forth as stopped_too}
use Rattle.oss_same_acts_laws.proofs.TurnLemmas.{alike_back, bisimulation_back}
use Rattle.oss_wave_laws.proofs.SameLemmas.{same_itself, stopped_forth}
use Rattle.oss_meaning.specs.Expressions.{TreeScript}
use Rattle.oss_meaning.specs.Meaning.{asks_of}
use Rattle.oss_meaning.specs.Results.{Outcome, first_cells, main_of}
use Rattle.oss_code.specs.declared.code.CodeParts.{CodeParts}
use Rattle.oss_machine.specs.Frames.{CodeScript}
use Rattle.oss_machine.specs.Machines.{asks}
use Rattle.oss_body.specs.Mains.{code_main}
use Rattle.oss_lower_laws.specs.Programs.{IsCodeOf}
use Rattle.oss_lower_laws.proofs.OutcomeLaws.{main_outcomes_alike, outcomes_are_one}
use Rattle.oss_sched.specs.declared.moves.TextMove.{TextMove}
use Rattle.oss_replay.specs.Replays.{IsReplayed, Plays}
use Rattle.oss_replay.specs.declared.replayed.Replayed.{Replayed}
use Rattle.oss_replay.specs.declared.replayed.Replayed.TheVariants.{Answered, NotEnabled, Unfinished}
use Rattle.oss_replay.proofs.AlikeReplays.{left_too, plays_too, stuck_too}
use Rattle.oss_replay.proofs.EndLemmas.{an_answered_replay_is_the_run}
use Rattle.oss_replay.proofs.SameLemmas.{not_stuck, plays_one, stuck_one, unfinished_one}
use Rattle.oss_report.specs.Replays.{not_enabled_line, unfinished_line}
use Rattle.oss_top.specs.Forms.{answer_reply, error_reply}
use Rattle.oss_top.specs.Reads.{replayed_reply}
use Rattle.oss_top.specs.Replays.{IsReplayReply, beginning}
use Rattle.oss_top.specs.Replays.IsReplayReply.{ended, stuck, unfinished}
use Rattle.oss_top.specs.declared.reply.Reply.{Reply}
use Rattle.oss_top.specs.declared.status.Status.TheVariants as status
use Rattle.oss_span_laws.proofs.CodeMoves.{codes_do_the_same, codes_open_alike, is_moved, outcome_of}

module _ (p : Program) (code : CodeParts) (of : IsCodeOf p.items code) (words : AreWords code.first) (fuel : ℕ) (list : List TextMove) where
  abbrev P : Asks TreeScript
  P = asks_of p.items

  abbrev Q : Asks CodeScript
  Q = asks code

  abbrev R : Start TreeScript → Start CodeScript → Type 0
  R = is_moved p.items code of

  there : IsBisimulation P Q R
  there = codes_do_the_same p.items code of

  back : IsBisimulation Q P (turned R)
  back = bisimulation_back there

  opens : IsAlike (turned R) (opening (code_main code fuel) code.first) (beginning p fuel)
  opens = alike_back (codes_open_alike p.items code of fuel)

  -- where no move of the program is left, none of the code is
  stopped_back : {n : State CodeScript} {m : State TreeScript} → IsAlike (turned R) n m → IsStopped P m → IsStopped Q n
  stopped_back same s = stopped_too P Q R there (alike_back same) s

  pub replay_replies : (r : Replayed) → IsReplayed code fuel list r → IsReplayReply p fuel list (replayed_reply p r)
  replay_replies (Answered a) (n, h, s, x) =
      let plays = plays_too Q P (turned R) back list opens n h in
      let o = outcome_of Q (code_main code fuel) code.first a (an_answered_replay_is_the_run code fuel list a words (n, h, s, x)) in
      ended plays.state o.0 plays.plays (stopped_too Q P (turned R) back plays.alike s) ((main_outcomes_alike p.items code of words fuel o.0).1 o.1)
      (ap (answer_reply false p) (sym o.2))
  replay_replies (NotEnabled number) k = stuck number (stuck_too Q P (turned R) back list opens 1 number k) refl
  replay_replies (Unfinished count) (n, h, s, x) =
      let plays = plays_too Q P (turned R) back list opens n h in
      unfinished plays.state count plays.plays (λ t. s (stopped_back plays.alike t)) (left_too Q P (turned R) back plays.alike count x) refl

-- moves have one reply at most
module _ (p : Program) (fuel : ℕ) (list : List TextMove) where
  abbrev A : Asks TreeScript
  A = asks_of p.items

  -- states to which all moves lead are stopped or not
  both_stopped : (n m : State TreeScript) → Plays A (beginning p fuel) list n → Plays A (beginning p fuel) list m → IsStopped A n → (IsStopped A m → ⊥) → ⊥
  both_stopped n m h k s u = u (stopped_forth A (plays_one A list (same_itself (beginning p fuel)) h k) s)

  pub replay_once : (reply other : Reply) → IsReplayReply p fuel list reply → IsReplayReply p fuel list other → reply ≡ other
  replay_once reply other (ended n o h s w x) (ended m q k t v y) =
      x ∙ ap (λ (z : Outcome). answer_reply false p z.answer) (outcomes_are_one p.items (main_of p.items fuel) (first_cells p.items) o q w v) ∙ sym y
  replay_once reply other (ended n o h s w x) (stuck number k y) = absurd (not_stuck A list (same_itself (beginning p fuel)) h k)
  replay_once reply other (ended n o h s w x) (unfinished m c k u left y) = absurd (both_stopped n m h k s u)
  replay_once reply other (stuck number h x) (ended m q k t v y) = absurd (not_stuck A list (same_itself (beginning p fuel)) k h)
  replay_once reply other (stuck number h x) (stuck at k y) =
      x ∙ ap (λ (z : ℕ). error_reply status.NotReplayed (not_enabled_line z)) (stuck_one A list 1 number at (same_itself (beginning p fuel)) h k) ∙ sym y
  replay_once reply other (stuck number h x) (unfinished m c k u left y) = absurd (not_stuck A list (same_itself (beginning p fuel)) k h)
  replay_once reply other (unfinished n d h u left x) (ended m q k t v y) = absurd (both_stopped m n k h t u)
  replay_once reply other (unfinished n d h u left x) (stuck number k y) = absurd (not_stuck A list (same_itself (beginning p fuel)) h k)
  replay_once reply other (unfinished n d h u left x) (unfinished m c k w more y) =
      x ∙ ap (λ (z : ℕ). error_reply status.NotReplayed (unfinished_line z)) (unfinished_one A d c (plays_one A list (same_itself (beginning p fuel)) h k) left more) ∙ sym y
