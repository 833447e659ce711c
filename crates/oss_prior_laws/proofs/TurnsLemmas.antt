-- Turns are made of moves, and behind the last no move is left.
use Rattle.std.proofs.Common.{◌≡◌, ℕ, refl, sym, subst, List, [], ◌∷◌}
use Rattle.oss_model.specs.Bodies.{Program, Start}
use Rattle.oss_model.specs.Machine.{Task, State}
use Rattle.oss_model.specs.Moves.{opening, opens, Reached}
use Rattle.oss_model.specs.Agreement.{Setting}
use Rattle.oss_model.specs.Answers.{IsStopped}
use Rattle.oss_model.specs.Sequence.{Running}
use Rattle.oss_model.specs.Sequence as sequence
use Rattle.oss_model.proofs.AgreementTheorem.{every_state_agrees}
use Rattle.oss_model.proofs.ResultTheorem.{every_answer_is_the_result}
use Rattle.oss_wave_laws.specs.Alone.{Runs}
use Rattle.oss_wave_laws.specs.Waves.{AreTurns}
use Rattle.oss_wave_laws.specs.Passes.{ArePlaces, GivenUp, Passes, Place, Visits, idles, keeps, passes, visits_none}
use Rattle.oss_wave_laws.proofs.FallLemmas.{nothing_left}
use Rattle.oss_wave_laws.proofs.MovesLemmas.{passes_run, runs_go_on, runs_trans, takes_runs}
use Rattle.oss_wave_laws.proofs.SumLemmas.{in_none}
use Rattle.oss_prior_laws.specs.Turns.{Candidate, Turn, Turns, ends, goes_on}
use Rattle.oss_prior_laws.specs.Claims.{AnswerIsTheResult, TurnsStop}

module _ {S : Type 0} (P : Program S) where
  turn_runs : {s n : State S} (p : List ℕ) (k : ℕ) → Turn P s p k n → Runs P s n
  turn_runs p k a = runs_trans (takes_runs k a.takes) (passes_run a.behind)

  pub turns_run : {s n : State S} {p : List ℕ} {begun : List (List ℕ)} → Turns P s p begun n → Runs P s n
  turns_run {p = p} (ends {steps = k} a none e) = turn_runs p k a
  turns_run {p = p} (goes_on {steps = k} a next more e) = runs_trans (turn_runs p k a) (turns_run more)

  visits_idle : (places : List Place) {s n : State S} → Visits P s places [] n → s ≡ n
  visits_idle [] visits_none = refl
  visits_idle (a ∷ rest) (keeps k v) = visits_idle rest v

  -- a pass that does nothing
  record IdlePass (n : State S) : Type 0 where
    pub places : List Place
    pub are : ArePlaces n places
    pub visits : Visits P n places [] n

  last_pass : {s n : State S} {lists : List (List GivenUp)} → Passes P s lists n → IdlePass n
  last_pass {n = n} (idles a) =
      let e = visits_idle a.places a.visits in
      record { places = a.places; are = subst (λ (x : State S). ArePlaces x a.places) e a.places_are; visits = subst (λ (x : State S). Visits P x a.places [] n) e a.visits }
  last_pass (passes a r) = last_pass r

  -- behind the last turn
  record IsLast (n : State S) : Type 0 where
    pub idle : IdlePass n
    pub none : (q : List ℕ) → Candidate P n q → ⊥

  last_turn : {s n : State S} {p : List ℕ} {begun : List (List ℕ)} → Turns P s p begun n → IsLast n
  last_turn (ends a none e) = record { idle = last_pass a.behind; none = none }
  last_turn (goes_on a next more e) = last_turn more

  no_turns : (n : State S) → ((q : List ℕ) → Candidate P n q → ⊥) → AreTurns P n []
  no_turns n none = record { ordered = tt; only = λ k h. absurd (in_none h); all = λ p t can. absurd (none p (record { task = t; can = can })) }

pub turns_stop : (S : Type 0) → TurnsStop S
turns_stop S P main cells begun n set_ r =
    let reached = runs_go_on S P main cells (opening main cells) n opens (turns_run P r) in
    let l = last_turn P r in
    let z : Running S = record { state = opening main cells; active = []; printed = [] } in
    let run : sequence.Sequential P main cells z = sequence.opens in
    (reached, nothing_left P main cells z set_ run n (every_state_agrees S P main cells z n set_ run reached) (no_turns P n l.none) l.idle.places l.idle.are l.idle.visits)

pub answer_is_the_result : (S : Type 0) → AnswerIsTheResult S
answer_is_the_result S P main cells begun n a b set_ r answer result =
    let e = turns_stop S P main cells begun n set_ r in
    every_answer_is_the_result S P main cells n a b set_ (λ z run. every_state_agrees S P main cells z n set_ run e.0) e.1 answer result
