-- Each turn of a wave has an act, and what a wave and a pass do leaves less.
use Rattle.std.proofs.Common.{◌≡◌, ℕ, zero, suc, ◌+◌, ◌<◌, ◌≤◌, ◌⊎◌, inl, inr, refl, sym, subst, ap, ◌∙◌, arith, List, [], ◌∷◌, length, true, false}
use Rattle.std.proofs.lemmas.Bool.Decides.{nat_tests}
use Rattle.oss_syntax.specs.declared.access.Mode.TheVariants.{Write, Fold}
use Rattle.oss_syntax.specs.declared.access.Op.{Op}
use Rattle.oss_model.specs.Order.{IsIn, here}
use Rattle.oss_model.specs.Rights.{Holds}
use Rattle.oss_model.specs.Context.{right_of}
use Rattle.oss_model.specs.Bodies.{Program, Act, Start, IsHalt}
use Rattle.oss_model.specs.Bodies.Act.{Ticked, Load, Store, Folded, Created, Awaited, Waited, WaitedOn, Releases, Printed, Ended, Fault, Over}
use Rattle.oss_model.specs.Machine.{Task, State, Owes}
use Rattle.oss_model.specs.Moves.{act_now, CanLet, CanJoin, steps, lets, joins, SomeMove, a_step, a_let, a_join}
use Rattle.oss_model.specs.Sequence.{Running, Sequential}
use Rattle.oss_model.specs.Agreement.{Setting, Agrees}
use Rattle.oss_model.specs.Answers.{IsStopped}
use Rattle.oss_model.specs.Termination.{IsLively}
use Rattle.oss_model.proofs.AgreementTheorem.{moved_agrees}
use Rattle.oss_model.proofs.TreeLemmas.{at_same}
use Rattle.oss_wave_laws.specs.Parts.{stops_before, stage_after, ticks_after, stops_after, IsPart}
use Rattle.oss_wave_laws.specs.Waves.{Turn, first_stage, wave_ticks, IsTurn, Takes, takes_none, takes_more, TakeTurns, no_turns, turn_first, AreTurns}
use Rattle.oss_wave_laws.specs.Passes.{Place, ArePlaces, GivenUp, IsKept, Visits, visits_none, keeps, gives, merges, Passes, idles, passes}
use Rattle.oss_wave_laws.specs.Rounds.{Round, IsRound}
use Rattle.oss_wave_laws.specs.Left.{left}
use Rattle.oss_wave_laws.specs.Claims.{RoundFalls}
use Rattle.oss_wave_laws.proofs.LeftLemmas.{moves_fall_at}
use Rattle.oss_wave_laws.proofs.SumLemmas.{in_cases, in_none}

-- a part does not stop before a first act that goes on
goes_first : {S : Type 0} (act : Act S) (ticks quota : ℕ) → (IsHalt act → ⊥) → ticks < quota → stops_before act 0 ticks quota ≡ false
goes_first Ticked ticks quota h l = grind (arith, nat_tests, l)
goes_first (Load c) ticks quota h l = refl
goes_first (Store c v) ticks quota h l = refl
goes_first (Folded c op v slot) ticks quota h l = refl
goes_first (Created o included) ticks quota h l = refl
goes_first Awaited ticks quota h l = refl
goes_first Waited ticks quota h l = refl
goes_first (WaitedOn named) ticks quota h l = refl
goes_first (Releases clauses included) ticks quota h l = refl
goes_first (Printed key text) ticks quota h l = refl
goes_first Ended ticks quota h l = refl
goes_first (Fault kind line key) ticks quota h l = absurd (h tt)
goes_first Over ticks quota h l = absurd (h tt)

some_ticks : 0 < wave_ticks
unfolding wave_ticks
some_ticks = omega arith

module _ {S : Type 0} (P : Program S) (s : State S) where
  -- so the turn of a task that may act has an act
  pub turn_acts : (k : Turn) → IsTurn P s k → 0 < k.acts
  unfolding stage_after ticks_after
  turn_acts k turn = go k.acts refl turn.part
    where
      go : (n : ℕ) → n ≡ k.acts → IsPart P turn.task.body.start (first_stage s turn.task) wave_ticks k.acts → 0 < k.acts
      go zero e part =
          let f : stops_after P turn.task.body.start (first_stage s turn.task) wave_ticks zero ≡ true = subst (λ (m : ℕ). stops_after P turn.task.body.start (first_stage s turn.task) wave_ticks m ≡ true) (sym e) part.stops in
          let g : stops_after P turn.task.body.start (first_stage s turn.task) wave_ticks zero ≡ false = goes_first (act_now P turn.task.body) 0 wave_ticks turn.can.goes some_ticks in
          let h : true ≡ false = sym f ∙ g in
          cc
      go (suc n) e part = omega (arith, e)

  -- where a pass gives up nothing, all is kept
  pub all_kept : (places : List Place) {n : State S} → Visits P s places [] n → (a : Place) → IsIn a places → IsKept P s a
  all_kept [] v a h = absurd (in_none h)
  all_kept (b ∷ rest) (keeps k v) a h = pick (in_cases h) (λ i. all_kept rest v a i)
    where
      pick : (a ≡ b) ⊎ IsIn a rest → (IsIn a rest → IsKept P s a) → IsKept P s a
      pick (inl e) f = subst (λ (x : Place). IsKept P s x) (sym e) k
      pick (inr i) f = f i

  -- where it gives up something, a move may be made at its beginning
  pub some_given : (places : List Place) {g : GivenUp} {more : List GivenUp} {n : State S} → Visits P s places (g ∷ more) n → SomeMove P s
  some_given [] v = elim v [ ]
  some_given (a ∷ rest) (keeps k v) = some_given rest v
  some_given (a ∷ rest) (gives {t = t} can go v) = a_let {p = a.path} {c = a.cell} {t = t} can
  some_given (a ∷ rest) (merges {op = op} {t = t} can go v) = a_join {p = a.path} {c = a.cell} {op = op} {t = t} can

module _ {S : Type 0} (P : Program S) (main : Start S) (cells : List ℕ) (z : Running S) (set_ : Setting main cells) (run : Sequential P main cells z) where
  not_main : (s : State S) → Agrees P main cells z s → (p : List ℕ) (c : ℕ) (op : Op) (t : Task S) → CanJoin P s p c op t → Owes p t.body.start.context c
  not_main s agrees [] c op t can =
      let e : t.body.start ≡ main = ap (λ (x : Task S). x.body.start) (at_same s [] t agrees.made.main_task can.at_ agrees.made.main_at) ∙ agrees.made.main_start in
      let r : right_of main.context c ≡ Holds (Fold op) true = subst (λ (x : Start S). right_of x.context c ≡ Holds (Fold op) true) e can.right in
      let f : Fold op ≡ Write = set_.writes c (Fold op) true r in
      cc
  not_main s agrees (k ∷ p) c op t can = (Fold op, true, can.right)

  let_owes : (s : State S) (p : List ℕ) (c : ℕ) (t : Task S) → CanLet P s p c t → Owes p t.body.start.context c
  let_owes s [] c t can = absurd (can.not_main refl)
  let_owes s (k ∷ p) c t can = (can.mode, can.strong, can.right)

  -- where no task may act and a pass gives up nothing, no move is left
  pub nothing_left : (s : State S) → Agrees P main cells z s → AreTurns P s [] → (places : List Place) → ArePlaces s places → {n : State S} → Visits P s places [] n → IsStopped P s
  nothing_left s agrees turns places are v (a_step {p = p} {t = t} can) = in_none (turns.all p t can).1
  nothing_left s agrees turns places are v (a_let {p = p} {c = c} {t = t} can) =
      (all_kept P s places v (record { path = p; cell = c }) (are.all (record { path = p; cell = c }) (record { task = t; at_ = can.at_; owes = let_owes s p c t can }))).no_let t can
  nothing_left s agrees turns places are v (a_join {p = p} {c = c} {op = op} {t = t} can) =
      (all_kept P s places v (record { path = p; cell = c }) (are.all (record { path = p; cell = c }) (record { task = t; at_ = can.at_; owes = not_main s agrees p c op t can }))).no_join op t can

  module _ (lively : IsLively P) where
    -- a state behind others, in which so much less is left
    pub record Behind (s n : State S) (k : ℕ) : Type 0 where
      pub agrees : Agrees P main cells z n
      pub falls : left lively n + k ≤ left lively s

    pub takes_behind : {s : State S} → Agrees P main cells z s → (p : List ℕ) (k : ℕ) {n : State S} → Takes P p s k n → Behind s n k
    takes_behind agrees p zero takes_none = record { agrees = agrees; falls = omega arith }
    takes_behind {s = s} agrees p (suc k) {n = n} (takes_more {a = a} r can step) =
        let b = takes_behind agrees p k r in
        let l = moves_fall_at P main cells z set_ run lively a n b.agrees (steps can step) in
        let f = b.falls in
        record { agrees = moved_agrees P main cells z set_ run a n b.agrees (steps can step); falls = omega (arith, l, f) }

    -- the acts of these turns
    abbrev pub acts_of : List Turn → ℕ
    acts_of [] = 0
    acts_of (k ∷ rest) = k.acts + acts_of rest

    pub turns_behind : (turns : List Turn) {s n : State S} → Agrees P main cells z s → TakeTurns P s turns n → Behind s n (acts_of turns)
    turns_behind [] agrees no_turns = record { agrees = agrees; falls = omega arith }
    turns_behind (k ∷ rest) agrees (turn_first r more) =
        let b = takes_behind agrees k.path k.acts r in
        let c = turns_behind rest b.agrees more in
        let f = b.falls in
        let g = c.falls in
        record { agrees = c.agrees; falls = omega (arith, f, g) }

    pub visits_behind : (places : List Place) {s n : State S} {done : List GivenUp} → Agrees P main cells z s → Visits P s places done n → Behind s n (length done)
    visits_behind [] agrees visits_none = record { agrees = agrees; falls = omega arith }
    visits_behind (a ∷ rest) agrees (keeps k v) = visits_behind rest agrees v
    visits_behind (a ∷ rest) {s = s} agrees (gives {m = m} can go v) =
        let l = moves_fall_at P main cells z set_ run lively s m agrees (lets can go) in
        let b = visits_behind rest (moved_agrees P main cells z set_ run s m agrees (lets can go)) v in
        let f = b.falls in
        record { agrees = b.agrees; falls = omega (arith, l, f) }
    visits_behind (a ∷ rest) {s = s} agrees (merges {m = m} can go v) =
        let l = moves_fall_at P main cells z set_ run lively s m agrees (joins can go) in
        let b = visits_behind rest (moved_agrees P main cells z set_ run s m agrees (joins can go)) v in
        let f = b.falls in
        record { agrees = b.agrees; falls = omega (arith, l, f) }

    -- the cells that these passes give up
    abbrev pub given_of : List (List GivenUp) → ℕ
    given_of [] = 0
    given_of (done ∷ rest) = length done + given_of rest

    pub passes_behind : {s n : State S} {done : List (List GivenUp)} → Agrees P main cells z s → Passes P s done n → Behind s n (given_of done)
    passes_behind agrees (idles a) = visits_behind a.places agrees a.visits
    passes_behind agrees (passes a r) =
        let b = visits_behind a.places agrees a.visits in
        let c = passes_behind b.agrees r in
        let f = b.falls in
        let g = c.falls in
        record { agrees = c.agrees; falls = omega (arith, f, g) }

    pub round_falls_at : (s n : State S) (round : Round) → Agrees P main cells z s → (IsStopped P s → ⊥) → IsRound P s round n → left lively n < left lively s
    round_falls_at s n round agrees moving r = by_turns round.turns r.wave.turns_are r.wave.acts r.behind
      where
        by_passes : {done : List (List GivenUp)} → AreTurns P s [] → Passes P s done n → left lively n < left lively s
        by_passes turns (idles a) = absurd (moving (nothing_left s agrees turns a.places a.places_are a.visits))
        by_passes turns (passes {first = g} {more = gs} {rest = rest} a q) =
            let b = visits_behind a.places agrees a.visits in
            let c = passes_behind b.agrees q in
            let f = b.falls in
            let h = c.falls in
            let one : length (g ∷ gs) ≡ suc (length gs) = refl in
            omega (arith, f, h, one)

        alone : {m : State S} {done : List (List GivenUp)} → TakeTurns P s [] m → AreTurns P s [] → Passes P m done n → left lively n < left lively s
        alone no_turns turns q = by_passes turns q

        by_turns : (turns : List Turn) → AreTurns P s turns → TakeTurns P s turns r.middle → Passes P r.middle round.passes n → left lively n < left lively s
        by_turns [] are t q = alone t are q
        by_turns (k ∷ rest) are t q =
            let b = turns_behind (k ∷ rest) agrees t in
            let c = passes_behind b.agrees q in
            let l = turn_acts P s k (are.only k here) in
            let f = b.falls in
            let h = c.falls in
            omega (arith, f, h, l)

pub round_falls : (S : Type 0) → RoundFalls S
round_falls S P main cells z s n round lively set_ run agrees moving r = round_falls_at P main cells z set_ run lively s n round agrees moving r
