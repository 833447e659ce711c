-- Runs by waves of two programs whose bodies do the same acts have the same rounds, and the same trace.
use Rattle.std.proofs.Common.{◌≡◌, ℕ, refl, sym, subst, ap, ◌∙◌, List, [], ◌∷◌}
use Rattle.std.specs.Prelude.{◌+◌, map, min, ◌-◌, ◌^◌}
use Rattle.oss_model.specs.Order.{IsIn, here, there}
use Rattle.oss_model.specs.Bodies.{Program, Start}
use Rattle.oss_model.specs.Machine.{Task, State, At}
use Rattle.oss_model.proofs.TreeLemmas.{at_same, path_found}
use Rattle.oss_wave_laws.specs.Rounds.{Round, IsRound, Rounds, stopped, follows, RunsByWaves, Trace, round_lines, widest, weighed, tasks_in, trace_of, IsTrace}
use Rattle.oss_wave_laws.specs.Left.{AreApart, AreTasks, summed}
use Rattle.oss_wave_laws.proofs.SumLemmas.{chosen, listed, weights_are_summed}
use Rattle.oss_same_acts_laws.specs.Alike.{IsBisimulation, turned, IsAlike}
use Rattle.oss_same_acts_laws.specs.AlikeWaves.{RunsByWavesToo}
use Rattle.oss_same_acts_laws.proofs.TurnLemmas.{bisimulation_back, alike_back, at_forth, at_back}
use Rattle.oss_same_acts_laws.proofs.MayLemmas.{stopped_forth}
use Rattle.oss_same_acts_laws.proofs.AlikeTheorem.{opening_alike}
use Rattle.oss_same_acts_laws.proofs.WaveLemmas.{wave_too, passes_too}

-- the weight of a task where tasks are counted
abbrev one : {S : Type 0} → Task S → ℕ
one t = 1

-- tasks of two states, which stand at the same paths in the same order
data AreCounterparts {S T : Type 0} (n : State T) : List (Task S) → List (Task T) → Type 0 where
  no_more : AreCounterparts n [] []
  one_more : {t : Task S} {u : Task T} {ts : List (Task S)} {us : List (Task T)} → At n t.body.start.path u → AreCounterparts n ts us → AreCounterparts n (t ∷ ts) (u ∷ us)

module _ {S T : Type 0} {n : State T} where
  counted_alike : {ts : List (Task S)} {us : List (Task T)} → AreCounterparts n ts us → summed one ts ≡ summed one us
  unfolding summed
  counted_alike no_more = refl
  counted_alike (one_more h rest) = ap (λ (k : ℕ). 1 + k) (counted_alike rest)

  in_back : {ts : List (Task S)} {us : List (Task T)} → AreCounterparts n ts us → (u : Task T) → IsIn u us → (t : Task S) × IsIn t ts × At n t.body.start.path u
  in_back no_more u i = elim i [ ]
  in_back (one_more {t = t} h rest) u here = (t, here, h)
  in_back (one_more h rest) u (there i) = let a = in_back rest u i in (a.0, there a.1, a.2)

  in_forth : {ts : List (Task S)} {us : List (Task T)} → AreCounterparts n ts us → (t : Task S) → IsIn t ts → (u : Task T) × IsIn u us × At n t.body.start.path u
  in_forth no_more t i = elim i [ ]
  in_forth (one_more {u = u} h rest) t here = (u, here, h)
  in_forth (one_more h rest) t (there i) = let a = in_forth rest t i in (a.0, there a.1, a.2)

  apart_forth : {ts : List (Task S)} {us : List (Task T)} → AreCounterparts n ts us → AreApart ts → AreApart us
  apart_forth no_more h = tt
  apart_forth (one_more {t = t} {u = u} k rest) h = ((λ v i e. let a = in_back rest v i in h.0 a.0 a.1 (sym (path_found n.tasks a.0.body.start.path v a.2) ∙ (e ∙ path_found n.tasks t.body.start.path u k))), apart_forth rest h.1)

module _ {S T : Type 0} {R : Start S → Start T → Type 0} {s : State S} {n : State T} (same : IsAlike R s n) where
  counterparts : (ts : List (Task S)) → ((t : Task S) → IsIn t ts → At s t.body.start.path t) → (us : List (Task T)) × AreCounterparts n ts us
  counterparts [] h = ([], no_more)
  counterparts (t ∷ ts) h =
      let a = at_forth same t.body.start.path t (h t here) in
      let b = counterparts ts (λ x i. h x (there i)) in
      (a.0 ∷ b.0, one_more a.1 b.1)

  tasks_forth : (ts : List (Task S)) (us : List (Task T)) → AreTasks s ts → AreCounterparts n ts us → AreTasks n us
  tasks_forth ts us h k = record { all = all; only = only; once = apart_forth k h.once }
    where
      all : (p : List ℕ) (u : Task T) → At n p u → IsIn u us
      all p u at_ =
          let a = at_back same p u at_ in
          let b = in_forth k a.0 (h.all p a.0 a.1) in
          subst (λ (x : Task T). IsIn x us) (at_same n p b.0 u (subst (λ (q : List ℕ). At n q b.0) (path_found s.tasks p a.0 a.1) b.2) at_) b.1

      only : (u : Task T) → IsIn u us → At n u.body.start.path u
      only u i = let a = in_back k u i in subst (λ (q : List ℕ). At n q u) (sym (path_found n.tasks a.0.body.start.path u a.2)) a.2

  -- states that are alike have as many tasks
  pub tasks_alike : tasks_in s ≡ tasks_in n
  tasks_alike = ap (λ (k : ℕ). min k (2 ^ 64 - 1)) (a ∙ (counted_alike k.1 ∙ sym b))
    where
      of_s : AreTasks s (chosen [] s.tasks)
      of_s = listed s

      k : (us : List (Task T)) × AreCounterparts n (chosen [] s.tasks) us
      k = counterparts (chosen [] s.tasks) of_s.only

      a : weighed one [] s.tasks ≡ summed one (chosen [] s.tasks)
      a = weights_are_summed S s (chosen [] s.tasks) one of_s

      b : weighed one [] n.tasks ≡ summed one k.0
      b = weights_are_summed T n k.0 one (tasks_forth (chosen [] s.tasks) k.0 of_s k.1)

module _ {S T : Type 0} (P : Program S) (Q : Program T) (R : Start S → Start T → Type 0) (is : IsBisimulation P Q R) where
  record RoundToo (round : Round) (x : State S) (n : State T) : Type 0 where
    pub state : State T
    pub round_is : IsRound Q n round state
    pub alike : IsAlike R x state

  round_too : {s : State S} {n : State T} → IsAlike R s n → (round : Round) {x : State S} → IsRound P s round x → RoundToo round x n
  round_too same round h =
      let d = wave_too P Q R is same round.turns h.wave in
      let f = passes_too P Q R is d.alike h.behind in
      record { state = f.state; round_is = record { middle = d.state; wave = d.wave; behind = f.passes }; alike = f.alike }

  -- rounds that lead to a state lead, in the other program, to one that is alike
  pub record RoundsToo (rounds : List Round) (x : State S) (n : State T) : Type 0 where
    pub state : State T
    pub runs : Rounds Q n rounds state
    pub alike : IsAlike R x state

  pub rounds_too : (rounds : List Round) {s : State S} {n : State T} → IsAlike R s n → {x : State S} → Rounds P s rounds x → RoundsToo rounds x n
  rounds_too [] {n = n} same (stopped h) = record { state = n; runs = stopped (stopped_forth P Q R is same h); alike = same }
  rounds_too (round ∷ rest) same (follows h r more) =
      let d = round_too same round r in
      let f = rounds_too rest d.alike more in
      record { state = f.state; runs = follows (λ k. h (stopped_forth Q P (turned R) (bisimulation_back is) (alike_back same) k)) d.round_is f.runs; alike = f.alike }

  pub run_by_waves_too : (main : Start S) (other : Start T) (cells : List ℕ) (rounds : List Round) (n : State S) → R main other → RunsByWaves P main cells rounds n → RunsByWavesToo Q R other cells rounds n
  run_by_waves_too main other cells rounds n r h =
      let d = rounds_too rounds (opening_alike P Q R is main other cells r) h in
      record { state = d.state; runs = d.runs; alike = d.alike }

  -- so the trace of the one program is one of the other
  pub trace_forth : (main : Start S) (other : Start T) (cells : List ℕ) (trace : Trace) → R main other → IsTrace P main cells trace → IsTrace Q other cells trace
  trace_forth main other cells trace r h =
      let d = run_by_waves_too main other cells h.rounds h.state r h.runs in
      let e = tasks_alike d.alike in
      let f : trace_of h.rounds h.state ≡ trace_of h.rounds d.state = λ i. record { waves = map round_lines h.rounds; tasks = e i; widest = widest h.rounds } in
      record { rounds = h.rounds; state = d.state; runs = d.runs; trace_is = h.trace_is ∙ f }
