-- From states that are alike a wave has the same turns in both programs, and a pass comes to the same places and gives up the same cells.
use Rattle.std.proofs.Common.{ℕ, zero, suc, subst, List, [], ◌∷◌}
use Rattle.oss_model.specs.Context.{Context}
use Rattle.oss_model.specs.Bodies.{Program, Start}
use Rattle.oss_model.specs.Machine.{Task, State, At, Owes}
use Rattle.oss_model.specs.Moves.{CanStep}
use Rattle.oss_wave_laws.specs.Parts.{Stage, IsPart}
use Rattle.oss_wave_laws.specs.Waves.{Turn, first_stage, wave_ticks, IsTurn, Takes, takes_none, takes_more, TakeTurns, no_turns, turn_first, AreTurns, IsWave}
use Rattle.oss_wave_laws.specs.Passes.{Place, IsPlace, ArePlaces, GivenUp, IsKept, Visits, visits_none, keeps, gives, merges, IsPass, Passes, idles, passes}
use Rattle.oss_same_acts_laws.specs.Alike.{IsBisimulation, turned, AreTasksAlike, IsAlike}
use Rattle.oss_same_acts_laws.proofs.TurnLemmas.{bisimulation_back, tasks_back, alike_back, at_forth, at_back}
use Rattle.oss_same_acts_laws.proofs.MayLemmas.{can_step_forth, can_let_forth, can_join_forth}
use Rattle.oss_same_acts_laws.proofs.AlikeTheorem.{step_forth, let_forth, join_forth}
use Rattle.oss_same_acts_laws.proofs.PartLemmas.{part_forth}

-- a stage with this memory, after these answers
abbrev stage_of : List ℕ → List ℕ → Stage
stage_of cells found = record { cells = cells; found = found }

module _ {S T : Type 0} (P : Program S) (Q : Program T) (R : Start S → Start T → Type 0) (is : IsBisimulation P Q R) {s : State S} {n : State T} (same : IsAlike R s n) where
  -- a turn of the one wave is one of the other
  turn_forth : (k : Turn) → IsTurn P s k → IsTurn Q n k
  turn_forth k h = record { task = w.0; can = can_step_forth P Q R is same k.path h.task w.0 w.1 w.2 h.can; part = part }
    where
      w : (u : Task T) × At n k.path u × AreTasksAlike R h.task u
      w = at_forth same k.path h.task h.can.at_

      moved : IsPart Q w.0.body.start (stage_of s.cells h.task.body.found) wave_ticks k.acts
      moved = part_forth P Q R is w.2.start (first_stage s h.task) wave_ticks k.acts h.part

      part : IsPart Q w.0.body.start (stage_of n.cells w.0.body.found) wave_ticks k.acts
      part =
          subst (λ (cells : List ℕ). IsPart Q w.0.body.start (stage_of cells w.0.body.found) wave_ticks k.acts) same.cells
          (subst (λ (found : List ℕ). IsPart Q w.0.body.start (stage_of s.cells found) wave_ticks k.acts) w.2.found moved)

  step_partner : (p : List ℕ) (t : Task S) → CanStep P s p t → (u : Task T) × CanStep Q n p u
  step_partner p t can = let w = at_forth same p t can.at_ in (w.0, can_step_forth P Q R is same p t w.0 w.1 w.2 can)

  -- a place of the one pass is one of the other
  place_forth : (a : Place) → IsPlace s a → IsPlace n a
  place_forth a h =
      let w = at_forth same a.path h.task h.at_ in
      record { task = w.0; at_ = w.1; owes = subst (λ (x : Context). Owes a.path x a.cell) (is h.task.body.start w.0.body.start w.2.start).context h.owes }

module _ {S T : Type 0} (P : Program S) (Q : Program T) (R : Start S → Start T → Type 0) (is : IsBisimulation P Q R) where
  si : IsBisimulation Q P (turned R)
  si = bisimulation_back is

  turns_forth : {s : State S} {n : State T} → IsAlike R s n → (turns : List Turn) → AreTurns P s turns → AreTurns Q n turns
  turns_forth same turns h = record {
    ordered = h.ordered;
    only = λ k i. turn_forth P Q R is same k (h.only k i);
    all = λ p u can. let w = step_partner Q P (turned R) si (alike_back same) p u can in h.all p w.0 w.1;
  }

  -- acts of a task that lead to a state lead, in the other program, to one that is alike
  record TakesToo (p : List ℕ) (k : ℕ) (x : State S) (n : State T) : Type 0 where
    pub state : State T
    pub takes : Takes Q p n k state
    pub alike : IsAlike R x state

  takes_too : {s : State S} {n : State T} → IsAlike R s n → (p : List ℕ) (k : ℕ) {x : State S} → Takes P p s k x → TakesToo p k x n
  takes_too {n = n} same p zero takes_none = record { state = n; takes = takes_none; alike = same }
  takes_too same p (suc k) (takes_more {t = t} r can step) =
      let f = takes_too same p k r in
      let d = step_forth P Q R is f.alike p t can step in
      record { state = d.state; takes = takes_more f.takes d.can d.stepped; alike = d.alike }

  record TurnsToo (turns : List Turn) (x : State S) (n : State T) : Type 0 where
    pub state : State T
    pub acts : TakeTurns Q n turns state
    pub alike : IsAlike R x state

  take_turns_too : (turns : List Turn) {s : State S} {n : State T} → IsAlike R s n → {x : State S} → TakeTurns P s turns x → TurnsToo turns x n
  take_turns_too [] {n = n} same no_turns = record { state = n; acts = no_turns; alike = same }
  take_turns_too (k ∷ rest) same (turn_first r more) =
      let d = takes_too same k.path k.acts r in
      let f = take_turns_too rest d.alike more in
      record { state = f.state; acts = turn_first d.takes f.acts; alike = f.alike }

  -- so does a wave
  pub record WaveToo (turns : List Turn) (x : State S) (n : State T) : Type 0 where
    pub state : State T
    pub wave : IsWave Q n turns state
    pub alike : IsAlike R x state

  pub wave_too : {s : State S} {n : State T} → IsAlike R s n → (turns : List Turn) {x : State S} → IsWave P s turns x → WaveToo turns x n
  wave_too same turns h =
      let d = take_turns_too turns same h.acts in
      record { state = d.state; wave = record { turns_are = turns_forth same turns h.turns_are; acts = d.acts }; alike = d.alike }

  places_forth : {s : State S} {n : State T} → IsAlike R s n → (places : List Place) → ArePlaces s places → ArePlaces n places
  places_forth same places h = record {
    sorted = h.sorted;
    only = λ a i. place_forth P Q R is same a (h.only a i);
    all = λ a k. h.all a (place_forth Q P (turned R) si (alike_back same) a k);
  }

  -- what a task keeps, its partner keeps
  kept_forth : {s : State S} {n : State T} → IsAlike R s n → (a : Place) → IsKept P s a → IsKept Q n a
  kept_forth same a k = record {
    no_let = λ u can. let w = at_back same a.path u can.at_ in k.no_let w.0 (can_let_forth Q P (turned R) si (alike_back same) a.path a.cell u w.0 w.1 (tasks_back w.2) can);
    no_join = λ op u can. let w = at_back same a.path u can.at_ in k.no_join op w.0 (can_join_forth Q P (turned R) si (alike_back same) a.path a.cell op u w.0 w.1 (tasks_back w.2) can);
  }

  record VisitsToo (places : List Place) (given : List GivenUp) (x : State S) (n : State T) : Type 0 where
    pub state : State T
    pub visits : Visits Q n places given state
    pub alike : IsAlike R x state

  visits_too : (places : List Place) {s : State S} {n : State T} {given : List GivenUp} → IsAlike R s n → {x : State S} → Visits P s places given x → VisitsToo places given x n
  visits_too [] {n = n} same visits_none = record { state = n; visits = visits_none; alike = same }
  visits_too (a ∷ rest) same (keeps k v) = let f = visits_too rest same v in record { state = f.state; visits = keeps (kept_forth same a k) f.visits; alike = f.alike }
  visits_too (a ∷ rest) same (gives {t = t} can go v) =
      let d = let_forth P Q R is same a.path a.cell t can go in
      let f = visits_too rest d.alike v in
      record { state = f.state; visits = gives d.can d.let_go f.visits; alike = f.alike }
  visits_too (a ∷ rest) same (merges {op = op} {t = t} can go v) =
      let d = join_forth P Q R is same a.path a.cell op t can go in
      let f = visits_too rest d.alike v in
      record { state = f.state; visits = merges d.can d.joined f.visits; alike = f.alike }

  record PassToo (given : List GivenUp) (x : State S) (n : State T) : Type 0 where
    pub state : State T
    pub pass : IsPass Q n given state
    pub alike : IsAlike R x state

  pass_too : {s : State S} {n : State T} → IsAlike R s n → {given : List GivenUp} {x : State S} → IsPass P s given x → PassToo given x n
  pass_too same h =
      let d = visits_too h.places same h.visits in
      record { state = d.state; pass = record { places = h.places; places_are = places_forth same h.places h.places_are; visits = d.visits }; alike = d.alike }

  -- and so do passes
  pub record PassesToo (list : List (List GivenUp)) (x : State S) (n : State T) : Type 0 where
    pub state : State T
    pub passes : Passes Q n list state
    pub alike : IsAlike R x state

  pub passes_too : {s : State S} {n : State T} → IsAlike R s n → {list : List (List GivenUp)} {x : State S} → Passes P s list x → PassesToo list x n
  passes_too same (idles a) = let d = pass_too same a in record { state = d.state; passes = idles d.pass; alike = d.alike }
  passes_too same (passes a r) =
      let d = pass_too same a in
      let f = passes_too d.alike r in
      record { state = f.state; passes = passes d.pass f.passes; alike = f.alike }
