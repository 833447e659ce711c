-- Two programs whose bodies do the same acts do as many ticks; and the sequential run of one program has one number of them.
use Rattle.std.proofs.Common.{◌≡◌, ◌∙◌, ℕ, ◌+◌, List, [], Option, Some, None, refl, sym, ap, subst, arith}
use Rattle.oss_model.specs.Bodies.{IsHalt, Program, Start}
use Rattle.oss_model.specs.Machine.{At, State, Task, find}
use Rattle.oss_model.specs.Moves.{act_now, opening}
use Rattle.oss_model.specs.Sequence.{IsAtEnd, Running, RunsOn, Sequential}
use Rattle.oss_model.specs.Sequence.Sequential.{opens, runs_on}
use Rattle.oss_same_acts_laws.specs.Alike.{AreFoundAlike, AreTasksAlike, IsAlike, IsBisimulation}
use Rattle.oss_same_acts_laws.proofs.ActLemmas.{now}
use Rattle.oss_same_acts_laws.proofs.AlikeTheorem.{opening_alike}
use Rattle.oss_same_acts_laws.proofs.RelationLemmas.{bisimulation_itself, is_one}
use Rattle.oss_same_acts_laws.proofs.ResultLemmas.{IsStageAlike, both_go_on, goes_on}
use Rattle.oss_same_acts_laws.proofs.TurnLemmas.{at_both}
use Rattle.oss_chain_laws.specs.Happenings.{tick_of}
use Rattle.oss_chain_laws.specs.Runs.{Ticks, more_ticks, no_ticks}
use Rattle.oss_lower_laws.proofs.OneResult.{Same}
use Rattle.oss_span_laws.proofs.ChainMoves.{tick_alike}

module _ {S T : Type 0} (P : Program S) (Q : Program T) (R : Start S → Start T → Type 0) (is : IsBisimulation P Q R) where
  -- steps of stages that are alike are ticks, or neither is
  steps_alike : {z x : Running S} {y w : Running T} → IsStageAlike R z y → (r : RunsOn P z x) (k : RunsOn Q y w) → tick_of (act_now P r.task.body) ≡ tick_of (act_now Q k.task.body)
  steps_alike {z = z} {y = y} same r k =
      tick_alike (now P Q R is (at_both same.state y.active r.task k.task (subst (λ (p : List ℕ). At z.state p r.task) same.active r.at_) k.at_)).acts

  -- The run of the other program comes to a stage that is alike by as many ticks.
  pub ticks_too : (main : Start S) (other : Start T) (cells : List ℕ) → R main other → {z : Running S} {n : ℕ} → Ticks P main cells z n → (y : Running T) × Ticks Q other cells y n × IsStageAlike R z y
  ticks_too main other cells r no_ticks =
      (record { state = opening other cells; active = []; printed = [] }, no_ticks, record { state = opening_alike P Q R is main other cells r; active = refl; printed = refl })
  ticks_too main other cells r (more_ticks {z = z} {y = x} {n = n} h on) =
      let k = ticks_too main other cells r h in
      let m = goes_on P Q R is z x k.0 k.2 on in
      (m.0, subst (λ (j : ℕ). Ticks Q other cells m.0 (n + j)) (sym (steps_alike k.2 on m.1)) (more_ticks k.1 m.1), m.2)

-- One number of ticks

module _ {S : Type 0} (P : Program S) where
  found_itself : (o : Option (Task S)) → AreFoundAlike is_one o o
  found_itself None = tt
  found_itself (Some t) = record { start = refl; found = refl; given = refl }

  pub to_alike : {z y : Running S} → Same P z y → IsStageAlike is_one z y
  to_alike {z = z} {y = y} same = record {
    state = record { cells = same.cells; tasks = λ p. subst (λ (o : Option (Task S)). AreFoundAlike is_one (find z.state.tasks p) o) (same.found p) (found_itself (find z.state.tasks p)) };
    active = same.active;
    printed = same.printed;
  }

  found_one : (o q : Option (Task S)) → AreFoundAlike is_one o q → o ≡ q
  found_one None None h = refl
  found_one None (Some u) h = absurd h
  found_one (Some t) None h = absurd h
  found_one (Some t) (Some u) h = λ i. Some (record { body = record { start = h.start i; found = h.found i }; given = h.given i })

  from_alike : {z y : Running S} → IsStageAlike is_one z y → Same P z y
  from_alike {z = z} {y = y} h = record { found = λ p. found_one (find z.state.tasks p) (find y.state.tasks p) (h.state.tasks p); cells = h.state.cells; active = h.active; printed = h.printed }

  same_back : {z y : Running S} → Same P z y → Same P y z
  same_back h = record { found = λ p. sym (h.found p); cells = sym h.cells; active = sym h.active; printed = sym h.printed }

  one_task : {o q : Option (Task S)} {t u : Task S} → o ≡ q → o ≡ Some t → q ≡ Some u → t ≡ u
  one_task {t = t} {u = u} e f g = let k : Some t ≡ Some u = sym f ∙ e ∙ g in cc

  -- A stage from which the run comes to this end, and the ticks on the way.
  data Left (end : Running S) : Running S → ℕ → Type 0 where
    at_end : {z : Running S} → Same P z end → Left end z 0
    goes : {z y : Running S} {k : ℕ} → (r : RunsOn P z y) → Left end y k → Left end z (tick_of (act_now P r.task.body) + k)

  itself : IsBisimulation P P is_one
  itself = bisimulation_itself P

  left_same : (end : Running S) {w : Running S} {k : ℕ} → Left end w k → (y : Running S) → Same P w y → Left end y k
  left_same end (at_end is) y same =
      at_end (record { found = λ p. sym (same.found p) ∙ is.found p; cells = sym same.cells ∙ is.cells; active = sym same.active ∙ is.active; printed = sym same.printed ∙ is.printed })
  left_same end {w = w} (goes {y = x} {k = k} r l) y same =
      let m = goes_on P P is_one itself w x y (to_alike same) r in
      subst (λ (j : ℕ). Left end y (j + k)) (sym (steps_alike P P is_one itself (to_alike same) r m.1)) (goes m.1 (left_same end l m.0 (from_alike m.2)))

  -- from the start to the end
  way_from : (main : Start S) (cells : List ℕ) (end : Running S) {w : Running S} {n k : ℕ} → Ticks P main cells w n → Left end w k → (j : ℕ) × (j ≡ n + k) × Left end (record { state = opening main cells; active = []; printed = [] }) j
  way_from main cells end {k = k} no_ticks l = (k, omega arith, l)
  way_from main cells end {k = k} (more_ticks {n = n} h r) l =
      let (j, e, m) = way_from main cells end h (goes r l) in
      (j, e ∙ grouped n (tick_of (act_now P r.task.body)) k, m)
    where
      grouped : (a b c : ℕ) → a + (b + c) ≡ a + b + c
      grouped a b c = grind arith

  step_left : (end : Running S) → IsAtEnd P end → {z y : Running S} {k : ℕ} → (r : RunsOn P z y) → Left end z k → (j : ℕ) × (k ≡ tick_of (act_now P r.task.body) + j) × Left end y j
  step_left end stops {z = z} r (at_end same) =
      absurd (r.goes (subst (λ (t : Task S). IsHalt (act_now P t.body)) (sym (one_task (same.found z.active ∙ ap (λ (p : List ℕ). find end.state.tasks p) same.active) r.at_ stops.at_)) stops.stops))
  step_left end stops {z = z} {y = y} r (goes {y = w} {k = k} m l) =
      let own : IsStageAlike is_one z z = to_alike (record { found = λ p. refl; cells = refl; active = refl; printed = refl }) in
      (k, ap (λ (j : ℕ). j + k) (steps_alike P P is_one itself own m r), left_same end l y (same_back (from_alike (both_go_on P P is_one itself z y z w own r m))))

  left_from : (main : Start S) (cells : List ℕ) (end : Running S) → IsAtEnd P end → {j : ℕ} → Left end (record { state = opening main cells; active = []; printed = [] }) j
      → {z : Running S} {n : ℕ} → Ticks P main cells z n → (k : ℕ) × (j ≡ n + k) × Left end z k
  left_from main cells end stops {j = j} start no_ticks = (j, omega arith, start)
  left_from main cells end stops {j = j} start (more_ticks {n = n} h r) =
      let (k, e, l) = left_from main cells end stops start h in
      let (i, f, m) = step_left end stops r l in
      (i, e ∙ added n k (tick_of (act_now P r.task.body)) i f, m)
    where
      added : (a b c d : ℕ) → b ≡ c + d → a + b ≡ a + c + d
      added a b c d e = grind (arith, e)

  none_left : (end : Running S) {z : Running S} {k : ℕ} → IsAtEnd P z → Left end z k → k ≡ 0
  none_left end last (at_end same) = refl
  none_left end last (goes r l) = absurd (r.goes (subst (λ (t : Task S). IsHalt (act_now P t.body)) (one_task refl last.at_ r.at_) last.stops))

  -- The sequential run has one number of ticks.
  pub one_work : (main : Start S) (cells : List ℕ) {z w : Running S} {n m : ℕ} → Ticks P main cells z n → IsAtEnd P z → Ticks P main cells w m → IsAtEnd P w → n ≡ m
  one_work main cells {w = w} {n = n} {m = m} own end other last =
      let (j, e, way) = way_from main cells w other (at_end (record { found = λ p. refl; cells = refl; active = refl; printed = refl })) in
      let (k, f, left) = left_from main cells w last way own in
      let g = none_left w end left in
      equal j k e f g
    where
      equal : (j k : ℕ) → j ≡ m + 0 → j ≡ n + k → k ≡ 0 → n ≡ m
      equal j k e f g = grind (arith, e, f, g)

  -- The stages to which its ticks are told are those of the run.
  pub run_of : (main : Start S) (cells : List ℕ) {z : Running S} {n : ℕ} → Ticks P main cells z n → Sequential P main cells z
  run_of main cells no_ticks = opens
  run_of main cells (more_ticks h r) = runs_on (run_of main cells h) r
