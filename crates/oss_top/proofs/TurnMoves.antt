-- Runs by turns of two programs whose bodies do the same acts have the same turns, if bodies that go together have the same priority. So they have the same order, as a program and its code.
use Rattle.std.proofs.Common.{◌≡◌, ◌∙◌, ◌⊎◌, ℕ, zero, suc, List, [], ◌∷◌, ◌++◌, Option, Some, None, refl, sym, ap, subst}
use Rattle.std.specs.Prelude.{ℤ, ◌<ℤ◌}
use Rattle.oss_model.specs.Order.{IsEarlierKey}
use Rattle.oss_model.specs.Bodies.{Program, Start}
use Rattle.oss_model.specs.Machine.{State, Task, find}
use Rattle.oss_wave_laws.specs.Waves.{Takes, takes_none, takes_more}
use Rattle.oss_syntax.specs.declared.tree.program.Item.{Item}
use Rattle.oss_meaning.specs.Meaning.{asks_of}
use Rattle.oss_meaning.specs.Results.{first_cells, main_of}
use Rattle.oss_code.specs.declared.code.CodeParts.{CodeParts}
use Rattle.oss_machine.specs.Machines.{asks}
use Rattle.oss_body.specs.Mains.{code_main}
use Rattle.oss_lower_laws.specs.Programs.{IsCodeOf}
use Rattle.oss_lower_laws.proofs.OutcomeLaws.{start_is}
use Rattle.oss_span_laws.proofs.CodeMoves.{codes_do_the_same, is_moved}
use Rattle.oss_prior_laws.specs.Turns.{Candidate, GoesBefore, IsFirstOf, IsNext, IsOrder, Successor, Turn, Turns, answers_of, begun_by, first_step, priority_of}
use Rattle.oss_prior_laws.specs.Turns.IsNext.{is_candidate, is_successor}
use Rattle.oss_prior_laws.specs.Turns.Turns.{ends, goes_on}
use Rattle.oss_same_acts_laws.specs.Alike.{AreFoundAlike, AreTasksAlike, IsAlike, IsBisimulation, turned}
use Rattle.oss_same_acts_laws.proofs.AlikeTheorem.{opening_alike, step_forth}
use Rattle.oss_same_acts_laws.proofs.MayLemmas.{can_step_forth}
use Rattle.oss_same_acts_laws.proofs.TurnLemmas.{alike_back, at_back, at_forth, bisimulation_back}
use Rattle.oss_same_acts_laws.proofs.WaveLemmas.{passes_too}

-- the answers of tasks that are alike
answers_alike : {S T : Type 0} (R : Start S → Start T → Type 0) (o : Option (Task S)) (q : Option (Task T)) → AreFoundAlike R o q → answers_of o ≡ answers_of q
answers_alike R None None h = refl
answers_alike R None (Some u) h = absurd h
answers_alike R (Some t) None h = absurd h
answers_alike R (Some t) (Some u) h = h.found

-- the same task begins
begun_alike : {S T : Type 0} {R : Start S → Start T → Type 0} {s : State S} {n : State T} → IsAlike R s n → (p : List ℕ) (steps : ℕ) → begun_by s p steps ≡ begun_by n p steps
begun_alike {R = R} {s = s} {n = n} same p steps = ap (λ (found : List ℕ). first_step p found steps) (answers_alike R (find s.tasks p) (find n.tasks p) (same.tasks p))

-- what is a candidate in the one state is one in the other
candidate_forth : {S T : Type 0} (P : Program S) (Q : Program T) (R : Start S → Start T → Type 0) → IsBisimulation P Q R → {s : State S} {n : State T} → IsAlike R s n → (q : List ℕ) → Candidate P s q → Candidate Q n q
candidate_forth P Q R is same q h =
    let w = at_forth same q h.task h.can.at_ in
    record { task = w.0; can = can_step_forth P Q R is same q h.task w.0 w.1 w.2 h.can }

module _ {S T : Type 0} (P : Program S) (Q : Program T) (R : Start S → Start T → Type 0) (is : IsBisimulation P Q R) where
  -- and back
  candidate_back : {s : State S} {n : State T} → IsAlike R s n → (q : List ℕ) → Candidate Q n q → Candidate P s q
  candidate_back same q h = candidate_forth Q P (turned R) (bisimulation_back is) (alike_back same) q h

  -- acts of a task that lead to a state lead, in the other program, to one that is alike
  record TakesToo (p : List ℕ) (k : ℕ) (x : State S) (n : State T) : Type 0 where
    pub state : State T
    pub takes : Takes Q p n k state
    pub alike : IsAlike R x state

  takes_too : {s : State S} {n : State T} → IsAlike R s n → (p : List ℕ) (k : ℕ) {x : State S} → Takes P p s k x → TakesToo p k x n
  takes_too {n = n} same p zero takes_none = record { state = n; takes = takes_none; alike = same }
  takes_too same p (suc k) (takes_more {t = t} r can step) =
      let f = takes_too same p k r in
      let d = step_forth P Q R is f.alike p t can step in
      record { state = d.state; takes = takes_more f.takes d.can d.stepped; alike = d.alike }

  -- so does a turn
  record TurnToo (p : List ℕ) (k : ℕ) (x : State S) (n : State T) : Type 0 where
    pub state : State T
    pub turn : Turn Q n p k state
    pub alike : IsAlike R x state

  turn_too : {s : State S} {n : State T} → IsAlike R s n → (p : List ℕ) (k : ℕ) {x : State S} → Turn P s p k x → TurnToo p k x n
  turn_too same p k h =
      let d = takes_too same p k h.takes in
      let f = passes_too P Q R is d.alike h.behind in
      record {
        state = f.state;
        turn = record {
          middle = d.state;
          takes = d.takes;
          no_more = λ u can. let c = candidate_back d.alike p (record { task = u; can = can }) in h.no_more c.task c.can;
          lists = h.lists;
          behind = f.passes;
        };
        alike = f.alike;
      }

-- what is a successor in the one is one in the other
successor_forth : {S T : Type 0} (P : Program S) (Q : Program T) (R : Start S → Start T → Type 0) → IsBisimulation P Q R → {s x : State S} {n y : State T} → IsAlike R s n → IsAlike R x y → (q : List ℕ)
    → Successor P s x q → Successor Q n y q
successor_forth P Q R is same alike q h =
    let w = at_forth same q h.before h.was in
    record { candidate = candidate_forth P Q R is alike q h.candidate; before = w.0; was = w.1; waited = λ c. h.waited (candidate_back P Q R is same q c) }

module _ {S T : Type 0} (P : Program S) (Q : Program T) (R : Start S → Start T → Type 0) (is : IsBisimulation P Q R) (even : (b : Start S) (c : Start T) → R b c → b.order.priority ≡ c.order.priority) where
  priority_alike : (q : List ℕ) (t : Task S) (u : Task T) → AreTasksAlike R t u → priority_of q t ≡ priority_of q u
  priority_alike [] t u h = refl
  priority_alike (k ∷ p) t u h = even t.body.start u.body.start h.start

  goes_before_too : {x : State S} {y : State T} → IsAlike R x y → (q r : List ℕ) → GoesBefore x q r → GoesBefore y q r
  goes_before_too same q r h t u at_t at_u =
      let a = at_back same q t at_t in
      let b = at_back same r u at_u in
      subst (λ (i : ℤ). (i <ℤ priority_of q t) ⊎ ((priority_of q t ≡ i) × IsEarlierKey q r)) (priority_alike r b.0 u b.2)
      (subst (λ (j : ℤ). (priority_of r b.0 <ℤ j) ⊎ ((j ≡ priority_of r b.0) × IsEarlierKey q r)) (priority_alike q a.0 t a.2) (h a.0 b.0 a.1 b.1))

  first_too : {x : State S} {y : State T} → IsAlike R x y → (these those : List ℕ → Type 0) → ((q : List ℕ) → these q → those q) → ((q : List ℕ) → those q → these q)
      → (q : List ℕ) → IsFirstOf x these q → IsFirstOf y those q
  first_too same these those forth back q h = (forth q h.0, λ r k other. goes_before_too same q r (h.1 r (back r k) other))

  next_too : {s x : State S} {n y : State T} → IsAlike R s n → IsAlike R x y → (q : List ℕ) → IsNext P s x q → IsNext Q n y q
  next_too {s} {x} {n} {y} same alike q h = on h where
    forth : (r : List ℕ) → Successor P s x r → Successor Q n y r
    forth r k = successor_forth P Q R is same alike r k

    back : (r : List ℕ) → Successor Q n y r → Successor P s x r
    back r k = successor_forth Q P (turned R) (bisimulation_back is) (alike_back same) (alike_back alike) r k

    on : IsNext P s x q → IsNext Q n y q
    on (is_successor k) = is_successor (first_too alike (Successor P s x) (Successor Q n y) forth back q k)
    on (is_candidate none k) = is_candidate (λ r w. none r (back r w)) (first_too alike (Candidate P x) (Candidate Q y) (candidate_forth P Q R is alike) (candidate_back P Q R is alike) q k)

  -- turns that lead to a state lead, in the other program, to one that is alike
  record TurnsToo (p : List ℕ) (begun : List (List ℕ)) (x : State S) (n : State T) : Type 0 where
    pub state : State T
    pub turns : Turns Q n p begun state
    pub alike : IsAlike R x state

  turns_too : {s : State S} {n : State T} → IsAlike R s n → (p : List ℕ) (begun : List (List ℕ)) {x : State S} → Turns P s p begun x → TurnsToo p begun x n
  turns_too same p begun (ends {steps = steps} turn none e) =
      let d = turn_too P Q R is same p steps turn in
      record { state = d.state; turns = ends d.turn (λ q c. none q (candidate_back P Q R is d.alike q c)) (e ∙ begun_alike same p steps); alike = d.alike }
  turns_too same p begun (goes_on {q = q} {steps = steps} {later = later} turn next more e) =
      let d = turn_too P Q R is same p steps turn in
      let f = turns_too d.alike q later more in
      record {
        state = f.state;
        turns = goes_on d.turn (next_too same d.alike q next) f.turns (e ∙ ap (λ (first : List (List ℕ)). first ++ later) (begun_alike same p steps));
        alike = f.alike;
      }

  -- so the order of the one program is that of the other
  pub order_forth : (main : Start S) (other : Start T) (cells : List ℕ) (order : List (List ℕ)) → R main other → IsOrder P main cells order → IsOrder Q other cells order
  order_forth main other cells order r h =
      let d = turns_too (opening_alike P Q R is main other cells r) [] h.begun h.runs in
      record { begun = h.begun; state = d.state; runs = d.turns; order_is = h.order_is }

-- the order of the code is that of the program
pub order_of_code : (all : List Item) (code : CodeParts) (of : IsCodeOf all code) (fuel : ℕ) (order : List (List ℕ)) → IsOrder (asks code) (code_main code fuel) code.first order
    → IsOrder (asks_of all) (main_of all fuel) (first_cells all) order
order_of_code all code of fuel order h =
    order_forth (asks code) (asks_of all) (turned (is_moved all code of)) (bisimulation_back (codes_do_the_same all code of)) (λ b c r. sym (ap (λ s. s.order.priority) r)) (code_main code fuel) (main_of all fuel)
    (first_cells all) order (start_is all code of fuel) (subst (λ (cells : List ℕ). IsOrder (asks code) (code_main code fuel) cells order) of.first h)
