-- A program has one run by turns.
use Rattle.std.proofs.Common.{◌≡◌, ◌≢◌, ℕ, zero, suc, ◌<◌, ◌⊎◌, inl, inr, refl, sym, subst, ap, ◌∙◌, arith, List, [], ◌∷◌, ◌++◌, Option}
use Rattle.std.specs.Prelude.{map, ℤ, ◌<ℤ◌}
use Rattle.std.proofs.lemmas.Int.{ints}
use Rattle.oss_model.specs.Order.{IsEarlierKey, written}
use Rattle.oss_model.specs.Bodies.{Program}
use Rattle.oss_model.specs.Machine.{Task, State, At, find}
use Rattle.oss_model.specs.Moves.{CanStep, opening}
use Rattle.oss_model.proofs.MoveLemmas.{which_path}
use Rattle.oss_model.proofs.OrderLemmas.{before_not, before_trans}
use Rattle.oss_wave_laws.specs.Claims.{IsSame}
use Rattle.oss_wave_laws.specs.Waves.{Takes, takes_none, takes_more}
use Rattle.oss_wave_laws.proofs.OneRunLemmas.{passes_one, takes_same}
use Rattle.oss_wave_laws.proofs.SameLemmas.{at_back, at_forth, can_step_forth, same_back, same_itself}
use Rattle.oss_prior_laws.specs.Turns.{Candidate, GoesBefore, IsFirstOf, IsNext, IsOrder, Successor, Turn, Turns, answers_of, begun_by, ends, first_step, goes_on, is_candidate, is_successor, priority_of}
use Rattle.oss_prior_laws.specs.Claims.{OneOrder, OneRunByTurns}

module _ {S : Type 0} (P : Program S) where
  -- behind fewer steps one more can be made
  record Fewer (p : List ℕ) (s : State S) (j : ℕ) : Type 0 where
    pub state : State S
    pub takes : Takes P p s j state
    pub task : Task S
    pub can : CanStep P state p task

  fewer : (p : List ℕ) {s n : State S} (k j : ℕ) → Takes P p s k n → j < k → Fewer p s j
  fewer p zero j takes_none l = absurd (omega (arith, l))
  fewer p {s = s} {n = n} (suc k) j (takes_more {a = a} {t = t} r can step) l = go (nearer j k l) (λ f. fewer p {n = a} k j r f)
    where
      nearer : (i m : ℕ) → i < suc m → (i ≡ m) ⊎ (i < m)
      nearer i m h = grind (arith, h)

      go : (j ≡ k) ⊎ (j < k) → (j < k → Fewer p s j) → Fewer p s j
      go (inl e) on = subst (λ (i : ℕ). Fewer p s i) (sym e) (record { state = a; takes = r; task = t; can = can })
      go (inr f) on = on f

  -- so two turns of one task cannot make fewer and more
  not_fewer : (p : List ℕ) {s n x y : State S} (k j : ℕ) → IsSame s n → Takes P p s k x → ((t : Task S) → CanStep P x p t → ⊥) → Takes P p n j y → k < j → ⊥
  not_fewer p k j same r none q l =
      let f = fewer p j k q l in
      none f.task (can_step_forth P (same_back (takes_same P same p k r f.takes)) p f.task f.can)

  record OneTurn (k j : ℕ) (x y : State S) : Type 0 where
    pub steps : k ≡ j
    pub same : IsSame x y

  turn_one : {s n x y : State S} (p : List ℕ) (k j : ℕ) → IsSame s n → Turn P s p k x → Turn P n p j y → OneTurn k j x y
  turn_one {n = n} p k j same a b = record { steps = e; same = (passes_one P (takes_same P same p k a.takes (subst (λ (i : ℕ). Takes P p n i b.middle) (sym e) b.takes)) a.behind b.behind).same }
    where
      compared : (i m : ℕ) → (i ≡ m) ⊎ ((i < m) ⊎ (m < i))
      compared i m = grind arith

      go : (k ≡ j) ⊎ ((k < j) ⊎ (j < k)) → k ≡ j
      go (inl f) = f
      go (inr (inl l)) = absurd (not_fewer p k j same a.takes a.no_more b.takes l)
      go (inr (inr l)) = absurd (not_fewer p j k (same_back same) b.takes b.no_more a.takes l)

      e : k ≡ j
      e = go (compared k j)

  candidate_forth : {s n : State S} → IsSame s n → (q : List ℕ) → Candidate P s q → Candidate P n q
  candidate_forth same q c = record { task = c.task; can = can_step_forth P same q c.task c.can }

  successor_forth : {s n x y : State S} → IsSame s n → IsSame x y → (q : List ℕ) → Successor P s x q → Successor P n y q
  successor_forth same later q h = record {
    candidate = candidate_forth later q h.candidate;
    before = h.before;
    was = at_forth same q h.before h.was;
    waited = λ c. h.waited (candidate_forth (same_back same) q c);
  }

  before_forth : {s n : State S} → IsSame s n → (q r : List ℕ) → GoesBefore s q r → GoesBefore n q r
  before_forth same q r h t u a b = h t u (at_back same q t a) (at_back same r u b)

  -- neither of two tasks goes before the other
  never_both : (a b : ℤ) (q r : List ℕ) → (b <ℤ a) ⊎ ((a ≡ b) × IsEarlierKey q r) → (a <ℤ b) ⊎ ((b ≡ a) × IsEarlierKey r q) → ⊥
  never_both a b q r (inl h) (inl k) = grind (arith, ints)
  never_both a b q r (inl h) (inr (e, k)) = grind (arith, ints)
  never_both a b q r (inr (e, h)) (inl k) = grind (arith, ints)
  never_both a b q r (inr (e, h)) (inr (f, k)) = before_not (before_trans h k) refl

  -- so one task is the first of some
  first_one : (n : State S) (these : List ℕ → Type 0) (there : (q : List ℕ) → these q → (t : Task S) × At n q t) (q r : List ℕ) → IsFirstOf n these q → IsFirstOf n these r → q ≡ r
  first_one n these there q r a b = go (which_path q r)
    where
      go : (q ≡ r) ⊎ (q ≢ r) → q ≡ r
      go (inl e) = e
      go (inr ne) =
          let t = there q a.0 in
          let u = there r b.0 in
          absurd (never_both (priority_of q t.0) (priority_of r u.0) q r (a.1 r b.0 (λ e. ne (sym e)) t.0 u.0 t.1 u.1) (b.1 q a.0 ne u.0 t.0 u.1 t.1))

  -- the first of some is that of the same in a state that is one
  first_forth : {s n : State S} → IsSame s n → (these those : List ℕ → Type 0) → ((q : List ℕ) → these q → those q) → ((q : List ℕ) → those q → these q) → (q : List ℕ) → IsFirstOf s these q → IsFirstOf n those q
  first_forth same these those forth back q h = (forth q h.0, λ r k ne. before_forth same q r (h.1 r (back r k) ne))

  candidate_there : {n : State S} (q : List ℕ) → Candidate P n q → (t : Task S) × At n q t
  candidate_there q c = (c.task, c.can.at_)

  successor_there : {s n : State S} (q : List ℕ) → Successor P s n q → (t : Task S) × At n q t
  successor_there q h = (h.candidate.task, h.candidate.can.at_)

  pub next_candidate : {s n : State S} (q : List ℕ) → IsNext P s n q → Candidate P n q
  next_candidate q (is_successor h) = h.0.candidate
  next_candidate q (is_candidate none h) = h.0

  next_one : {s n x y : State S} → IsSame s n → IsSame x y → (q r : List ℕ) → IsNext P s x q → IsNext P n y r → q ≡ r
  next_one {s = s} {n = n} {x = x} {y = y} same later q r (is_successor h) (is_successor k) =
      first_one x (λ o. Successor P s x o) (λ o c. successor_there o c) q r h
      (first_forth (same_back later) (λ o. Successor P n y o) (λ o. Successor P s x o) (λ o c. successor_forth (same_back same) (same_back later) o c) (λ o c. successor_forth same later o c) r k)
  next_one same later q r (is_successor h) (is_candidate none k) = absurd (none q (successor_forth same later q h.0))
  next_one same later q r (is_candidate none h) (is_successor k) = absurd (none r (successor_forth (same_back same) (same_back later) r k.0))
  next_one {x = x} {y = y} same later q r (is_candidate none h) (is_candidate also k) =
      first_one x (λ o. Candidate P x o) (λ o c. candidate_there o c) q r h
      (first_forth (same_back later) (λ o. Candidate P y o) (λ o. Candidate P x o) (λ o c. candidate_forth (same_back later) o c) (λ o c. candidate_forth later o c) r k)

  begun_one : {s n : State S} → IsSame s n → (p : List ℕ) (k j : ℕ) → k ≡ j → begun_by s p k ≡ begun_by n p j
  begun_one {s = s} {n = n} same p k j e = ap (λ (o : Option (Task S)). first_step p (answers_of o) k) (sym (same.tasks p)) ∙ ap (λ (i : ℕ). begun_by n p i) e

  pub turns_one : {s n x y : State S} {p : List ℕ} {xs ys : List (List ℕ)} → IsSame s n → Turns P s p xs x → Turns P n p ys y → (xs ≡ ys) × IsSame x y
  turns_one {p = p} same (ends {steps = k} a none e) (ends {steps = j} b also f) =
      let o = turn_one p k j same a b in
      (e ∙ (begun_one same p k j o.steps ∙ sym f), o.same)
  turns_one {p = p} same (ends {steps = k} a none e) (goes_on {q = q} {steps = j} b next more f) =
      absurd (none q (candidate_forth (same_back (turn_one p k j same a b).same) q (next_candidate q next)))
  turns_one {p = p} same (goes_on {q = q} {steps = k} a next more e) (ends {steps = j} b none f) =
      absurd (none q (candidate_forth (turn_one p k j same a b).same q (next_candidate q next)))
  turns_one {n = n} {y = y} {p = p} same (goes_on {m = m} {q = q} {steps = k} {later = later} a next more e) (goes_on {m = w} {q = r} {steps = j} {later = after} b then_ others f) =
      let o = turn_one p k j same a b in
      let one : r ≡ q = sym (next_one same o.same q r next then_) in
      let rest = turns_one o.same more (subst (λ (c : List ℕ). Turns P w c after y) one others) in
      (e ∙ ((ap (λ (xs : List (List ℕ)). xs ++ later) (begun_one same p k j o.steps) ∙ ap (λ (xs : List (List ℕ)). begun_by n p j ++ xs) rest.0) ∙ sym f), rest.1)

pub one_run_by_turns : (S : Type 0) → OneRunByTurns S
one_run_by_turns S P main cells xs ys n m a b = turns_one P (same_itself (opening main cells)) a b

pub one_order : (S : Type 0) → OneOrder S
one_order S P main cells a b x y = x.order_is ∙ (ap (λ (ps : List (List ℕ)). map written ps) (one_run_by_turns S P main cells x.begun y.begun x.state y.state x.runs y.runs).0 ∙ sym y.order_is)
