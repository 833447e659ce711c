-- A lively program has a run by turns, and so an order.
use Rattle.std.proofs.Common.{◌≡◌, ◌≢◌, ℕ, zero, suc, ◌+◌, ◌<◌, ◌⊎◌, inl, inr, refl, sym, subst, ap, ◌∙◌, arith, List, [], ◌∷◌, ◌++◌, reverse, None}
use Rattle.std.specs.Prelude.{ℤ, ◌<ℤ◌, map}
use Rattle.std.proofs.lemmas.Int.{ints}
use Rattle.oss_model.specs.Order.{IsEarlierKey, IsIn, here, there, written}
use Rattle.oss_model.specs.Bodies.{Program, Start}
use Rattle.oss_model.specs.Machine.{Task, State, At, find}
use Rattle.oss_model.specs.Moves.{CanStep, Stepped, opening, steps}
use Rattle.oss_model.specs.Sequence.{Running, Sequential}
use Rattle.oss_model.specs.Sequence as sequence
use Rattle.oss_model.specs.Agreement.{Setting, Agrees}
use Rattle.oss_model.specs.Termination.{IsLively}
use Rattle.oss_model.proofs.AgreementTheorem.{moved_agrees, opening_agrees}
use Rattle.oss_model.proofs.MoveLemmas.{which_path}
use Rattle.oss_model.proofs.OrderLemmas.{Compared, after, before, before_trans, compare, equal}
use Rattle.oss_model.proofs.SortLemmas.{reverse_same}
use Rattle.oss_model.proofs.TreeLemmas.{at_same, path_found}
use Rattle.oss_wave_laws.specs.Left.{left}
use Rattle.oss_wave_laws.specs.Waves.{Takes, takes_more, takes_none}
use Rattle.oss_wave_laws.proofs.DecideLemmas.{Decided, all_tasks, both, by_iff, can_step, is_there, not_there}
use Rattle.oss_wave_laws.proofs.ExistLemmas.{AllPassed, all_passed}
use Rattle.oss_wave_laws.proofs.FallLemmas.{passes_behind, takes_behind}
use Rattle.oss_wave_laws.proofs.LeftLemmas.{moves_fall_at}
use Rattle.oss_wave_laws.proofs.PartTheorem.{StepMade, step_made}
use Rattle.oss_wave_laws.proofs.SumLemmas.{in_cases, in_none, listed}
use Rattle.oss_prior_laws.specs.Turns.{Candidate, GoesBefore, IsFirstOf, IsNext, Successor, Turn, Turns, begun_by, ends, goes_on, is_candidate, is_successor, priority_of}
use Rattle.oss_prior_laws.specs.Claims.{HasOrder}

module _ {S : Type 0} (P : Program S) where
  -- one step, and then others
  step_first : {p : List ℕ} {s m n : State S} {t : Task S} (k : ℕ) → CanStep P s p t → Stepped P s p t m → Takes P p m k n → Takes P p s (suc k) n
  step_first zero can step takes_none = takes_more takes_none can step
  step_first {p = p} {s = s} {m = m} {n = n} (suc k) can step (takes_more {a = a} r could stepped) = takes_more (step_first {n = a} k can step r) could stepped

  takes_nothing : {p : List ℕ} {s n : State S} → Takes P p s zero n → n ≡ s
  takes_nothing takes_none = refl

  -- where a step can be made and none is left, one was made
  some_steps : (p : List ℕ) (s n : State S) (k : ℕ) → Takes P p s k n → ((t : Task S) → CanStep P n p t → ⊥) → Candidate P s p → 0 < k
  some_steps p s n zero r none c = absurd (none c.task (subst (λ (x : State S). CanStep P x p c.task) (sym (takes_nothing r)) c.can))
  some_steps p s n (suc k) r none c = omega arith

  candidate_is : (s : State S) (q : List ℕ) → Decided (Candidate P s q)
  candidate_is s q = go (is_there P s q)
    where
      of_task : (t : Task S) → At s q t → Decided (CanStep P s q t) → Decided (Candidate P s q)
      of_task t h (inl can) = inl (record { task = t; can = can })
      of_task t h (inr none) = inr (λ c. none (subst (λ (u : Task S). CanStep P s q u) (at_same s q c.task t c.can.at_ h) c.can))

      go : ((t : Task S) × At s q t) ⊎ (find s.tasks q ≡ None) → Decided (Candidate P s q)
      go (inl t) = of_task t.0 t.1 (can_step P s q t.0 t.1)
      go (inr e) = inr (λ c. not_there P s q c.task e c.can.at_)

  successor_is : (s n : State S) (q : List ℕ) → Decided (Successor P s n q)
  successor_is s n q = go (is_there P s q) (candidate_is s q) (candidate_is n q)
    where
      go : ((t : Task S) × At s q t) ⊎ (find s.tasks q ≡ None) → Decided (Candidate P s q) → Decided (Candidate P n q) → Decided (Successor P s n q)
      go (inr e) was is = inr (λ x. not_there P s q x.before e x.was)
      go (inl t) (inl c) is = inr (λ x. x.waited c)
      go (inl t) (inr none) (inr never) = inr (λ x. never x.candidate)
      go (inl t) (inr none) (inl c) = inl (record { candidate = c; before = t.0; was = t.1; waited = none })

  module _ (n : State S) where
    -- the order of two tasks, as it is of the tasks that are there
    goes : (p q : List ℕ) (t u : Task S) → At n p t → At n q u → (priority_of q u <ℤ priority_of p t) ⊎ ((priority_of p t ≡ priority_of q u) × IsEarlierKey p q) → GoesBefore n p q
    goes p q t u a b h x y c d =
        subst (λ (v : Task S). (priority_of q y <ℤ priority_of p v) ⊎ ((priority_of p v ≡ priority_of q y) × IsEarlierKey p q)) (at_same n p t x a c)
        (subst (λ (v : Task S). (priority_of q v <ℤ priority_of p t) ⊎ ((priority_of p t ≡ priority_of q v) × IsEarlierKey p q)) (at_same n q u y b d) h)

    ordered : (a b : ℤ) (p q : List ℕ) → p ≢ q → ((b <ℤ a) ⊎ ((a ≡ b) × IsEarlierKey p q)) ⊎ ((a <ℤ b) ⊎ ((b ≡ a) × IsEarlierKey q p))
    ordered a b p q ne = go (numbers a b) (compare (reverse p) (reverse q))
      where
        numbers : (x y : ℤ) → (y <ℤ x) ⊎ ((x ≡ y) ⊎ (x <ℤ y))
        numbers x y = grind (arith, ints)

        go : (b <ℤ a) ⊎ ((a ≡ b) ⊎ (a <ℤ b)) → Compared (reverse p) (reverse q) → ((b <ℤ a) ⊎ ((a ≡ b) × IsEarlierKey p q)) ⊎ ((a <ℤ b) ⊎ ((b ≡ a) × IsEarlierKey q p))
        go (inl l) c = inl (inl l)
        go (inr (inr l)) c = inr (inl l)
        go (inr (inl e)) (before h) = inl (inr (e, h))
        go (inr (inl e)) (equal f) = absurd (ne (reverse_same p q f))
        go (inr (inl e)) (after h) = inr (inr (sym e, h))

    through : (a b c : ℤ) (p q r : List ℕ) → (b <ℤ a) ⊎ ((a ≡ b) × IsEarlierKey p q) → (c <ℤ b) ⊎ ((b ≡ c) × IsEarlierKey q r) → (c <ℤ a) ⊎ ((a ≡ c) × IsEarlierKey p r)
    through a b c p q r (inl h) (inl k) = inl (less a b c h k)
      where
        less : (x y z : ℤ) → y <ℤ x → z <ℤ y → z <ℤ x
        less x y z f g = grind (arith, ints)
    through a b c p q r (inl h) (inr (e, k)) = inl (subst (λ (x : ℤ). x <ℤ a) e h)
    through a b c p q r (inr (e, h)) (inl k) = inl (subst (λ (x : ℤ). c <ℤ x) (sym e) k)
    through a b c p q r (inr (e, h)) (inr (f, k)) = inr (e ∙ f, before_trans h k)

    -- the first of those of some tasks of which something is so
    record First (these : List ℕ → Type 0) (ts : List (Task S)) : Type 0 where
      pub path : List ℕ
      pub task : Task S
      pub at_ : At n path task
      pub is : these path
      pub goes_first : (u : Task S) → IsIn u ts → At n u.body.start.path u → these u.body.start.path → u.body.start.path ≢ path → GoesBefore n path u.body.start.path

    first : (these : List ℕ → Type 0) → ((q : List ℕ) → Decided (these q)) → (ts : List (Task S)) → ((t : Task S) → IsIn t ts → At n t.body.start.path t) → First these ts ⊎ ((t : Task S) → IsIn t ts → these t.body.start.path → ⊥)
    first these d [] is = inr (λ t i h. in_none i)
    first these d (t ∷ ts) is = go (d t.body.start.path) (first these d ts (λ u i. is u (there i)))
      where
        p : List ℕ
        p = t.body.start.path

        none : (these p → ⊥) → ((u : Task S) → IsIn u ts → these u.body.start.path → ⊥) → (u : Task S) → (u ≡ t) ⊎ IsIn u ts → these u.body.start.path → ⊥
        none not_this rest u (inl e) h = not_this (subst (λ (v : Task S). these v.body.start.path) e h)
        none not_this rest u (inr i) h = rest u i h

        -- another is the first still
        still : (f : First these ts) → (these p → p ≢ f.path → GoesBefore n f.path p) → (u : Task S) → (u ≡ t) ⊎ IsIn u ts → At n u.body.start.path u → these u.body.start.path → u.body.start.path ≢ f.path → GoesBefore n f.path u.body.start.path
        still f own u (inl e) a h ne = subst (λ (v : Task S). GoesBefore n f.path v.body.start.path) (sym e) (own (subst (λ (v : Task S). these v.body.start.path) e h) (λ g. ne (ap (λ (v : Task S). v.body.start.path) e ∙ g)))
        still f own u (inr i) a h ne = f.goes_first u i a h ne

        kept : (f : First these ts) → (these p → p ≢ f.path → GoesBefore n f.path p) → First these (t ∷ ts)
        kept f own = record { path = f.path; task = f.task; at_ = f.at_; is = f.is; goes_first = λ u i a h ne. still f own u (in_cases i) a h ne }

        -- this one goes before the first of the others
        alone : (h : these p) → ((u : Task S) → IsIn u ts → At n u.body.start.path u → these u.body.start.path → u.body.start.path ≢ p → GoesBefore n p u.body.start.path) → First these (t ∷ ts)
        alone h rest = record { path = p; task = t; at_ = is t here; is = h; goes_first = λ u i a k ne. of_case u (in_cases i) a k ne }
          where
            of_case : (u : Task S) → (u ≡ t) ⊎ IsIn u ts → At n u.body.start.path u → these u.body.start.path → u.body.start.path ≢ p → GoesBefore n p u.body.start.path
            of_case u (inl e) a k ne = absurd (ne (ap (λ (v : Task S). v.body.start.path) e))
            of_case u (inr i) a k ne = rest u i a k ne

        beyond : (f : First these ts) → (priority_of f.path f.task <ℤ priority_of p t) ⊎ ((priority_of p t ≡ priority_of f.path f.task) × IsEarlierKey p f.path) → (u : Task S) → IsIn u ts → At n u.body.start.path u → these u.body.start.path → u.body.start.path ≢ p
            → GoesBefore n p u.body.start.path
        beyond f h u i a k ne = pick (which_path u.body.start.path f.path)
          where
            pick : (u.body.start.path ≡ f.path) ⊎ (u.body.start.path ≢ f.path) → GoesBefore n p u.body.start.path
            pick (inl e) = subst (λ (r : List ℕ). GoesBefore n p r) (sym e) (goes p f.path t f.task (is t here) f.at_ h)
            pick (inr other) =
                goes p u.body.start.path t u (is t here) a
                (through (priority_of p t) (priority_of f.path f.task) (priority_of u.body.start.path u) p f.path u.body.start.path h (f.goes_first u i a k other f.task u f.at_ a))

        both_are : these p → (f : First these ts) → (p ≡ f.path) ⊎ (p ≢ f.path) → First these (t ∷ ts)
        both_are h f (inl e) = kept f (λ k ne. absurd (ne e))
        both_are h f (inr ne) = by_order (ordered (priority_of p t) (priority_of f.path f.task) p f.path ne)
          where
            by_order : ((priority_of f.path f.task <ℤ priority_of p t) ⊎ ((priority_of p t ≡ priority_of f.path f.task) × IsEarlierKey p f.path))
                ⊎ ((priority_of p t <ℤ priority_of f.path f.task) ⊎ ((priority_of f.path f.task ≡ priority_of p t) × IsEarlierKey f.path p)) → First these (t ∷ ts)
            by_order (inl x) = alone h (beyond f x)
            by_order (inr x) = kept f (λ k ne2. goes f.path p f.task t f.at_ (is t here) x)

        go : Decided (these p) → First these ts ⊎ ((u : Task S) → IsIn u ts → these u.body.start.path → ⊥) → First these (t ∷ ts) ⊎ ((u : Task S) → IsIn u (t ∷ ts) → these u.body.start.path → ⊥)
        go (inr never) (inl f) = inl (kept f (λ k ne. absurd (never k)))
        go (inr never) (inr rest) = inr (λ u i h. none never rest u (in_cases i) h)
        go (inl h) (inr rest) = inl (alone h (λ u i a k ne. absurd (rest u i k)))
        go (inl h) (inl f) = inl (both_are h f (which_path p f.path))

    -- so it is of all tasks of a state
    first_of : (these : List ℕ → Type 0) → ((q : List ℕ) → Decided (these q)) → ((q : List ℕ) → these q → (t : Task S) × At n q t) → ((q : List ℕ) × IsFirstOf n these q) ⊎ ((q : List ℕ) → these q → ⊥)
    first_of these d there_ = go (first these d (all_tasks P n) (λ t i. (listed n).only t i))
      where
        own : (q : List ℕ) (t : Task S) → At n q t → (F : List ℕ → Type 0) → F q → F t.body.start.path
        own q t a F h = subst F (sym (path_found n.tasks q t a)) h

        back : (q : List ℕ) (t : Task S) → At n q t → (F : List ℕ → Type 0) → F t.body.start.path → F q
        back q t a F h = subst F (path_found n.tasks q t a) h

        go : First these (all_tasks P n) ⊎ ((t : Task S) → IsIn t (all_tasks P n) → these t.body.start.path → ⊥) → ((q : List ℕ) × IsFirstOf n these q) ⊎ ((q : List ℕ) → these q → ⊥)
        go (inr none) = inr (λ q h. let t = there_ q h in none t.0 ((listed n).all q t.0 t.1) (own q t.0 t.1 these h))
        go (inl f) = inl (f.path, (f.is, λ r h ne. of_other r h ne))
          where
            of_other : (r : List ℕ) → these r → r ≢ f.path → GoesBefore n f.path r
            of_other r h ne =
                let u = there_ r h in
                back r u.0 u.1 (λ x. GoesBefore n f.path x)
                (f.goes_first u.0 ((listed n).all r u.0 u.1) (own r u.0 u.1 (λ x. At n x u.0) u.1) (own r u.0 u.1 these h) (λ e. ne (sym (path_found n.tasks r u.0 u.1) ∙ e)))

  -- whose the next turn is
  next_is : (s n : State S) → ((q : List ℕ) × IsNext P s n q) ⊎ ((q : List ℕ) → Candidate P n q → ⊥)
  next_is s n = by_successor (first_of n (Successor P s n) (successor_is s n) (λ q x. (x.candidate.task, x.candidate.can.at_)))
    where
      by_candidate : ((q : List ℕ) → Successor P s n q → ⊥) → ((q : List ℕ) × IsFirstOf n (Candidate P n) q) ⊎ ((q : List ℕ) → Candidate P n q → ⊥) → ((q : List ℕ) × IsNext P s n q) ⊎ ((q : List ℕ) → Candidate P n q → ⊥)
      by_candidate none (inl x) = inl (x.0, is_candidate none x.1)
      by_candidate none (inr never) = inr never

      by_successor : ((q : List ℕ) × IsFirstOf n (Successor P s n) q) ⊎ ((q : List ℕ) → Successor P s n q → ⊥) → ((q : List ℕ) × IsNext P s n q) ⊎ ((q : List ℕ) → Candidate P n q → ⊥)
      by_successor (inl x) = inl (x.0, is_successor x.1)
      by_successor (inr none) = by_candidate none (first_of n (Candidate P n) (candidate_is n) (λ q c. (c.task, c.can.at_)))

  next_can : {s n : State S} (q : List ℕ) → IsNext P s n q → Candidate P n q
  next_can q (is_successor h) = h.0.candidate
  next_can q (is_candidate none h) = h.0

module _ {S : Type 0} (P : Program S) (main : Start S) (cells : List ℕ) (z : Running S) (set_ : Setting main cells) (run : Sequential P main cells z) (lively : IsLively P) where
  -- a task makes all steps that it can
  record Exhausted (p : List ℕ) (s : State S) : Type 0 where
    pub count : ℕ
    pub state : State S
    pub takes : Takes P p s count state
    pub none : (t : Task S) → CanStep P state p t → ⊥

  exhaust : (fuel : ℕ) (p : List ℕ) (s : State S) → Agrees P main cells z s → left lively s < fuel → Exhausted p s
  exhaust zero p s agrees l = absurd (omega (arith, l))
  exhaust (suc fuel) p s agrees l = go (candidate_is P s p) (λ m a k. exhaust fuel p m a k)
    where
      of_step : (t : Task S) (can : CanStep P s p t) → StepMade P s p t → ((m : State S) → Agrees P main cells z m → left lively m < fuel → Exhausted p m) → Exhausted p s
      of_step t can x on =
          let f = moves_fall_at P main cells z set_ run lively s x.state agrees (steps can x.step) in
          let e = on x.state (moved_agrees P main cells z set_ run s x.state agrees (steps can x.step)) (omega (arith, l, f)) in
          record { count = suc e.count; state = e.state; takes = step_first P {n = e.state} e.count can x.step e.takes; none = e.none }

      go : Decided (Candidate P s p) → ((m : State S) → Agrees P main cells z m → left lively m < fuel → Exhausted p m) → Exhausted p s
      go (inl c) on = of_step c.task c.can (step_made P s p c.task c.can.at_ c.can.goes) on
      go (inr never) on = record { count = 0; state = s; takes = takes_none; none = λ t can. never (record { task = t; can = can }) }

  -- a turn
  record Turned (p : List ℕ) (s : State S) : Type 0 where
    pub count : ℕ
    pub state : State S
    pub turn : Turn P s p count state
    pub agrees : Agrees P main cells z state
    pub falls : left lively state + count < suc (left lively s)

  turned : (p : List ℕ) (s : State S) → Agrees P main cells z s → Turned p s
  turned p s agrees =
      let e = exhaust (suc (left lively s)) p s agrees (omega arith) in
      let b = takes_behind P main cells z set_ run lively agrees p e.count e.takes in
      let a = all_passed P main cells z set_ run lively e.state b.agrees in
      let c = passes_behind P main cells z set_ run lively b.agrees a.passes_are in
      let x = b.falls in
      let y = c.falls in
      record {
        count = e.count;
        state = a.state;
        turn = record { middle = e.state; takes = e.takes; no_more = e.none; lists = a.done_; behind = a.passes_are };
        agrees = c.agrees;
        falls = omega (arith, x, y);
      }

  pub record AllTurns (s : State S) (p : List ℕ) : Type 0 where
    pub begun : List (List ℕ)
    pub state : State S
    pub are : Turns P s p begun state

  with_turn : (s : State S) (p : List ℕ) (t : Turned p s) → ((q : List ℕ) → Candidate P t.state q → AllTurns t.state q) → AllTurns s p
  with_turn s p t on = go (next_is P s t.state)
    where
      more : (q : List ℕ) → IsNext P s t.state q → AllTurns t.state q → AllTurns s p
      more q n r = record { begun = begun_by s p t.count ++ r.begun; state = r.state; are = goes_on t.turn n r.are refl }

      go : ((q : List ℕ) × IsNext P s t.state q) ⊎ ((q : List ℕ) → Candidate P t.state q → ⊥) → AllTurns s p
      go (inl n) = more n.0 n.1 (on n.0 (next_can P n.0 n.1))
      go (inr none) = record { begun = begun_by s p t.count; state = t.state; are = ends t.turn none refl }

  turns_from : (fuel : ℕ) (s : State S) (p : List ℕ) → Candidate P s p → Agrees P main cells z s → left lively s < fuel → AllTurns s p
  turns_from zero s p c agrees l = absurd (omega (arith, l))
  turns_from (suc fuel) s p c agrees l =
      let t = turned p s agrees in
      let some = some_steps P p s t.turn.middle t.count t.turn.takes t.turn.no_more c in
      let f = t.falls in
      with_turn s p t (λ q d. turns_from fuel t.state q d t.agrees (omega (arith, l, f, some)))

  pub all_turns : (s : State S) (p : List ℕ) → Agrees P main cells z s → AllTurns s p
  all_turns s p agrees = let t = turned p s agrees in with_turn s p t (λ q d. turns_from (suc (left lively t.state)) t.state q d t.agrees (omega arith))

pub has_order : (S : Type 0) → HasOrder S
has_order S P main cells set_ lively =
    let first : Running S = record { state = opening main cells; active = []; printed = [] } in
    let r = all_turns P main cells first set_ sequence.opens lively (opening main cells) [] (opening_agrees P main cells first set_ sequence.opens) in
    (map written r.begun, record { begun = r.begun; state = r.state; runs = r.are; order_is = refl })
