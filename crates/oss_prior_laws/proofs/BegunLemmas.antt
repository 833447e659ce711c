-- The tasks that begin in a run by turns: each that has begun at its end, and each once.
use Rattle.std.proofs.Common.{◌≡◌, ◌≢◌, ℕ, zero, suc, ◌<◌, ◌⊎◌, inl, inr, refl, sym, subst, ap, ◌∙◌, arith, List, [], ◌∷◌, ◌++◌, Bool, true, false, if◌then◌else◌, Some, None, Option}
use Rattle.oss_syntax.specs.declared.access.Op.{Op}
use Rattle.oss_model.specs.Order.{IsIn, here, there}
use Rattle.oss_model.specs.Bodies.{Order, Program, Start, stack_from}
use Rattle.oss_model.specs.Bodies.Act.{Created}
use Rattle.oss_model.specs.Machine.{Task, State, At, IsComplete, complete, find, same_path}
use Rattle.oss_model.specs.Moves.{act_now, created_now, found_by, new_task, after_answer, after_giving, CanStep, Stepped, GaveUp, Moved, opening, steps, lets, joins}
use Rattle.oss_model.specs.Sequence.{Running, Sequential}
use Rattle.oss_model.specs.Sequence as sequence
use Rattle.oss_model.specs.Agreement.{Setting, Agrees}
use Rattle.oss_model.specs.Answers.{IsFinished}
use Rattle.oss_model.proofs.AgreementTheorem.{moved_agrees, opening_agrees}
use Rattle.oss_model.proofs.MoveLemmas.{StepView, new, old, others_forth, own, step_view, which_path}
use Rattle.oss_model.proofs.TreeLemmas.{at_same}
use Rattle.oss_wave_laws.specs.Waves.{Takes, takes_more, takes_none}
use Rattle.oss_wave_laws.specs.Passes.{GivenUp, Passes, Place, Visits, gives, idles, keeps, merges, passes, visits_none}
use Rattle.oss_wave_laws.proofs.SumLemmas.{in_none}
use Rattle.oss_prior_laws.specs.Turns.{AreOnce, Turn, Turns, answers_of, begun_by, ends, first_step, goes_on}
use Rattle.oss_prior_laws.specs.Claims.{EachBeginsOnce}

-- the task has found an answer
record HasBegun {S : Type 0} (s : State S) (q : List ℕ) : Type 0 where
  pub task : Task S
  pub at_ : At s q task
  pub some : task.body.found ≢ []

in_either : {q : List ℕ} (xs ys : List (List ℕ)) → IsIn q (xs ++ ys) → IsIn q xs ⊎ IsIn q ys
in_either [] ys i = inr i
in_either (x ∷ xs) ys here = inl here
in_either {q = q} (x ∷ xs) ys (there i) = go (in_either xs ys i)
  where
    go : IsIn q xs ⊎ IsIn q ys → IsIn q (x ∷ xs) ⊎ IsIn q ys
    go (inl j) = inl (there j)
    go (inr j) = inr j

in_front : {q : List ℕ} (xs ys : List (List ℕ)) → IsIn q xs → IsIn q (xs ++ ys)
in_front {q = q} [] ys i = elim i [ ]
in_front (x ∷ xs) ys here = here
in_front (x ∷ xs) ys (there i) = there (in_front xs ys i)

in_back : {q : List ℕ} (xs ys : List (List ℕ)) → IsIn q ys → IsIn q (xs ++ ys)
in_back [] ys i = i
in_back (x ∷ xs) ys i = there (in_back xs ys i)

-- two such lists with nothing in common are one such list
once_both : (xs ys : List (List ℕ)) → AreOnce xs → AreOnce ys → ((q : List ℕ) → IsIn q xs → IsIn q ys → ⊥) → AreOnce (xs ++ ys)
once_both [] ys a b apart = b
once_both (x ∷ xs) ys a b apart = (λ i. go (in_either xs ys i), once_both xs ys a.1 b (λ q i j. apart q (there i) j))
  where
    go : IsIn x xs ⊎ IsIn x ys → ⊥
    go (inl i) = a.0 i
    go (inr i) = apart x here i

-- a task in a list of first steps is the task, which had found no answer before a step
record IsFirst (q p xs : List ℕ) (k : ℕ) : Type 0 where
  pub same : q ≡ p
  pub none : xs ≡ []
  pub some : 0 < k

first_in : {q : List ℕ} (p xs : List ℕ) (k : ℕ) → IsIn q (first_step p xs k) → IsFirst q p xs k
first_in p [] zero i = absurd (in_none i)
first_in p [] (suc k) here = record { same = refl; none = refl; some = omega arith }
first_in p [] (suc k) (there i) = absurd (in_none i)
first_in p (x ∷ xs) zero i = absurd (in_none i)
first_in p (x ∷ xs) (suc k) i = absurd (in_none i)

first_once : (p xs : List ℕ) (k : ℕ) → AreOnce (first_step p xs k)
first_once p [] zero = tt
first_once p [] (suc k) = (λ i. in_none i, tt)
first_once p (x ∷ xs) zero = tt
first_once p (x ∷ xs) (suc k) = tt

is_first : (p xs : List ℕ) (k : ℕ) → xs ≡ [] → 0 < k → IsIn p (first_step p xs k)
is_first p [] zero e l = absurd (omega (arith, l))
is_first p [] (suc k) e l = here
is_first p (x ∷ xs) k e l = absurd (cc)

no_answers : (xs : List ℕ) → (xs ≡ []) ⊎ (xs ≢ [])
no_answers [] = inl refl
no_answers (x ∷ xs) = inr (λ e. cc)

module _ {S : Type 0} (P : Program S) (main : Start S) (cells : List ℕ) (z : Running S) (set_ : Setting main cells) (run : Sequential P main cells z) where
  -- one step: who has begun behind it had begun before, or makes it
  step_begun : {s n : State S} (q p : List ℕ) (t : Task S) → Agrees P main cells z s → CanStep P s p t → Stepped P s p t n → HasBegun n q → HasBegun s q ⊎ (q ≡ p)
  step_begun {s = s} {n = n} q p t agrees can step b = from q b.task (step_view P main s n p t (found_by (act_now P t.body) s.cells) agrees.made can.at_ can.goes step.tasks q b.task b.at_) b.some
    where
      from : (r : List ℕ) (u : Task S) → StepView P s p t (found_by (act_now P t.body) s.cells) r u → u.body.found ≢ [] → HasBegun s r ⊎ (r ≡ p)
      from r u own f = inr refl
      from r u (new o e) f = absurd (f refl)
      from r u (old ne h) f = inl (record { task = u; at_ = h; some = f })

  step_keeps : {s n : State S} (q p : List ℕ) (t : Task S) → Agrees P main cells z s → CanStep P s p t → Stepped P s p t n → HasBegun s q → HasBegun n q
  step_keeps {s = s} {n = n} q p t agrees can step b = go (which_path q p)
    where
      v : ℕ
      v = found_by (act_now P t.body) s.cells

      go : (q ≡ p) ⊎ (q ≢ p) → HasBegun n q
      go (inl e) = record { task = after_answer v t; at_ = subst (λ (r : List ℕ). At n r (after_answer v t)) (sym e) step.tasks.own; some = λ f. cc }
      go (inr ne) = record { task = b.task; at_ = others_forth P main s n p t v agrees.made can.at_ can.goes step.tasks q b.task ne b.at_; some = b.some }

  step_own : {s n : State S} (p : List ℕ) (t : Task S) → Stepped P s p t n → HasBegun n p
  step_own {s = s} p t step = record { task = after_answer (found_by (act_now P t.body) s.cells) t; at_ = step.tasks.own; some = λ f. cc }

  -- a gift leaves it to whom it was
  gift_begun : {s n : State S} (q p : List ℕ) (c : ℕ) (t : Task S) → At s p t → GaveUp s p c t n → HasBegun n q → HasBegun s q
  gift_begun {s = s} {n = n} q p c t at_ gave b = go (which_path q p)
    where
      go : (q ≡ p) ⊎ (q ≢ p) → HasBegun s q
      go (inl e) =
          let one : b.task ≡ after_giving c t = at_same n p b.task (after_giving c t) (subst (λ (r : List ℕ). At n r b.task) e b.at_) gave.own in
          record { task = t; at_ = subst (λ (r : List ℕ). At s r t) (sym e) at_; some = λ f. b.some (ap (λ (u : Task S). u.body.found) one ∙ f) }
      go (inr ne) = record { task = b.task; at_ = sym (gave.others q ne) ∙ b.at_; some = b.some }

  gift_keeps : {s n : State S} (q p : List ℕ) (c : ℕ) (t : Task S) → At s p t → GaveUp s p c t n → HasBegun s q → HasBegun n q
  gift_keeps {s = s} {n = n} q p c t at_ gave b = go (which_path q p)
    where
      go : (q ≡ p) ⊎ (q ≢ p) → HasBegun n q
      go (inl e) =
          let one : b.task ≡ t = at_same s p b.task t (subst (λ (r : List ℕ). At s r b.task) e b.at_) at_ in
          record { task = after_giving c t; at_ = subst (λ (r : List ℕ). At n r (after_giving c t)) (sym e) gave.own; some = λ f. b.some (ap (λ (u : Task S). u.body.found) one ∙ f) }
      go (inr ne) = record { task = b.task; at_ = gave.others q ne ∙ b.at_; some = b.some }

  -- what holds from one state of a run to a later one, in which this task alone has made steps, so many of them
  record Behind (p : List ℕ) (k : ℕ) (s n : State S) : Type 0 where
    pub agrees : Agrees P main cells z n
    pub only : (q : List ℕ) → HasBegun n q → HasBegun s q ⊎ ((q ≡ p) × (0 < k))
    pub keeps_all : (q : List ℕ) → HasBegun s q → HasBegun n q
    pub own_one : 0 < k → HasBegun n p

  at_once : (p : List ℕ) (s : State S) → Agrees P main cells z s → Behind p zero s s
  at_once p s agrees = record { agrees = agrees; only = λ q b. inl b; keeps_all = λ q b. b; own_one = λ l. absurd (omega (arith, l)) }

  one_more : {p : List ℕ} {k : ℕ} {s a n : State S} {t : Task S} → Behind p k s a → CanStep P a p t → Stepped P a p t n → Behind p (suc k) s n
  one_more {p = p} {k = k} {s = s} {a = a} {n = n} {t = t} h can step = record {
    agrees = moved_agrees P main cells z set_ run a n h.agrees (steps can step);
    only = λ q b. go q (step_begun q p t h.agrees can step b);
    keeps_all = λ q b. step_keeps q p t h.agrees can step (h.keeps_all q b);
    own_one = λ l. step_own p t step;
  }
    where
      earlier : (q : List ℕ) → HasBegun s q ⊎ ((q ≡ p) × (0 < k)) → HasBegun s q ⊎ ((q ≡ p) × (0 < suc k))
      earlier q (inl b) = inl b
      earlier q (inr e) = inr (e.0, omega arith)

      go : (q : List ℕ) → HasBegun a q ⊎ (q ≡ p) → HasBegun s q ⊎ ((q ≡ p) × (0 < suc k))
      go q (inl b) = earlier q (h.only q b)
      go q (inr e) = inr (e, omega arith)

  by_takes : (p : List ℕ) (k : ℕ) {s n : State S} → Agrees P main cells z s → Takes P p s k n → Behind p k s n
  by_takes p zero {s = s} agrees takes_none = at_once p s agrees
  by_takes p (suc k) agrees (takes_more r can step) = one_more (by_takes p k agrees r) can step

  by_gift : {p : List ℕ} {k : ℕ} {s a n : State S} (r : List ℕ) (c : ℕ) (t : Task S) → Behind p k s a → At a r t → GaveUp a r c t n → Moved P a n → Behind p k s n
  by_gift {p = p} {k = k} {s = s} {a = a} {n = n} r c t h at_ gave m = record {
    agrees = moved_agrees P main cells z set_ run a n h.agrees m;
    only = λ q b. h.only q (gift_begun q r c t at_ gave b);
    keeps_all = λ q b. gift_keeps q r c t at_ gave (h.keeps_all q b);
    own_one = λ l. gift_keeps p r c t at_ gave (h.own_one l);
  }

  by_visits : {p : List ℕ} {k : ℕ} {s : State S} (places : List Place) {a n : State S} {done : List GivenUp} → Behind p k s a → Visits P a places done n → Behind p k s n
  by_visits [] h visits_none = h
  by_visits (x ∷ rest) h (keeps e v) = by_visits rest h v
  by_visits (x ∷ rest) h (gives {t = t} can go v) = by_visits rest (by_gift x.path x.cell t h can.at_ go.tasks (lets can go)) v
  by_visits (x ∷ rest) h (merges {t = t} can go v) = by_visits rest (by_gift x.path x.cell t h can.at_ go.tasks (joins can go)) v

  by_passes : {p : List ℕ} {k : ℕ} {s a n : State S} {lists : List (List GivenUp)} → Behind p k s a → Passes P a lists n → Behind p k s n
  by_passes h (idles a) = by_visits a.places h a.visits
  by_passes h (passes a r) = by_passes (by_visits a.places h a.visits) r

  behind_turn : {s n : State S} (p : List ℕ) (k : ℕ) → Agrees P main cells z s → Turn P s p k n → Behind p k s n
  behind_turn p k agrees a = by_passes (by_takes p k agrees a.takes) a.behind

  -- from one state to the other these tasks begin, each once
  record Begin (s n : State S) (begun : List (List ℕ)) : Type 0 where
    pub once : AreOnce begun
    pub only : (q : List ℕ) → HasBegun n q → HasBegun s q ⊎ IsIn q begun
    pub keeps_all : (q : List ℕ) → HasBegun s q → HasBegun n q
    pub fresh : (q : List ℕ) → IsIn q begun → HasBegun s q → ⊥
    pub are : (q : List ℕ) → IsIn q begun → HasBegun n q

  turn_begins : {s n : State S} (p : List ℕ) (k : ℕ) → Behind p k s n → Begin s n (begun_by s p k)
  turn_begins {s = s} {n = n} p k h = record {
    once = first_once p (answers_of (find s.tasks p)) k;
    only = λ q b. go q (h.only q b);
    keeps_all = h.keeps_all;
    fresh = λ q i b. let f = first_in p (answers_of (find s.tasks p)) k i in stale (subst (λ (r : List ℕ). HasBegun s r) f.same b) f.none;
    are = λ q i. let f = first_in p (answers_of (find s.tasks p)) k i in subst (λ (r : List ℕ). HasBegun n r) (sym f.same) (h.own_one f.some);
  }
    where
      stale : HasBegun s p → answers_of (find s.tasks p) ≡ [] → ⊥
      stale b e = b.some (sym (ap (λ (o : Option (Task S)). answers_of o) b.at_) ∙ e)

      of_task : (o : Option (Task S)) → find s.tasks p ≡ o → answers_of o ≢ [] → HasBegun s p
      of_task None e f = absurd (f refl)
      of_task (Some t) e f = record { task = t; at_ = e; some = f }

      own_begun : 0 < k → (answers_of (find s.tasks p) ≡ []) ⊎ (answers_of (find s.tasks p) ≢ []) → HasBegun s p ⊎ IsIn p (begun_by s p k)
      own_begun l (inl e) = inr (is_first p (answers_of (find s.tasks p)) k e l)
      own_begun l (inr f) = inl (of_task (find s.tasks p) refl f)

      go : (q : List ℕ) → HasBegun s q ⊎ ((q ≡ p) × (0 < k)) → HasBegun s q ⊎ IsIn q (begun_by s p k)
      go q (inl b) = inl b
      go q (inr e) = subst (λ (r : List ℕ). HasBegun s r ⊎ IsIn r (begun_by s p k)) (sym e.0) (own_begun e.1 (no_answers (answers_of (find s.tasks p))))

  both_begin : {s m n : State S} (xs ys : List (List ℕ)) → Begin s m xs → Begin m n ys → Begin s n (xs ++ ys)
  both_begin {s = s} {m = m} {n = n} xs ys a b = record {
    once = once_both xs ys a.once b.once (λ q i j. b.fresh q j (a.are q i));
    only = λ q h. second q (b.only q h);
    keeps_all = λ q h. b.keeps_all q (a.keeps_all q h);
    fresh = λ q i h. not_before q h (in_either xs ys i);
    are = λ q i. there_ q (in_either xs ys i);
  }
    where
      first : (q : List ℕ) → HasBegun s q ⊎ IsIn q xs → HasBegun s q ⊎ IsIn q (xs ++ ys)
      first q (inl h) = inl h
      first q (inr i) = inr (in_front xs ys i)

      second : (q : List ℕ) → HasBegun m q ⊎ IsIn q ys → HasBegun s q ⊎ IsIn q (xs ++ ys)
      second q (inl h) = first q (a.only q h)
      second q (inr i) = inr (in_back xs ys i)

      not_before : (q : List ℕ) → HasBegun s q → IsIn q xs ⊎ IsIn q ys → ⊥
      not_before q h (inl i) = a.fresh q i h
      not_before q h (inr i) = b.fresh q i (a.keeps_all q h)

      there_ : (q : List ℕ) → IsIn q xs ⊎ IsIn q ys → HasBegun n q
      there_ q (inl i) = b.keeps_all q (a.are q i)
      there_ q (inr i) = b.are q i

  turns_begin : {s n : State S} {p : List ℕ} {begun : List (List ℕ)} → Agrees P main cells z s → Turns P s p begun n → Begin s n begun
  turns_begin {s = s} {n = n} {p = p} agrees (ends {steps = k} a none e) = subst (λ (xs : List (List ℕ)). Begin s n xs) (sym e) (turn_begins p k (behind_turn p k agrees a))
  turns_begin {s = s} {n = n} {p = p} agrees (goes_on {steps = k} {later = later} a next more e) =
      let h = behind_turn p k agrees a in
      subst (λ (xs : List (List ℕ)). Begin s n xs) (sym e) (both_begin (begun_by s p k) later (turn_begins p k h) (turns_begin h.agrees more))

true_false : false ≡ true → ⊥
true_false e = cc

-- at the beginning no task has begun
none_begun : {S : Type 0} (main : Start S) (cells : List ℕ) (q : List ℕ) → HasBegun (opening main cells) q → ⊥
unfolding find
none_begun {S = S} main cells q b = go (same_path main.path q) b.at_
  where
    alone : Task S
    alone = record { body = record { start = main; found = [] }; given = [] }

    some_one : (t u : Task S) → Some t ≡ Some u → t ≡ u
    some_one t u e = cc

    nobody : (u : Task S) → None ≡ Some u → ⊥
    nobody u e = cc

    go : (is : Bool) → (if is then Some alone else None) ≡ Some b.task → ⊥
    go true e = b.some (ap (λ (u : Task S). u.body.found) (sym (some_one alone b.task e)))
    go false e = nobody b.task e

-- what has ended has found an answer
ended_begun : {S : Type 0} (P : Program S) (start : Start S) (xs : List ℕ) → (stack_from P start xs).ended ≡ true → xs ≢ []
unfolding stack_from
ended_begun P start [] e f = true_false e
ended_begun P start (x ∷ xs) e f = cc

complete_begun : {S : Type 0} (P : Program S) (s : State S) (q : List ℕ) → IsComplete P s q → HasBegun s q
complete_begun P s q (complete {t = t} at_ over given below) = record { task = t; at_ = at_; some = ended_begun P t.body.start t.body.found over }

pub each_begins_once : (S : Type 0) → EachBeginsOnce S
each_begins_once S P main cells begun n set_ r =
    let first : Running S = record { state = opening main cells; active = []; printed = [] } in
    let b = turns_begin P main cells first set_ sequence.opens (opening_agrees P main cells first set_ sequence.opens) r in
    (b.once, λ q i. let h = b.are q i in (h.task, h.at_), λ finished q t at_. in_begun q (b.only q (complete_begun P n q (finished q t at_))))
  where
    in_begun : (q : List ℕ) → HasBegun (opening main cells) q ⊎ IsIn q begun → IsIn q begun
    in_begun q (inl h) = absurd (none_begun main cells q h)
    in_begun q (inr i) = i
