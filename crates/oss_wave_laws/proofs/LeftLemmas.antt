-- Each move leaves less to do.
use Rattle.std.proofs.Common.{◌≡◌, ◌≢◌, ℕ, zero, suc, ◌+◌, ◌<◌, ◌≤◌, ◌⊎◌, inl, inr, refl, sym, subst, ap, ◌∙◌, arith, List, [], ◌∷◌, length, Bool, true, false}
use Rattle.std.specs.Prelude.{◌==◌, ◌&&◌, ◌||◌, not}
use Rattle.std.proofs.lemmas.Bool.Decides.{nat_tests}
use Rattle.oss_syntax.specs.declared.access.Mode.{Mode}
use Rattle.oss_syntax.specs.declared.access.Mode.TheVariants.{Fold}
use Rattle.oss_model.specs.Order.{IsIn, here, there}
use Rattle.oss_model.specs.Rights.{Right, Holds}
use Rattle.oss_model.specs.Context.{right_of}
use Rattle.oss_model.specs.Bodies.{Order, Program, Start, IsHalt}
use Rattle.oss_model.specs.Bodies.Act.{Created}
use Rattle.oss_model.specs.Machine.{Task, State, At}
use Rattle.oss_model.specs.Moves.{act_now, created_now, found_by, after_answer, after_giving, new_task, CanStep, TaskStep, Stepped, GaveUp, Moved, steps, lets, joins, opening}
use Rattle.oss_model.specs.Sequence.{Running, Sequential, opens}
use Rattle.oss_model.specs.Agreement.{Setting, Agrees}
use Rattle.oss_model.specs.Termination.{IsLively}
use Rattle.oss_model.specs.Potential.{times, one_if, potential}
use Rattle.oss_model.proofs.AgreementTheorem.{moved_agrees, opening_agrees}
use Rattle.oss_model.proofs.MoveLemmas.{is_creation, StepView, own, new, old, step_view, others_forth, fresh_child, GaveUpView, gave_view, MayGive, let_may, join_may}
use Rattle.oss_model.proofs.PotentialLemmas.{body_falls, creation_falls}
use Rattle.oss_model.proofs.RecallLemmas.{right_in_memory}
use Rattle.oss_model.proofs.RunLemmas.{not_child, no_creation_path}
use Rattle.oss_model.proofs.TreeLemmas.{path_found}
use Rattle.oss_model.proofs.WeightLemmas.{times_grows}
use Rattle.oss_wave_laws.specs.Left.{is_held, is_given, is_owed, owed, task_left, left, AreTasks, summed, MovesFall, ReachedIn, opens_in, moves_in, EveryRunIsFinite}
use Rattle.oss_wave_laws.proofs.SumLemmas.{in_cases, in_none, chosen, weighed_chosen, listed, Without, without, weights_are_summed}

times_next : (n k : ℕ) → times (n + 1) k ≡ k + times n k
unfolding times
times_next n k = let e : n + 1 ≡ suc n = omega arith in ap (λ z. times z k) e

times_plus : (a b k : ℕ) → times (a + b) k ≡ times a k + times b k
unfolding times
times_plus zero b k = let e : zero + b ≡ b = omega arith in ap (λ z. times z k) e ∙ omega arith
times_plus (suc a) b k = let e : suc a + b ≡ suc (a + b) = omega arith in let r = times_plus a b k in ap (λ z. times z k) e ∙ omega (arith, r)

-- fewer units of a weight leave room for one more
pub times_less : (a b k : ℕ) → a < b → times a k + k ≤ times b k
times_less a b k l =
    let g = times_grows (a + 1) b k (omega (arith, l)) in
    let e = times_next a k in
    omega (arith, g, e)

small : (b : Bool) → one_if b ≤ 1
unfolding one_if
small true = omega arith
small false = omega arith

pub owed_bound : {S : Type 0} (t : Task S) (n : ℕ) → owed t n ≤ n
unfolding owed
owed_bound t zero = omega arith
owed_bound t (suc n) = let r = owed_bound t n in let s = small (is_owed t n) in omega (arith, r, s)

pub owed_answered : {S : Type 0} (t : Task S) (v n : ℕ) → owed (after_answer v t) n ≡ owed t n
unfolding owed
owed_answered t v zero = refl
owed_answered t v (suc n) = ap (λ (k : ℕ). one_if (is_owed t n) + k) (owed_answered t v n)

given_in : (xs : List ℕ) (c : ℕ) → is_given xs c ≡ true → IsIn c xs
given_in [] c e = cc
given_in (x ∷ xs) c e = go (x == c) refl (λ k. given_in xs c k)
  where
    go : (b : Bool) → (x == c) ≡ b → (is_given xs c ≡ true → IsIn c xs) → IsIn c (x ∷ xs)
    go true k f = let q : x ≡ c = grind (arith, nat_tests, k) in subst (λ (y : ℕ). IsIn y (x ∷ xs)) q here
    go false k f = there (f (rw k at e))

not_given : (xs : List ℕ) (c : ℕ) → (IsIn c xs → ⊥) → is_given xs c ≡ false
not_given xs c h = go (is_given xs c) refl
  where
    go : (b : Bool) → is_given xs c ≡ b → is_given xs c ≡ false
    go true e = absurd (h (given_in xs c e))
    go false e = e

held_is : (r : Right) (m : Mode) (strong : Bool) → r ≡ Holds m strong → is_held r ≡ true
held_is r m strong e = rw e refl

-- what is owed of one cell when another is given up
one_gives : {S : Type 0} (c : ℕ) (t : Task S) (n : ℕ) → one_if (is_owed (after_giving c t) n) ≤ one_if (is_owed t n)
unfolding one_if
one_gives c t n = go (is_held (right_of t.body.start.context n)) (c == n) (is_given t.given n)
  where
    go : (h d g : Bool) → one_if (h && not (d || g)) ≤ one_if (h && not g)
    go true true true = omega arith
    go true true false = omega arith
    go true false g = omega arith
    go false d g = omega arith

one_gone : {S : Type 0} (c : ℕ) (t : Task S) → is_held (right_of t.body.start.context c) ≡ true → is_given t.given c ≡ false → (one_if (is_owed (after_giving c t) c) ≡ 0) × (one_if (is_owed t c) ≡ 1)
unfolding one_if
one_gone c t h g = let e : (c == c) ≡ true = grind (arith, nat_tests) in (rw (h, e) refl, rw (h, g) refl)

owed_less : {S : Type 0} (c : ℕ) (t : Task S) (n : ℕ) → owed (after_giving c t) n ≤ owed t n
unfolding owed
owed_less c t zero = omega arith
owed_less c t (suc n) = let r = owed_less c t n in let s = one_gives c t n in omega (arith, r, s)

pub owed_gives : {S : Type 0} (c : ℕ) (t : Task S) (n : ℕ) → c < n → is_held (right_of t.body.start.context c) ≡ true → (IsIn c t.given → ⊥) → owed (after_giving c t) n < owed t n
unfolding owed
owed_gives c t zero l h k = absurd (omega (arith, l))
owed_gives {S = S} c t (suc n) l h k = go (which c n l) (λ m. owed_gives c t n m h k)
  where
    which : (a b : ℕ) → a < suc b → (a ≡ b) ⊎ (a < b)
    which a b m = grind (arith, m)

    go : (c ≡ n) ⊎ (c < n) → (c < n → owed (after_giving c t) n < owed t n) → one_if (is_owed (after_giving c t) n) + owed (after_giving c t) n < one_if (is_owed t n) + owed t n
    go (inl e) f =
        let g = one_gone c t h (not_given t.given c k) in
        let r = owed_less c t n in
        let a : one_if (is_owed (after_giving c t) n) ≡ 0 = subst (λ (d : ℕ). one_if (is_owed (after_giving c t) d) ≡ 0) e g.0 in
        let b : one_if (is_owed t n) ≡ 1 = subst (λ (d : ℕ). one_if (is_owed t d) ≡ 1) e g.1 in
        omega (arith, r, a, b)
    go (inr m) f = let r = f m in let s = one_gives c t n in omega (arith, r, s)

module _ {S : Type 0} (P : Program S) (lively : IsLively P) (n : ℕ) where
  abbrev weight : Task S → ℕ
  weight t = task_left lively n t

  -- an act that makes no task
  pub act_less : (t : Task S) (v : ℕ) → (IsHalt (act_now P t.body) → ⊥) → ((o : Order S) → act_now P t.body ≢ Created o false) → weight (after_answer v t) < weight t
  unfolding task_left
  act_less t v g none =
      let f = body_falls P lively t v g none in
      let l = times_less (potential lively (after_answer v t).body) (potential lively t.body) (n + 1) f in
      let o = owed_answered t v n in
      omega (arith, l, o)

  -- a creation, and the new task
  pub creation_less : (t : Task S) (v : ℕ) (o : Order S) → act_now P t.body ≡ Created o false → weight (after_answer v t) + weight (new_task P t.body o) < weight t
  unfolding task_left
  creation_less t v o a =
      let f = creation_falls P lively t v o a in
      let x = potential lively (after_answer v t).body in
      let y = potential lively (new_task P t.body o).body in
      let l = times_less (x + y) (potential lively t.body) (n + 1) f in
      let p = times_plus x y (n + 1) in
      let b = owed_bound (new_task P t.body o) n in
      let e = owed_answered t v n in
      omega (arith, l, p, b, e)

  -- a cell that is given up
  pub giving_less : (t : Task S) (c : ℕ) (m : Mode) (strong : Bool) → c < n → right_of t.body.start.context c ≡ Holds m strong → (IsIn c t.given → ⊥) → weight (after_giving c t) < weight t
  unfolding task_left
  giving_less t c m strong l r k =
      let g = owed_gives c t n l (held_is (right_of t.body.start.context c) m strong r) k in
      omega (arith, g)

module _ {S : Type 0} (P : Program S) (main : Start S) (s n : State S) where
  no_member : {u : Task S} → IsIn u [] → ⊥
  no_member h = in_none h

  module _ (xs : List (Task S)) (are : AreTasks s xs) (p : List ℕ) (t : Task S) (at_ : At s p t) where
    abbrev pub out : Without t xs
    out = without t xs are.once (are.all p t at_)

    path_t : t.body.start.path ≡ p
    path_t = path_found s.tasks p t at_

    -- another task of s is among the rest
    among : (q : List ℕ) (u : Task S) → q ≢ p → At s q u → IsIn u out.rest
    among q u ne h = pick (out.keeps u (are.all q u h))
      where
        pick : (u ≡ t) ⊎ IsIn u out.rest → IsIn u out.rest
        pick (inl e) = absurd (ne (sym (path_found s.tasks q u h) ∙ (ap (λ (x : Task S). x.body.start.path) e ∙ path_t)))
        pick (inr k) = k

    -- and the rest are other tasks of s
    rest_at : (u : Task S) → IsIn u out.rest → At s u.body.start.path u
    rest_at u h = are.only u (out.only u h)

    rest_other : (u : Task S) → IsIn u out.rest → u.body.start.path ≢ p
    rest_other u h e = out.others u h (e ∙ sym path_t)

    -- the tasks after a cell was given up
    pub giving_tasks : (c : ℕ) → ((q : List ℕ) (u : Task S) → At n q u → GaveUpView s p c t q u) → GaveUp s p c t n → AreTasks n (after_giving c t ∷ out.rest)
    giving_tasks c view gave = record {
      all = λ q u h. in_view q u (view q u h);
      only = λ u h. at_own u (in_cases h);
      once = (out.others, out.once);
    }
      where
        in_view : (q : List ℕ) (u : Task S) → GaveUpView s p c t q u → IsIn u (after_giving c t ∷ out.rest)
        in_view q u GaveUpView.own = here
        in_view q u (GaveUpView.old ne h) = there (among q u ne h)

        at_own : (u : Task S) → (u ≡ after_giving c t) ⊎ IsIn u out.rest → At n u.body.start.path u
        at_own u (inl e) = subst (λ (x : Task S). At n x.body.start.path x) (sym e) (subst (λ (q : List ℕ). At n q (after_giving c t)) (sym path_t) gave.own)
        at_own u (inr k) = gave.others u.body.start.path (rest_other u k) ∙ rest_at u k

    module _ (v : ℕ) (made : (q : List ℕ) (u : Task S) → At n q u → StepView P s p t v q u) (forth : (q : List ℕ) (u : Task S) → q ≢ p → At s q u → At n q u) (step : TaskStep P s p t v n) where
      own_at : At n t.body.start.path (after_answer v t)
      own_at = subst (λ (q : List ℕ). At n q (after_answer v t)) (sym path_t) step.own

      -- the tasks after an act that makes none
      pub plain_tasks : ((o : Order S) → act_now P t.body ≢ Created o false) → AreTasks n (after_answer v t ∷ out.rest)
      plain_tasks none = record {
        all = λ q u h. in_view q u (made q u h);
        only = λ u h. at_own u (in_cases h);
        once = (out.others, out.once);
      }
        where
          in_view : (q : List ℕ) (u : Task S) → StepView P s p t v q u → IsIn u (after_answer v t ∷ out.rest)
          in_view q u own = here
          in_view q u (new o a) = absurd (none o a)
          in_view q u (old ne h) = there (among q u ne h)

          at_own : (u : Task S) → (u ≡ after_answer v t) ⊎ IsIn u out.rest → At n u.body.start.path u
          at_own u (inl e) = subst (λ (x : Task S). At n x.body.start.path x) (sym e) own_at
          at_own u (inr k) = forth u.body.start.path u (rest_other u k) (rest_at u k)

      -- and after a creation
      pub grown_tasks : (o : Order S) → act_now P t.body ≡ Created o false → ((u : Task S) → At s (created_now P t.body ∷ p) u → ⊥) → AreTasks n (after_answer v t ∷ new_task P t.body o ∷ out.rest)
      grown_tasks o a fresh = record {
        all = λ q u h. in_view q u (made q u h);
        only = λ u h. at_own u (in_cases h);
        once = ((λ u h. not_own u (in_cases h)), ((λ u h. not_new u h), out.once));
      }
        where
          new_path : (new_task P t.body o).body.start.path ≡ created_now P t.body ∷ p
          new_path = no_creation_path P t.body.start t.body.found o ∙ ap (λ (q : List ℕ). created_now P t.body ∷ q) path_t

          one : (q : Order S) → act_now P t.body ≡ Created q false → q ≡ o
          one q b = let e : Created q false ≡ Created o false = sym b ∙ a in cc

          in_view : (q : List ℕ) (u : Task S) → StepView P s p t v q u → IsIn u (after_answer v t ∷ new_task P t.body o ∷ out.rest)
          in_view q u own = here
          in_view q u (new o2 b) = there (subst (λ (x : Order S). IsIn (new_task P t.body o2) (new_task P t.body x ∷ out.rest)) (one o2 b) here)
          in_view q u (old ne h) = there (there (among q u ne h))

          at_rest : (u : Task S) → (u ≡ new_task P t.body o) ⊎ IsIn u out.rest → At n u.body.start.path u
          at_rest u (inl e) = subst (λ (x : Task S). At n x.body.start.path x) (sym e) (subst (λ (q : List ℕ). At n q (new_task P t.body o)) (sym new_path) (step.made o a))
          at_rest u (inr k) = forth u.body.start.path u (rest_other u k) (rest_at u k)

          at_own : (u : Task S) → (u ≡ after_answer v t) ⊎ IsIn u (new_task P t.body o ∷ out.rest) → At n u.body.start.path u
          at_own u (inl e) = subst (λ (x : Task S). At n x.body.start.path x) (sym e) own_at
          at_own u (inr k) = at_rest u (in_cases k)

          not_own : (u : Task S) → (u ≡ new_task P t.body o) ⊎ IsIn u out.rest → u.body.start.path ≢ t.body.start.path
          not_own u (inl e) f = not_child (created_now P t.body) p (sym path_t ∙ (sym f ∙ (ap (λ (x : Task S). x.body.start.path) e ∙ new_path)))
          not_own u (inr k) f = out.others u k f

          not_new : (u : Task S) → IsIn u out.rest → u.body.start.path ≢ (new_task P t.body o).body.start.path
          not_new u k f = fresh u (subst (λ (q : List ℕ). At s q u) (f ∙ new_path) (rest_at u k))

module _ {S : Type 0} (P : Program S) (main : Start S) (cells : List ℕ) (z : Running S) (set_ : Setting main cells) (run : Sequential P main cells z) (lively : IsLively P) where
  module _ (s n : State S) (agrees : Agrees P main cells z s) where
    abbrev w : Task S → ℕ
    w t = task_left lively (length s.cells) t

    abbrev xs : List (Task S)
    xs = chosen [] s.tasks

    -- what is left, by any list of the tasks of n
    by_list : (ys : List (Task S)) → AreTasks n ys → length n.cells ≡ length s.cells → summed w ys < summed w xs → left lively n < left lively s
    unfolding left
    by_list ys of_n same_size l =
        let e = weights_are_summed S n ys (task_left lively (length n.cells)) of_n in
        let f : summed (task_left lively (length n.cells)) ys ≡ summed w ys = ap (λ (k : ℕ). summed (task_left lively k) ys) same_size in
        let g = weighed_chosen w [] s.tasks in
        omega (arith, e, f, g, l)

    module _ (same_size : length n.cells ≡ length s.cells) (p : List ℕ) (t : Task S) (can : CanStep P s p t) (step : Stepped P s p t n) where
      abbrev v : ℕ
      v = found_by (act_now P t.body) s.cells

      abbrev r : Without t xs
      r = without t xs (listed s).once ((listed s).all p t can.at_)

      view : (q : List ℕ) (u : Task S) → At n q u → StepView P s p t v q u
      view q u h = step_view P main s n p t v agrees.made can.at_ can.goes step.tasks q u h

      forth : (q : List ℕ) (u : Task S) → q ≢ p → At s q u → At n q u
      forth q u ne h = others_forth P main s n p t v agrees.made can.at_ can.goes step.tasks q u ne h

      step_falls : left lively n < left lively s
      unfolding summed
      step_falls = by_act (is_creation (act_now P t.body))
        where
          by_act : ((o : Order S) × (act_now P t.body ≡ Created o false)) ⊎ ((o : Order S) → act_now P t.body ≢ Created o false) → left lively n < left lively s
          by_act (inl o) =
              let l = creation_less P lively (length s.cells) t v o.0 o.1 in
              let e = r.sum w in
              by_list (after_answer v t ∷ new_task P t.body o.0 ∷ r.rest)
              (grown_tasks P main s n xs (listed s) p t can.at_ v view forth step.tasks o.0 o.1 (λ u h. fresh_child P main s p t u agrees.made can.at_ h)) same_size (omega (arith, l, e))
          by_act (inr none) =
              let l = act_less P lively (length s.cells) t v can.goes none in
              let e = r.sum w in
              by_list (after_answer v t ∷ r.rest) (plain_tasks P main s n xs (listed s) p t can.at_ v view forth step.tasks none) same_size (omega (arith, l, e))

    giving_falls : length n.cells ≡ length s.cells → (p : List ℕ) (c : ℕ) (t : Task S) (m : Mode) (strong : Bool) → At s p t → right_of t.body.start.context c ≡ Holds m strong → (IsIn c t.given → ⊥) → MayGive P s p c t → GaveUp s p c t n → left lively n < left lively s
    unfolding summed
    giving_falls same_size p c t m strong at_ right kept may gave =
        let r = without t xs (listed s).once ((listed s).all p t at_) in
        let inside = right_in_memory P main s cells c p m agrees.made set_.memory (record { task = t; at_ = at_; strong = strong; right = right }) in
        let k = agrees.size in
        let l = giving_less P lively (length s.cells) t c m strong (omega (arith, inside, k)) right kept in
        let e = r.sum w in
        by_list (after_giving c t ∷ r.rest)
        (giving_tasks P main s n xs (listed s) p t at_ c (λ q u h. gave_view P main s n p c t agrees.made agrees.started at_ may gave q u h) gave) same_size (omega (arith, l, e))

    falls : length n.cells ≡ length s.cells → Moved P s n → left lively n < left lively s
    falls same_size (steps {p = p} {t = t} can step) = step_falls same_size p t can step
    falls same_size (lets {p = p} {c = c} {t = t} can go) = giving_falls same_size p c t can.mode can.strong can.at_ can.right can.kept (let_may P s p c t can) go.tasks
    falls same_size (joins {p = p} {c = c} {op = op} {t = t} can go) = giving_falls same_size p c t (Fold op) true can.at_ can.right can.kept (join_may P s p c op t can) go.tasks

  pub moves_fall_at : (s n : State S) → Agrees P main cells z s → Moved P s n → left lively n < left lively s
  moves_fall_at s n agrees moved = falls s n agrees ((moved_agrees P main cells z set_ run s n agrees moved).size ∙ sym agrees.size) moved

pub moves_fall : (S : Type 0) → MovesFall S
moves_fall S P main cells z s n lively set_ run agrees moved = moves_fall_at P main cells z set_ run lively s n agrees moved

module _ {S : Type 0} (P : Program S) (main : Start S) (cells : List ℕ) (set_ : Setting main cells) (lively : IsLively P) where
  abbrev first : Running S
  first = record { state = opening main cells; active = []; printed = [] }

  in_agrees : (k : ℕ) {s : State S} → ReachedIn P main cells k s → Agrees P main cells first s
  in_agrees zero opens_in = opening_agrees P main cells first set_ opens
  in_agrees (suc k) {s = n} (moves_in {s = s} r m) = moved_agrees P main cells first set_ opens s n (in_agrees k r) m

  pub finite : (k : ℕ) {s : State S} → ReachedIn P main cells k s → k + left lively s ≤ left lively (opening main cells)
  finite zero opens_in = omega arith
  finite (suc k) {s = n} (moves_in {s = s} r m) =
      let a = finite k r in
      let b = moves_fall_at P main cells first set_ opens lively s n (in_agrees k r) m in
      omega (arith, a, b)

pub every_run_is_finite : (S : Type 0) → EveryRunIsFinite S
every_run_is_finite S P main cells k s lively set_ r = finite P main cells set_ lively k r
