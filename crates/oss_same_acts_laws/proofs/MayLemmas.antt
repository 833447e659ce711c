-- What may be done in a state may be done in one that is alike.
use Rattle.std.proofs.Common.{◌≡◌, ℕ, inl, inr, refl, sym, subst, ap, ◌∙◌, List, [], ◌∷◌, true, Option, Some, None}
use Rattle.oss_syntax.specs.declared.access.Op.{Op}
use Rattle.oss_model.specs.Order.{IsIn}
use Rattle.oss_model.specs.Context.{Context, right_of}
use Rattle.oss_model.specs.Bodies.{Program, Act, Frame, Start}
use Rattle.oss_model.specs.Machine.{Task, State, At, find, HasAccess, IsTop, is_top, IsChild, is_child, IsEarlier, is_earlier, HasGiven, accesses, mode_of, mode_in, IsReady, Owes, IsComplete, complete, IsWaitMet}
use Rattle.oss_model.specs.Matching.{Matches, HaveSameFlags}
use Rattle.oss_model.specs.Moves.{act_now, created_now, is_ended, WaitClause, CanStep, IsGone, CanLet, CanJoin, SomeMove, a_step, a_let, a_join}
use Rattle.oss_model.specs.Answers.{IsStopped}
use Rattle.oss_model.proofs.MatchingLemmas.{same_flags}
use Rattle.oss_same_acts_laws.specs.Alike.{AreActsAlike, both_tick, both_load, both_store, both_fold, both_create, both_include, both_await, both_wait, both_wait_on, both_release, both_print, both_end, both_fault, both_over, IsBisimulation, turned, AreTasksAlike, AreFoundAlike, IsAlike}
use Rattle.oss_same_acts_laws.proofs.TurnLemmas.{bisimulation_back, alike_back, at_forth, at_back}
use Rattle.oss_same_acts_laws.proofs.ActLemmas.{halt_back, now, created_alike, right_alike}

module _ {S T : Type 0} (P : Program S) (Q : Program T) (R : Start S → Start T → Type 0) (is : IsBisimulation P Q R) {s : State S} {n : State T} (same : IsAlike R s n) where
  pub access_forth : (c : ℕ) (p : List ℕ) → HasAccess s c p → HasAccess n c p
  access_forth c p a =
      let k = at_forth same p a.task a.at_ in
      record { task = k.0; at_ = k.1; mode = a.mode; strong = a.strong; right = sym (right_alike P Q R is k.2 c) ∙ a.right }

  top_forth : (c : ℕ) (p : List ℕ) → IsTop s c p → IsTop n c p
  top_forth c p (is_top {k = k} h) = is_top (access_forth c (k ∷ []) h)

  pub child_forth : (c : ℕ) (u v : List ℕ) → IsChild s c u v → IsChild n c u v
  child_forth c u v (is_child {k = k} {i = i} {p = p} a b) = is_child (access_forth c (i ∷ p) a) (access_forth c (k ∷ i ∷ p) b)

  pub earlier_forth : (c : ℕ) (u v : List ℕ) → IsEarlier s c u v → IsEarlier n c u v
  earlier_forth c u v (is_earlier {i = i} {p = p} l a) = is_earlier l (access_forth c (i ∷ p) a)

  given_forth : (c : ℕ) (p : List ℕ) → HasGiven s c p → HasGiven n c p
  given_forth c p a =
      let k = at_forth same p a.task a.at_ in
      record { task = k.0; at_ = k.1; given = subst (λ (xs : List ℕ). IsIn c xs) k.2.given a.given }

  pub mode_alike : (o : Option (Task S)) (q : Option (Task T)) (c : ℕ) → AreFoundAlike R o q → mode_in o c ≡ mode_in q c
  mode_alike None None c h = refl
  mode_alike None (Some u) c h = absurd h
  mode_alike (Some t) None c h = absurd h
  mode_alike (Some t) (Some u) c h = ap (λ x. mode_of x) (right_alike P Q R is h c)

-- the forests of states that are alike match
pub forests_match : {S T : Type 0} (P : Program S) (Q : Program T) (R : Start S → Start T → Type 0) → IsBisimulation P Q R → {s : State S} {n : State T} → IsAlike R s n → (c : ℕ)
    → Matches (accesses s c) (accesses n c) (λ u v. u ≡ v)
forests_match P Q R is {s = s} {n = n} same c = record {
  top = λ u v e. ((λ h. subst (λ (x : List ℕ). IsTop n c x) e (top_forth P Q R is same c u h)), (λ h. subst (λ (x : List ℕ). IsTop s c x) (sym e) (top_forth Q P (turned R) si back c v h)));
  child = λ u x v y e f. (
    (λ h. subst (λ (w : List ℕ). IsChild n c w y) e (subst (λ (w : List ℕ). IsChild n c u w) f (child_forth P Q R is same c u x h))),
    (λ h. subst (λ (w : List ℕ). IsChild s c w x) (sym e) (subst (λ (w : List ℕ). IsChild s c v w) (sym f) (child_forth Q P (turned R) si back c v y h))),
  );
  earlier = λ u x v y e f. (
    (λ h. subst (λ (w : List ℕ). IsEarlier n c w y) e (subst (λ (w : List ℕ). IsEarlier n c u w) f (earlier_forth P Q R is same c u x h))),
    (λ h. subst (λ (w : List ℕ). IsEarlier s c w x) (sym e) (subst (λ (w : List ℕ). IsEarlier s c v w) (sym f) (earlier_forth Q P (turned R) si back c v y h))),
  );
  mode = λ u v e. mode_alike P Q R is same (find s.tasks u) (find n.tasks u) c (same.tasks u) ∙ ap (λ (w : List ℕ). mode_in (find n.tasks w) c) e;
  given = λ u v e. ((λ h. subst (λ (x : List ℕ). HasGiven n c x) e (given_forth P Q R is same c u h)), (λ h. subst (λ (x : List ℕ). HasGiven s c x) (sym e) (given_forth Q P (turned R) si back c v h)));
  forth = λ u x v e h. (x, refl);
  back = λ u v y e h. (y, refl);
}
  where
    si : IsBisimulation Q P (turned R)
    si = bisimulation_back is

    back : IsAlike (turned R) n s
    back = alike_back same

-- so accesses are done and satisfied alike
pub flags : {S T : Type 0} (P : Program S) (Q : Program T) (R : Start S → Start T → Type 0) → IsBisimulation P Q R → {s : State S} {n : State T} → IsAlike R s n → (c : ℕ) (p : List ℕ)
    → HaveSameFlags (accesses s c) (accesses n c) p p
flags P Q R is {s = s} {n = n} same c p = same_flags (accesses s c) (accesses n c) (λ u v. u ≡ v) (forests_match P Q R is same c) p p refl

module _ {S T : Type 0} (P : Program S) (Q : Program T) (R : Start S → Start T → Type 0) (is : IsBisimulation P Q R) {s : State S} {n : State T} (same : IsAlike R s n) where
  pub ready_forth : (p : List ℕ) (x : Context) → IsReady s p x → IsReady n p x
  ready_forth [] x h = tt
  ready_forth (k ∷ p) x h = ((λ c r. (flags P Q R is same c (k ∷ p)).read.0 (h.0 c r)), (λ c r. (flags P Q R is same c (k ∷ p)).write.0 (h.1 c r)))

  owes_back : {t : Task S} {u : Task T} → AreTasksAlike R t u → (p : List ℕ) (c : ℕ) → Owes p u.body.start.context c → Owes p t.body.start.context c
  owes_back {t = t} {u = u} h p c o = subst (λ (x : Context). Owes p x c) (sym (is t.body.start u.body.start h.start).context) o

  pub ended_forth : {t : Task S} {u : Task T} → AreTasksAlike R t u → is_ended P t.body ≡ true → is_ended Q u.body ≡ true
  ended_forth h e = sym (now P Q R is h).ended ∙ e

  -- what is complete in the one state is complete in the other
  pub complete_forth : {p : List ℕ} → IsComplete P s p → IsComplete Q n p
  complete_forth {p = p} (complete {t = t} at_ over gives below) =
      let k = at_forth same p t at_ in
      complete k.1 (ended_forth k.2 over) (λ c o. subst (λ (xs : List ℕ). IsIn c xs) k.2.given (gives c (owes_back k.2 p c o)))
      (λ i v a. let w = at_back same (i ∷ p) v a in complete_forth (below i w.0 w.1))

  wait_forth : {f : Frame S} {g : Frame T} {a : Act S} {b : Act T} → AreActsAlike R f g a b → (p : List ℕ) (k : ℕ) → IsWaitMet P s p k a → IsWaitMet Q n p k b
  wait_forth both_wait p k h = λ i u l a. let w = at_back same (i ∷ p) u a in complete_forth (h i w.0 l w.1)
  wait_forth both_await p k h = λ i u e a. let w = at_back same (i ∷ p) u a in complete_forth (h i w.0 e w.1)
  wait_forth both_wait_on p k h = λ i c l e a. (flags P Q R is same c (i ∷ p)).done.0 (h i c l e (access_forth Q P (turned R) (bisimulation_back is) (alike_back same) c (i ∷ p) a))
  wait_forth both_tick p k h = tt
  wait_forth both_load p k h = tt
  wait_forth both_store p k h = tt
  wait_forth both_fold p k h = tt
  wait_forth (both_create r) p k h = tt
  wait_forth both_include p k h = tt
  wait_forth both_release p k h = tt
  wait_forth both_print p k h = tt
  wait_forth both_end p k h = tt
  wait_forth both_fault p k h = tt
  wait_forth both_over p k h = tt

  clause_forth : (p : List ℕ) {t : Task S} {u : Task T} → AreTasksAlike R t u → WaitClause P s p t → WaitClause Q n p u
  clause_forth p {t = t} {u = u} k h = λ w i v a. let x = at_back same (i ∷ p) v a in complete_forth (h ((is t.body.start u.body.start k.start).wait ∙ w) i x.0 x.1)

  gone_forth : (p : List ℕ) (c : ℕ) {t : Task S} {u : Task T} → AreTasksAlike R t u → IsGone P s p c t → IsGone Q n p c u
  gone_forth p c k (inl h) = inl (sym (ap (λ x. right_of x c) (now P Q R is k).context) ∙ h)
  gone_forth p c k (inr h) = inr (ended_forth k h.0, clause_forth p k h.1)

  -- what a task may do its partner may do
  pub can_step_forth : (p : List ℕ) (t : Task S) (u : Task T) → At n p u → AreTasksAlike R t u → CanStep P s p t → CanStep Q n p u
  can_step_forth p t u at_ k can = record {
    at_ = at_;
    goes = λ h. can.goes (halt_back (now P Q R is k).acts h);
    ready = λ e. subst (λ (x : Context). IsReady n p x) (is t.body.start u.body.start k.start).context (ready_forth p t.body.start.context (can.ready (k.found ∙ e)));
    waits = wait_forth (now P Q R is k).acts p (created_now Q u.body) (subst (λ (i : ℕ). IsWaitMet P s p i (act_now P t.body)) (created_alike P Q R is k) can.waits);
  }

  pub can_let_forth : (p : List ℕ) (c : ℕ) (t : Task S) (u : Task T) → At n p u → AreTasksAlike R t u → CanLet P s p c t → CanLet Q n p c u
  can_let_forth p c t u at_ k can = record {
    at_ = at_;
    not_main = can.not_main;
    mode = can.mode;
    strong = can.strong;
    right = sym (right_alike P Q R is k c) ∙ can.right;
    no_fold = λ op e. can.no_fold op (right_alike P Q R is k c ∙ e);
    kept = λ i. can.kept (subst (λ (xs : List ℕ). IsIn c xs) (sym k.given) i);
    gone = gone_forth p c k can.gone;
  }

  pub can_join_forth : (p : List ℕ) (c : ℕ) (op : Op) (t : Task S) (u : Task T) → At n p u → AreTasksAlike R t u → CanJoin P s p c op t → CanJoin Q n p c op u
  can_join_forth p c op t u at_ k can = record {
    at_ = at_;
    right = sym (right_alike P Q R is k c) ∙ can.right;
    kept = λ i. can.kept (subst (λ (xs : List ℕ). IsIn c xs) (sym k.given) i);
    ended = ended_forth k can.ended;
    wait = clause_forth p k can.wait;
    satisfied = ((flags P Q R is same c p).join op).0 can.satisfied;
  }

  -- where the one state has a move, the other has one
  pub move_forth : SomeMove P s → SomeMove Q n
  move_forth (a_step {p = p} {t = t} can) = let k = at_forth same p t can.at_ in a_step (can_step_forth p t k.0 k.1 k.2 can)
  move_forth (a_let {p = p} {c = c} {t = t} can) = let k = at_forth same p t can.at_ in a_let (can_let_forth p c t k.0 k.1 k.2 can)
  move_forth (a_join {p = p} {c = c} {op = op} {t = t} can) = let k = at_forth same p t can.at_ in a_join (can_join_forth p c op t k.0 k.1 k.2 can)

-- so where none is left in the one, none is left in the other
pub stopped_forth : {S T : Type 0} (P : Program S) (Q : Program T) (R : Start S → Start T → Type 0) → IsBisimulation P Q R → {s : State S} {n : State T} → IsAlike R s n → IsStopped P s → IsStopped Q n
stopped_forth P Q R is same h m = h (move_forth Q P (turned R) (bisimulation_back is) (alike_back same) m)
