-- What may happen in a state does not hang on how it lists its tasks.
use Rattle.std.proofs.Common.{◌≡◌, ◌≢◌, ℕ, ◌⊎◌, inl, inr, refl, sym, subst, ap, ◌∙◌, List, [], ◌∷◌, false}
use Rattle.oss_syntax.specs.declared.access.Op.{Op}
use Rattle.oss_model.specs.Context.{Context}
use Rattle.oss_model.specs.Bodies.{Order, Program, Act}
use Rattle.oss_model.specs.Bodies.Act.{Created, Awaited, Waited, WaitedOn, Ticked, Load, Store, Folded, Releases, Printed, Ended, Fault, Over}
use Rattle.oss_model.specs.Machine.{Task, State, At, find, HasAccess, IsTop, is_top, IsChild, is_child, IsEarlier, is_earlier, HasGiven, accesses, mode_in, IsReady, IsComplete, complete, IsWaitMet}
use Rattle.oss_model.specs.Matching.{Matches, HaveSameFlags}
use Rattle.oss_model.specs.Moves.{act_now, created_now, found_by, cells_after, after_answer, WaitClause, CanStep, Stepped, IsGone, CanLet, CanJoin, GaveUp, LetGo, Joined, joined_cells, SomeMove, a_step, a_let, a_join}
use Rattle.oss_model.specs.Answers.{IsStopped}
use Rattle.oss_model.proofs.MatchingLemmas.{same_flags}
use Rattle.oss_model.proofs.MoveLemmas.{which_path, is_creation}
use Rattle.oss_wave_laws.specs.Claims.{IsSame}

pub same_itself : {S : Type 0} (s : State S) → IsSame s s
same_itself s = record { cells = refl; tasks = λ p. refl }

pub same_back : {S : Type 0} {s n : State S} → IsSame s n → IsSame n s
same_back h = record { cells = sym h.cells; tasks = λ p. sym (h.tasks p) }

module _ {S : Type 0} {s n : State S} (same : IsSame s n) where
  pub at_forth : (p : List ℕ) (t : Task S) → At s p t → At n p t
  at_forth p t h = same.tasks p ∙ h

  pub at_back : (p : List ℕ) (t : Task S) → At n p t → At s p t
  at_back p t h = sym (same.tasks p) ∙ h

  pub access_forth : (c : ℕ) (p : List ℕ) → HasAccess s c p → HasAccess n c p
  access_forth c p a = record { task = a.task; at_ = at_forth p a.task a.at_; mode = a.mode; strong = a.strong; right = a.right }

  pub top_forth : (c : ℕ) (p : List ℕ) → IsTop s c p → IsTop n c p
  top_forth c p (is_top {k = k} h) = is_top (access_forth c (k ∷ []) h)

  pub child_forth : (c : ℕ) (u v : List ℕ) → IsChild s c u v → IsChild n c u v
  child_forth c u v (is_child {k = k} {i = i} {p = p} a b) = is_child (access_forth c (i ∷ p) a) (access_forth c (k ∷ i ∷ p) b)

  pub earlier_forth : (c : ℕ) (u v : List ℕ) → IsEarlier s c u v → IsEarlier n c u v
  earlier_forth c u v (is_earlier {i = i} {p = p} l a) = is_earlier l (access_forth c (i ∷ p) a)

  pub given_forth : (c : ℕ) (p : List ℕ) → HasGiven s c p → HasGiven n c p
  given_forth c p g = record { task = g.task; at_ = at_forth p g.task g.at_; given = g.given }

-- the forests of two states that are one match
pub forests_match : {S : Type 0} {s n : State S} → IsSame s n → (c : ℕ) → Matches (accesses s c) (accesses n c) (λ u v. u ≡ v)
forests_match {S = S} {s = s} {n = n} same c = record {
  top = λ u v e. ((λ h. subst (λ (x : List ℕ). IsTop n c x) e (top_forth same c u h)), (λ h. subst (λ (x : List ℕ). IsTop s c x) (sym e) (top_forth back c v h)));
  child = λ u x v y e f. (
    (λ h. subst (λ (w : List ℕ). IsChild n c w y) e (subst (λ (w : List ℕ). IsChild n c u w) f (child_forth same c u x h))),
    (λ h. subst (λ (w : List ℕ). IsChild s c w x) (sym e) (subst (λ (w : List ℕ). IsChild s c v w) (sym f) (child_forth back c v y h))),
  );
  earlier = λ u x v y e f. (
    (λ h. subst (λ (w : List ℕ). IsEarlier n c w y) e (subst (λ (w : List ℕ). IsEarlier n c u w) f (earlier_forth same c u x h))),
    (λ h. subst (λ (w : List ℕ). IsEarlier s c w x) (sym e) (subst (λ (w : List ℕ). IsEarlier s c v w) (sym f) (earlier_forth back c v y h))),
  );
  mode = λ u v e. ap (λ o. mode_in o c) (sym (same.tasks u)) ∙ ap (λ (w : List ℕ). mode_in (find n.tasks w) c) e;
  given = λ u v e. ((λ h. subst (λ (x : List ℕ). HasGiven n c x) e (given_forth same c u h)), (λ h. subst (λ (x : List ℕ). HasGiven s c x) (sym e) (given_forth back c v h)));
  forth = λ u x v e h. (x, refl);
  back = λ u v y e h. (y, refl);
}
  where
    back : IsSame n s
    back = same_back same

pub flags : {S : Type 0} {s n : State S} → IsSame s n → (c : ℕ) (p : List ℕ) → HaveSameFlags (accesses s c) (accesses n c) p p
flags {s = s} {n = n} same c p = same_flags (accesses s c) (accesses n c) (λ u v. u ≡ v) (forests_match same c) p p refl

module _ {S : Type 0} (P : Program S) {s n : State S} (same : IsSame s n) where
  pub ready_forth : (p : List ℕ) (x : Context) → IsReady s p x → IsReady n p x
  ready_forth [] x h = tt
  ready_forth (k ∷ p) x h = ((λ c r. (flags same c (k ∷ p)).read.0 (h.0 c r)), (λ c r. (flags same c (k ∷ p)).write.0 (h.1 c r)))

  pub complete_forth : {p : List ℕ} → IsComplete P s p → IsComplete P n p
  complete_forth {p = p} (complete {t = t} at_ over gives below) = complete (at_forth same p t at_) over gives (λ k u h. complete_forth (below k u (at_back same (k ∷ p) u h)))

  pub wait_forth : (p : List ℕ) (k : ℕ) (act : Act S) → IsWaitMet P s p k act → IsWaitMet P n p k act
  wait_forth p k Waited h = λ i u l a. complete_forth (h i u l (at_back same (i ∷ p) u a))
  wait_forth p k Awaited h = λ i u e a. complete_forth (h i u e (at_back same (i ∷ p) u a))
  wait_forth p k (WaitedOn named) h = λ i c l e a. (flags same c (i ∷ p)).done.0 (h i c l e (access_forth (same_back same) c (i ∷ p) a))
  wait_forth p k Ticked h = tt
  wait_forth p k (Load c) h = tt
  wait_forth p k (Store c v) h = tt
  wait_forth p k (Folded c op v slot) h = tt
  wait_forth p k (Created o included) h = tt
  wait_forth p k (Releases clauses included) h = tt
  wait_forth p k (Printed key text) h = tt
  wait_forth p k Ended h = tt
  wait_forth p k (Fault kind line key) h = tt
  wait_forth p k Over h = tt

  pub clause_forth : (p : List ℕ) (t : Task S) → WaitClause P s p t → WaitClause P n p t
  clause_forth p t h = λ w k u a. complete_forth (h w k u (at_back same (k ∷ p) u a))

  pub gone_forth : (p : List ℕ) (c : ℕ) (t : Task S) → IsGone P s p c t → IsGone P n p c t
  gone_forth p c t (inl h) = inl h
  gone_forth p c t (inr h) = inr (h.0, clause_forth p t h.1)

  pub can_step_forth : (p : List ℕ) (t : Task S) → CanStep P s p t → CanStep P n p t
  can_step_forth p t k = record {
    at_ = at_forth same p t k.at_;
    goes = k.goes;
    ready = λ e. ready_forth p t.body.start.context (k.ready e);
    waits = wait_forth p (created_now P t.body) (act_now P t.body) k.waits;
  }

  pub can_let_forth : (p : List ℕ) (c : ℕ) (t : Task S) → CanLet P s p c t → CanLet P n p c t
  can_let_forth p c t k = record {
    at_ = at_forth same p t k.at_;
    not_main = k.not_main;
    mode = k.mode;
    strong = k.strong;
    right = k.right;
    no_fold = k.no_fold;
    kept = k.kept;
    gone = gone_forth p c t k.gone;
  }

  pub can_join_forth : (p : List ℕ) (c : ℕ) (op : Op) (t : Task S) → CanJoin P s p c op t → CanJoin P n p c op t
  can_join_forth p c op t k = record {
    at_ = at_forth same p t k.at_;
    right = k.right;
    kept = k.kept;
    ended = k.ended;
    wait = clause_forth p t k.wait;
    satisfied = ((flags same c p).join op).0 k.satisfied;
  }

  pub move_forth : SomeMove P s → SomeMove P n
  move_forth (a_step {p = p} {t = t} k) = a_step (can_step_forth p t k)
  move_forth (a_let {p = p} {c = c} {t = t} k) = a_let (can_let_forth p c t k)
  move_forth (a_join {p = p} {c = c} {op = op} {t = t} k) = a_join (can_join_forth p c op t k)

pub stopped_forth : {S : Type 0} (P : Program S) {s n : State S} → IsSame s n → IsStopped P s → IsStopped P n
stopped_forth P same h m = h (move_forth P (same_back same) m)

-- an act leads to one state
pub step_same : {S : Type 0} (P : Program S) {s n x y : State S} (p : List ℕ) (t : Task S) → IsSame s n → Stepped P s p t x → Stepped P n p t y → IsSame x y
step_same {S = S} P {s = s} {n = n} {x = x} {y = y} p t same a b = record {
  cells = b.cells ∙ (ap (cells_after (act_now P t.body)) same.cells ∙ sym a.cells);
  tasks = λ q. by_path q (which_path q p) (is_creation (act_now P t.body));
}
  where
    found : found_by (act_now P t.body) n.cells ≡ found_by (act_now P t.body) s.cells
    found = ap (found_by (act_now P t.body)) same.cells

    past : (q : List ℕ) → q ≢ p → ((o : Order S) → act_now P t.body ≡ Created o false → q ≢ created_now P t.body ∷ p) → find y.tasks q ≡ find x.tasks q
    past q ne h = b.tasks.others q ne h ∙ (same.tasks q ∙ sym (a.tasks.others q ne h))

    by_child : (q : List ℕ) (o : Order S) → act_now P t.body ≡ Created o false → q ≢ p → (q ≡ created_now P t.body ∷ p) ⊎ (q ≢ created_now P t.body ∷ p) → find y.tasks q ≡ find x.tasks q
    by_child q o e ne (inl f) = subst (λ (r : List ℕ). find y.tasks r ≡ find x.tasks r) (sym f) (b.tasks.made o e ∙ sym (a.tasks.made o e))
    by_child q o e ne (inr f) = past q ne (λ o2 e2. f)

    by_path : (q : List ℕ) → (q ≡ p) ⊎ (q ≢ p) → ((o : Order S) × (act_now P t.body ≡ Created o false)) ⊎ ((o : Order S) → act_now P t.body ≢ Created o false) → find y.tasks q ≡ find x.tasks q
    by_path q (inl e) c =
        subst (λ (r : List ℕ). find y.tasks r ≡ find x.tasks r) (sym e)
        (subst (λ (v : ℕ). At y p (after_answer v t)) found b.tasks.own ∙ sym a.tasks.own)
    by_path q (inr ne) (inl o) = by_child q o.0 o.1 ne (which_path q (created_now P t.body ∷ p))
    by_path q (inr ne) (inr none) = past q ne (λ o e. absurd (none o e))

-- and so does a cell that is given up
pub gave_same : {S : Type 0} {s n x y : State S} (p : List ℕ) (c : ℕ) (t : Task S) → IsSame s n → GaveUp s p c t x → GaveUp n p c t y → (q : List ℕ) → find y.tasks q ≡ find x.tasks q
gave_same {x = x} {y = y} p c t same a b q = by_path (which_path q p)
  where
    by_path : (q ≡ p) ⊎ (q ≢ p) → find y.tasks q ≡ find x.tasks q
    by_path (inl e) = subst (λ (r : List ℕ). find y.tasks r ≡ find x.tasks r) (sym e) (b.own ∙ sym a.own)
    by_path (inr ne) = b.others q ne ∙ (same.tasks q ∙ sym (a.others q ne))

pub let_same : {S : Type 0} {s n x y : State S} (p : List ℕ) (c : ℕ) (t : Task S) → IsSame s n → LetGo s p c t x → LetGo n p c t y → IsSame x y
let_same p c t same a b = record { cells = b.cells ∙ (same.cells ∙ sym a.cells); tasks = λ q. gave_same p c t same a.tasks b.tasks q }

pub join_same : {S : Type 0} (P : Program S) {s n x y : State S} (p : List ℕ) (c : ℕ) (op : Op) (t : Task S) → IsSame s n → Joined P s p c op t x → Joined P n p c op t y → IsSame x y
join_same P p c op t same a b = record { cells = b.cells ∙ (ap (joined_cells P c op t) same.cells ∙ sym a.cells); tasks = λ q. gave_same p c t same a.tasks b.tasks q }
