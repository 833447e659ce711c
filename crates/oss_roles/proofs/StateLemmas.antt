-- States in which one task has gone on: what was done, satisfied, ready or complete stays so, and entries stand for them as before.
use Rattle.std.proofs.Common.{◌≡◌, ◌≢◌, ◌⊎◌, inl, inr, sym, subst, refl, ◌∙◌, ap, ℕ, Bool, true, false, List, [], ◌∷◌, Option, Some}
use Rattle.oss_syntax.specs.declared.access.Op.{Op}
use Rattle.oss_model.specs.Bodies.{Program, Act, Start}
use Rattle.oss_model.specs.Bodies.Act.{Awaited, Waited, WaitedOn}
use Rattle.oss_model.specs.Context.{Context, right_of}
use Rattle.oss_model.specs.Forest.{IsDone, IsWriteSatisfied, IsReadSatisfied, IsJoinSatisfied}
use Rattle.oss_model.specs.Machine.{Task, State, At, find, same_path, HasAccess, HasGiven, accesses, IsTop, is_top, IsChild, is_child, IsEarlier, is_earlier, mode_in, IsReady, Owes, IsComplete, complete, IsWaitMet}
use Rattle.oss_model.specs.Moves.{is_ended, GoesOn, IsClosed, WaitClause}
use Rattle.oss_model.specs.Order.{whole}
use Rattle.oss_model.specs.Rights.{Holds}
use Rattle.oss_model.proofs.Exclusive.{same_self}
use Rattle.oss_model.proofs.ForestLemmas.{Keeps, done_stays, write_satisfied_stays, read_satisfied_stays, join_satisfied_stays}
use Rattle.oss_model.proofs.MoveLemmas.{which_path}
use Rattle.oss_model.proofs.OrderLemmas.{suffix_trans}
use Rattle.oss_model.proofs.TreeLemmas.{at_same, path_found, same_path_is}
use Rattle.oss_words.specs.Net.{Net}
use Rattle.oss_roles.proofs.Going.{Turned, Continues, with_task}
use Rattle.oss_roles.specs.Numbers.{entry_number}
use Rattle.oss_roles.specs.Roles.{Role, itself, on, AreFiled, AreGiven}

-- a state in which a task of its own path is put
pub turned_by : {S : Type 0} (s : State S) (p : List ℕ) (t u : Task S) (cells : List ℕ) → At s p t → u.body.start ≡ t.body.start → Turned s (with_task u cells s) p u
unfolding find
turned_by s p t u cells at_ start =
    let path : u.body.start.path ≡ p = ap (λ (z : Start _). z.path) start ∙ path_found s.tasks p t at_ in
    record {
      own = subst (λ (q : List ℕ). find (u ∷ s.tasks) q ≡ Some u) path (rw (same_self u.body.start.path) refl);
      others = λ q ne. other q ne path (same_path u.body.start.path q) refl;
    }
  where
    other : (q : List ℕ) → q ≢ p → u.body.start.path ≡ p → (b : Bool) → same_path u.body.start.path q ≡ b → find (u ∷ s.tasks) q ≡ find s.tasks q
    other q ne path true k = absurd (ne (sym (same_path_is u.body.start.path q k) ∙ path))
    other q ne path false k = rw k refl

pub grows_self : {S : Type 0} (u : Task S) → GoesOn u u
grows_self u = record { start = refl; found = whole; given = λ c h. h }

pub continues_turned : {S : Type 0} (P : Program S) (s n : State S) (p : List ℕ) (t u : Task S) → At s p t → Turned s n p u → GoesOn t u → (is_ended P t.body ≡ true → is_ended P u.body ≡ true) → Continues P s n
continues_turned {S = S} P s n p t u at_ turned goes over =
    record {
      forth = λ q x h. forth q x h (which_path q p);
      back = λ q y h. back q y h (which_path q p);
    }
  where
    forth : (q : List ℕ) (x : Task S) → At s q x → (q ≡ p) ⊎ (q ≢ p) → (y : Task S) × At n q y × GoesOn x y × (is_ended P x.body ≡ true → is_ended P y.body ≡ true)
    forth q x h (inl e) =
        let f : x ≡ t = at_same s p x t (subst (λ (z : List ℕ). At s z x) e h) at_ in
        (u, subst (λ (z : List ℕ). At n z u) (sym e) turned.own, subst (λ (z : Task S). GoesOn z u) (sym f) goes, (λ k. over (subst (λ (z : Task S). is_ended P z.body ≡ true) f k)))
    forth q x h (inr ne) = (x, turned.others q ne ∙ h, grows_self x, (λ k. k))

    back : (q : List ℕ) (y : Task S) → At n q y → (q ≡ p) ⊎ (q ≢ p) → (x : Task S) × At s q x × GoesOn x y
    back q y h (inl e) =
        let f : y ≡ u = at_same n p y u (subst (λ (z : List ℕ). At n z y) e h) turned.own in
        (t, subst (λ (z : List ℕ). At s z t) (sym e) at_, subst (λ (z : Task S). GoesOn t z) (sym f) goes)
    back q y h (inr ne) = (y, sym (turned.others q ne) ∙ h, grows_self y)

pub goes_on_on : {S : Type 0} (t u v : Task S) → GoesOn t u → GoesOn u v → GoesOn t v
goes_on_on t u v a b = record { start = b.start ∙ a.start; found = suffix_trans a.found b.found; given = λ c i. b.given c (a.given c i) }

pub continues_on : {S : Type 0} (P : Program S) (s m n : State S) → Continues P s m → Continues P m n → Continues P s n
continues_on P s m n a b =
    record {
      forth = λ q u h.
          let x = a.forth q u h in
          let y = b.forth q x.0 x.1 in
          (y.0, y.1, goes_on_on u x.0 y.0 x.2 y.2, (λ k. y.3 (x.3 k)));
      back = λ q v h.
          let y = b.back q v h in
          let x = a.back q y.0 y.1 in
          (x.0, x.1, goes_on_on x.0 y.0 v x.2 y.2);
    }

pub continues_self : {S : Type 0} (P : Program S) (s : State S) → Continues P s s
continues_self P s = record { forth = λ q u h. (u, h, grows_self u, (λ k. k)); back = λ q v h. (v, h, grows_self v) }

pub turned_on : {S : Type 0} (s m n : State S) (p : List ℕ) (t u : Task S) → Turned s m p t → Turned m n p u → Turned s n p u
turned_on s m n p t u a b = record { own = b.own; others = λ q ne. b.others q ne ∙ a.others q ne }

pub turned_self : {S : Type 0} (s : State S) (p : List ℕ) (t : Task S) → At s p t → Turned s s p t
turned_self s p t h = record { own = h; others = λ q ne. refl }

module _ {S : Type 0} (P : Program S) (s n : State S) (c : Continues P s n) where
  pub access_forth : (d : ℕ) (p : List ℕ) → HasAccess s d p → HasAccess n d p
  access_forth d p a =
      let k = c.forth p a.task a.at_ in
      record { task = k.0; at_ = k.1; mode = a.mode; strong = a.strong; right = subst (λ (z : Start S). right_of z.context d ≡ Holds a.mode a.strong) (sym k.2.start) a.right }

  pub access_back : (d : ℕ) (p : List ℕ) (a : HasAccess n d p) → (b : HasAccess s d p) × (b.mode ≡ a.mode) × (b.strong ≡ a.strong) × (b.task.body.start ≡ a.task.body.start)
  access_back d p a =
      let k = c.back p a.task a.at_ in
      (record { task = k.0; at_ = k.1; mode = a.mode; strong = a.strong; right = subst (λ (z : Start S). right_of z.context d ≡ Holds a.mode a.strong) k.2.start a.right }, refl, refl, sym k.2.start)

  pub given_forth : (d : ℕ) (p : List ℕ) → HasGiven s d p → HasGiven n d p
  given_forth d p g = let k = c.forth p g.task g.at_ in record { task = k.0; at_ = k.1; given = k.2.given d g.given }

  child_back : (d : ℕ) (u v : List ℕ) → IsChild n d u v → IsChild s d u v
  child_back d u v (is_child {k = k} {i = i} {p = p} a b) = is_child (access_back d (i ∷ p) a).0 (access_back d (k ∷ i ∷ p) b).0

  child_forth : (d : ℕ) (u v : List ℕ) → IsChild s d u v → IsChild n d u v
  child_forth d u v (is_child {k = k} {i = i} {p = p} a b) = is_child (access_forth d (i ∷ p) a) (access_forth d (k ∷ i ∷ p) b)

  top_forth : (d : ℕ) (v : List ℕ) → IsTop s d v → IsTop n d v
  top_forth d v (is_top {k = k} a) = is_top (access_forth d (k ∷ []) a)

  earlier_back : (d : ℕ) (u v : List ℕ) → IsEarlier n d u v → IsEarlier s d u v
  earlier_back d u v (is_earlier {i = i} {k = k} {p = p} l a) = is_earlier l (access_back d (i ∷ p) a).0

  first_access : (d : ℕ) (u v : List ℕ) → IsEarlier s d u v → HasAccess s d u
  first_access d u v (is_earlier l a) = a

  upper_access : (d : ℕ) (u v : List ℕ) → IsChild s d u v → HasAccess s d u
  upper_access d u v (is_child a b) = a

  mode_forth : (d : ℕ) (u : List ℕ) (t : Task S) → At s u t → mode_in (find n.tasks u) d ≡ mode_in (find s.tasks u) d
  mode_forth d u t h = let k = c.forth u t h in rw (h, k.1, k.2.start) refl

  keeps_forest : (d : ℕ) → Keeps (HasAccess s d) (accesses s d) (accesses n d)
  keeps_forest d =
      record {
        grows = record { given = given_forth d; child = λ u v h k. child_back d u v k };
        top = top_forth d;
        child = child_forth d;
        earlier = λ u v k h. earlier_back d u v h;
        mode = λ u a. mode_forth d u a.task a.at_;
        earlier_access = first_access d;
        child_access = upper_access d;
      }

  pub done_on : (d : ℕ) (p : List ℕ) → IsDone (accesses s d) p → IsDone (accesses n d) p
  done_on d p h = done_stays (accesses s d) (accesses n d) (keeps_forest d).grows p h

  pub write_on : (d : ℕ) (p : List ℕ) → IsWriteSatisfied (accesses s d) p → IsWriteSatisfied (accesses n d) p
  write_on d p h = write_satisfied_stays (HasAccess s d) (accesses s d) (accesses n d) (keeps_forest d) p h

  pub read_on : (d : ℕ) (p : List ℕ) → IsReadSatisfied (accesses s d) p → IsReadSatisfied (accesses n d) p
  read_on d p h = read_satisfied_stays (HasAccess s d) (accesses s d) (accesses n d) (keeps_forest d) p h

  pub join_on : (d : ℕ) (op : Op) (p : List ℕ) → IsJoinSatisfied (accesses s d) op p → IsJoinSatisfied (accesses n d) op p
  join_on d op p h = join_satisfied_stays (HasAccess s d) (accesses s d) (accesses n d) (keeps_forest d) (λ u w v a b. earlier_back d u w a) op p h

  pub ready_on : (p : List ℕ) (x : Context) → IsReady s p x → IsReady n p x
  ready_on [] x h = tt
  ready_on (k ∷ p) x h = ((λ d r. read_on d (k ∷ p) (h.0 d r)), (λ d r. write_on d (k ∷ p) (h.1 d r)))

  pub closed_on : (p : List ℕ) (t u : Task S) → GoesOn t u → (is_ended P t.body ≡ true → is_ended P u.body ≡ true) → IsClosed P p t → IsClosed P p u
  closed_on p t u g over k = record { ended = over k.ended; given = λ d o. g.given d (k.given d (subst (λ (z : Start S). Owes p z.context d) g.start o)) }

  pub complete_on : (p : List ℕ) → IsComplete P s p → IsComplete P n p
  complete_on p (complete {t = t} at_ over gives below) =
      let k = c.forth p t at_ in
      let closed = closed_on p t k.0 k.2 k.3 (record { ended = over; given = gives }) in
      complete k.1 closed.ended closed.given (λ j v h. let b = c.back (j ∷ p) v h in complete_on (j ∷ p) (below j b.0 b.1))

  pub waits_on : (p : List ℕ) (k : ℕ) (act : Act S) → IsWaitMet P s p k act → IsWaitMet P n p k act
  waits_on p k Waited h = λ i u l a. let b = c.back (i ∷ p) u a in complete_on (i ∷ p) (h i b.0 l b.1)
  waits_on p k Awaited h = λ i u l a. let b = c.back (i ∷ p) u a in complete_on (i ∷ p) (h i b.0 l b.1)
  waits_on p k (WaitedOn named) h = λ i d l e a. done_on d (i ∷ p) (h i d l e (access_back d (i ∷ p) a).0)
  waits_on p k _ h = tt

  pub clause_on : (p : List ℕ) (t u : Task S) → u.body.start ≡ t.body.start → WaitClause P s p t → WaitClause P n p u
  clause_on p t u e w = λ wait k v h. let b = c.back (k ∷ p) v h in complete_on (k ∷ p) (w (subst (λ (z : Start S). z.order.wait ≡ true) e wait) k b.0 b.1)

  -- entries stand for tasks and accesses as before
  pub filed_on : (net : Net) (role : ℕ → Option Role) → AreFiled s net role → AreFiled n net role
  filed_on net role f =
      record {
        access = λ k d p a.
            let b = access_back d (k ∷ p) a in
            let x = f.access k d p b.0 in
            (x.0, x.1 ∙ b.1, x.2 ∙ b.2, x.3 ∙ ap (λ (z : Start S). entry_number x.0.it.task (right_of z.context) d) b.3);
        task = λ k p t h. let b = c.back (k ∷ p) t h in f.task k p b.0 b.1;
      }

  -- and what was given up stands, if no cell was given up but such as are told
  pub given_on : (net : Net) (role : ℕ → Option Role) (gave gave' : ℕ → Bool) (joined joined' : ℕ → Type 0) → AreGiven P s net role gave joined
      → ((e : ℕ) (r : Role) → role e ≡ Some r → gave' e ≡ true → (gave e ≡ true) ⊎ (((d : ℕ) → r.site ≡ on d → HasGiven n d r.path) × (r.site ≡ itself → (t : Task S) × At n r.path t × IsClosed P r.path t)))
      → ((e d : ℕ) (r : Role) → role e ≡ Some r → r.site ≡ on d → HasGiven n d r.path → HasGiven s d r.path ⊎ ((gave' e ≡ true) ⊎ joined' e))
      → ((e : ℕ) → gave e ≡ true → gave' e ≡ true) → ((e : ℕ) → joined e → (gave' e ≡ true) ⊎ joined' e)
      → AreGiven P n net role gave' joined'
  given_on net role gave gave' joined joined' g forth back still on_joined =
      record {
        cell = λ e d r is at h. elim (forth e r is h) [ inl k ↦ given_forth d r.path (g.cell e d r is at k) | inr k ↦ k.0 d at ];
        own = λ e r is at h. elim (forth e r is h) [ inl k ↦ own_on r (g.own e r is at k) | inr k ↦ k.1 at ];
        back = λ e d r is at h. elim (back e d r is at h) [
          | inl k ↦ elim (g.back e d r is at k) [ inl x ↦ inl (still e x) | inr x ↦ on_joined e x ]
          | inr k ↦ k
        ];
      }
    where
      own_on : (r : Role) → ((t : Task S) × At s r.path t × IsClosed P r.path t) → (t : Task S) × At n r.path t × IsClosed P r.path t
      own_on r k = let y = c.forth r.path k.0 k.1 in (y.0, y.1, closed_on r.path k.0 y.0 y.2 y.3 k.2)
