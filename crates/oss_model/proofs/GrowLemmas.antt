-- A later state keeps what was done, satisfied and complete.
use Rattle.std.proofs.Common.{◌≡◌, ℕ, ◌+◌, ◌<◌, ◌≤◌, ◌⊎◌, inl, inr, refl, sym, subst, ap, List, [], ◌∷◌, arith, Bool, true, false}
use Rattle.oss_syntax.specs.declared.access.Mode.{Mode}
use Rattle.oss_syntax.specs.declared.access.Op.{Op}
use Rattle.oss_model.specs.Forest.{IsDone, IsWriteSatisfied, IsReadSatisfied, IsJoinSatisfied}
use Rattle.oss_model.specs.Order.{IsSuffix, IsIn}
use Rattle.oss_model.specs.Rights.{Holds}
use Rattle.oss_model.specs.Context.{Context, right_of}
use Rattle.oss_model.specs.Bodies.{Order, Program, Act, Start, stack_from, stage_act, stage_created, child_start}
use Rattle.oss_model.specs.Bodies.Act.{Created, Awaited, Waited, WaitedOn}
use Rattle.oss_model.specs.Machine.{Task, State, At, find, HasAccess, HasGiven, accesses, IsTop, is_top, IsChild, is_child, IsEarlier, is_earlier, mode_in, IsReady, Owes, IsComplete, complete, IsWaitMet}
use Rattle.oss_model.specs.History.{IsMade, IsStarted}
use Rattle.oss_model.specs.Moves.{act_now, created_now, is_ended, WaitClause, IsGone, GoesOn}
use Rattle.oss_model.proofs.StageLemmas.{creating, created_grows, creation_counts}
use Rattle.oss_model.proofs.TreeLemmas.{at_same, covered_stage, over_stops}
use Rattle.oss_model.proofs.ForestLemmas.{Grows, Keeps, Known, Between, done_stays, write_satisfied_stays, read_satisfied_stays, join_satisfied_stays}

-- a task that the next act of its creator makes
pub record NewTask {S : Type 0} (P : Program S) (s : State S) (q : List ℕ) (v : Task S) : Type 0 where
  pub path : List ℕ
  pub creator : Task S
  pub at_ : At s path creator
  pub order : Order S
  pub act : act_now P creator.body ≡ Created order false
  pub place : q ≡ created_now P creator.body ∷ path
  pub start : v.body.start ≡ child_start (stack_from P creator.body.start creator.body.found).base order
  pub found : v.body.found ≡ []
  pub given : v.given ≡ []

pub record Grown {S : Type 0} (P : Program S) (s n : State S) : Type 0 where
  pub keeps : (q : List ℕ) (u : Task S) → At s q u → (v : Task S) × At n q v × GoesOn u v
  pub news : (q : List ℕ) (v : Task S) → At n q v → ((u : Task S) × At s q u × GoesOn u v) ⊎ NewTask P s q v

module _ {S : Type 0} (P : Program S) (main : Start S) (s n : State S) (made : IsMade P main s) (started : IsStarted P s) (grown : Grown P s n) where
  access_forth : (c : ℕ) (p : List ℕ) → HasAccess s c p → HasAccess n c p
  access_forth c p a =
      let k = grown.keeps p a.task a.at_ in
      record { task = k.0; at_ = k.1; mode = a.mode; strong = a.strong; right = subst (λ (z : Start S). (right_of z.context) c ≡ Holds a.mode a.strong) (sym k.2.start) a.right }

  -- an access of n whose task is in s
  access_back : (c : ℕ) (p : List ℕ) → HasAccess n c p → (u : Task S) → At s p u → HasAccess s c p
  access_back c p a u h =
      let k = grown.keeps p u h in
      let e = at_same n p a.task k.0 a.at_ k.1 in
      let r : (right_of k.0.body.start.context) c ≡ Holds a.mode a.strong = subst (λ (z : Task S). (right_of z.body.start.context) c ≡ Holds a.mode a.strong) e a.right in
      record { task = u; at_ = h; mode = a.mode; strong = a.strong; right = subst (λ (z : Start S). (right_of z.context) c ≡ Holds a.mode a.strong) k.2.start r }

  -- a task that gave up a cell makes no child on it
  no_new_child : (c : ℕ) (p : List ℕ) (t : Task S) (o : Order S) (v : Task S) (m : Mode) (strong : Bool) → At s p t → IsIn c t.given → act_now P t.body ≡ Created o false
      → v.body.start ≡ child_start (stack_from P t.body.start t.body.found).base o → (right_of v.body.start.context) c ≡ Holds m strong → ⊥
  no_new_child c p t o v m strong h g act start r = go (started.given p t c h g).gone
    where
      go : IsGone P s p c t → ⊥
      go (inl e) =
          let k = covered_stage P c m strong t t.body.found o (creating P t.body.start t.body.found o act) v start r in
          let f = k.holds in
          cc
      go (inr e) = let f = over_stops P t.body.start t.body.found e.0 in cc

  given_forth : (c : ℕ) (u : List ℕ) → HasGiven s c u → HasGiven n c u
  given_forth c u g =
      let k = grown.keeps u g.task g.at_ in
      record { task = k.0; at_ = k.1; given = k.2.given c g.given }

  -- an access of n below one that was given is of s
  back_below : (c k : ℕ) (p : List ℕ) → HasGiven s c p → (b : HasAccess n c (k ∷ p)) → HasAccess s c (k ∷ p)
  back_below c k p g b = go (grown.news (k ∷ p) b.task b.at_)
    where
      go : ((u : Task S) × At s (k ∷ p) u × GoesOn u b.task) ⊎ NewTask P s (k ∷ p) b.task → HasAccess s c (k ∷ p)
      go (inl u) = access_back c (k ∷ p) b u.0 u.1
      go (inr w) =
          let e : p ≡ w.path = cc (w.place) in
          let at2 : At s w.path g.task = subst (λ (z : List ℕ). At s z g.task) e g.at_ in
          let t = at_same s w.path w.creator g.task w.at_ at2 in
          let gg : IsIn c w.creator.given = subst (λ (z : Task S). IsIn c z.given) (sym t) g.given in
          absurd (no_new_child c w.path w.creator w.order b.task b.mode b.strong w.at_ gg w.act w.start b.right)

  child_back : (c : ℕ) (u v : List ℕ) → HasGiven s c u → IsChild n c u v → IsChild s c u v
  child_back c u v g (is_child {k = k} {i = i} {p = p} a b) = is_child (access_back c (i ∷ p) a g.task g.at_) (back_below c k (i ∷ p) g b)

  grows : (c : ℕ) → Grows (accesses s c) (accesses n c)
  grows c = record { given = λ u h. given_forth c u h; child = λ u v h k. child_back c u v h k }

  -- an access that is known is of a task of s
  known_task : (c : ℕ) (v : List ℕ) → Known (accesses s c) v → HasAccess s c v
  known_task c v (Known.top (is_top a)) = a
  known_task c v (Known.below (is_child a b) k) = b

  -- the earlier siblings of a task of s are of s
  sibling_back : (c i k : ℕ) (p : List ℕ) (t : Task S) → i < k → At s (k ∷ p) t → HasAccess n c (i ∷ p) → HasAccess s c (i ∷ p)
  sibling_back c i k p t l h a = go (grown.news (i ∷ p) a.task a.at_)
    where
      go : ((u : Task S) × At s (i ∷ p) u × GoesOn u a.task) ⊎ NewTask P s (i ∷ p) a.task → HasAccess s c (i ∷ p)
      go (inl u) = access_back c (i ∷ p) a u.0 u.1
      go (inr w) =
          let e : p ≡ w.path = cc (w.place) in
          let f : i ≡ created_now P w.creator.body = cc (w.place) in
          let b = made.child k p t h in
          let at2 : At s p w.creator = subst (λ (z : List ℕ). At s z w.creator) (sym e) w.at_ in
          let same = at_same s p b.creator w.creator b.at_ at2 in
          let g : IsSuffix (b.answer ∷ b.past) w.creator.body.found = subst (λ (z : Task S). IsSuffix (b.answer ∷ b.past) z.body.found) same b.happened in
          let num : stage_created P w.creator.body.start b.past ≡ k = subst (λ (z : Task S). stage_created P z.body.start b.past ≡ k) same b.number in
          let act : stage_act P w.creator.body.start b.past ≡ Created b.order false = subst (λ (z : Task S). stage_act P z.body.start b.past ≡ Created b.order false) same b.act in
          let one = creation_counts P w.creator.body.start b.answer b.past b.order act in
          let m = created_grows P w.creator.body.start g in
          absurd (omega arith)

  earlier_back : (c : ℕ) (u v : List ℕ) (t : Task S) → At s v t → IsEarlier n c u v → IsEarlier s c u v
  earlier_back c u v t h (is_earlier {i = i} {k = k} {p = p} l a) = is_earlier l (sibling_back c i k p t l h a)

  top_forth : (c : ℕ) (v : List ℕ) → IsTop s c v → IsTop n c v
  top_forth c v (is_top {k = k} a) = is_top (access_forth c (k ∷ []) a)

  child_forth : (c : ℕ) (u v : List ℕ) → IsChild s c u v → IsChild n c u v
  child_forth c u v (is_child {k = k} {i = i} {p = p} a b) = is_child (access_forth c (i ∷ p) a) (access_forth c (k ∷ i ∷ p) b)

  mode_forth : (c : ℕ) (u : List ℕ) (t : Task S) → At s u t → mode_in (find n.tasks u) c ≡ mode_in (find s.tasks u) c
  mode_forth c u t h =
      let k = grown.keeps u t h in
      rw (h, k.1, k.2.start) refl

  keeps_forest : (c : ℕ) → Keeps (HasAccess s c) (accesses s c) (accesses n c)
  keeps_forest c =
      record {
        grows = grows c;
        top = λ v h. top_forth c v h;
        child = λ u v h. child_forth c u v h;
        earlier = λ u v k h. let a = known_task c v k in earlier_back c u v a.task a.at_ h;
        mode = λ u a. mode_forth c u a.task a.at_;
        earlier_access = λ u v h. earlier_access c u v h;
        child_access = λ u v h. child_access c u v h;
      }
    where
      earlier_access : (c : ℕ) (u v : List ℕ) → IsEarlier s c u v → HasAccess s c u
      earlier_access c u v (is_earlier l a) = a

      child_access : (c : ℕ) (u v : List ℕ) → IsChild s c u v → HasAccess s c u
      child_access c u v (is_child a b) = a

  between : (c : ℕ) → Between (accesses s c) (accesses n c)
  between c u w v a b = go u w v a b
    where
      go : (u w v : List ℕ) → IsEarlier n c u w → IsEarlier s c w v → IsEarlier s c u w
      go u w v a (is_earlier {i = i} {k = k} {p = p} l h) = earlier_back c u (i ∷ p) h.task h.at_ a

  pub write_stays : (c : ℕ) (p : List ℕ) → IsWriteSatisfied (accesses s c) p → IsWriteSatisfied (accesses n c) p
  write_stays c p h = write_satisfied_stays (HasAccess s c) (accesses s c) (accesses n c) (keeps_forest c) p h

  pub read_stays : (c : ℕ) (p : List ℕ) → IsReadSatisfied (accesses s c) p → IsReadSatisfied (accesses n c) p
  read_stays c p h = read_satisfied_stays (HasAccess s c) (accesses s c) (accesses n c) (keeps_forest c) p h

  pub join_stays : (c : ℕ) (op : Op) (p : List ℕ) → IsJoinSatisfied (accesses s c) op p → IsJoinSatisfied (accesses n c) op p
  join_stays c op p h = join_satisfied_stays (HasAccess s c) (accesses s c) (accesses n c) (keeps_forest c) (between c) op p h

  pub access_done_stays : (c : ℕ) (p : List ℕ) → IsDone (accesses s c) p → IsDone (accesses n c) p
  access_done_stays c p h = done_stays (accesses s c) (accesses n c) (grows c) p h

  pub ready_stays : (p : List ℕ) (x : Context) → IsReady s p x → IsReady n p x
  ready_stays [] x h = tt
  ready_stays (k ∷ p) x h = ((λ c r. read_stays c (k ∷ p) (h.0 c r)), (λ c r. write_stays c (k ∷ p) (h.1 c r)))

  owes_back : (p : List ℕ) (x y : Context) (c : ℕ) → y ≡ x → Owes p y c → Owes p x c
  owes_back p x y c e h = subst (λ (z : Context). Owes p z c) e h

  over_creates : (t : Task S) (o : Order S) → is_ended P t.body ≡ true → act_now P t.body ≡ Created o false → ⊥
  over_creates t o h k = let f = over_stops P t.body.start t.body.found h in cc

  pub complete_stays : ((q : List ℕ) (u v : Task S) → At s q u → At n q v → is_ended P u.body ≡ true → is_ended P v.body ≡ true) → (p : List ℕ) → IsComplete P s p → IsComplete P n p
  complete_stays still p (complete {t = t} at_ over gives below) =
      let k = grown.keeps p t at_ in
      complete k.1 (still p t k.0 at_ k.1 over)
      (λ c o. k.2.given c (gives c (owes_back p t.body.start.context k.0.body.start.context c (ap (λ (z : Start S). z.context) k.2.start) o)))
      (λ j v h. child still p t at_ over (λ i u g. complete_stays still (i ∷ p) (below i u g)) j v h (grown.news (j ∷ p) v h))
    where
      child : ((q : List ℕ) (u v : Task S) → At s q u → At n q v → is_ended P u.body ≡ true → is_ended P v.body ≡ true) → (p : List ℕ) (t : Task S) → At s p t → is_ended P t.body ≡ true
          → ((i : ℕ) (u : Task S) → At s (i ∷ p) u → IsComplete P n (i ∷ p)) → (j : ℕ) (v : Task S) → At n (j ∷ p) v → ((u : Task S) × At s (j ∷ p) u × GoesOn u v) ⊎ NewTask P s (j ∷ p) v → IsComplete P n (j ∷ p)
      child still p t at_ over f j v h (inl u) = f j u.0 u.1
      child still p t at_ over f j v h (inr w) =
          let e : p ≡ w.path = cc (w.place) in
          let at2 : At s w.path t = subst (λ (z : List ℕ). At s z t) e at_ in
          let same = at_same s w.path w.creator t w.at_ at2 in
          let act : act_now P t.body ≡ Created w.order false = subst (λ (z : Task S). act_now P z.body ≡ Created w.order false) same w.act in
          absurd (over_creates t w.order over act)

  -- a task that has ended makes no child, so its clause wait stays met
  pub clause_stays : ((q : List ℕ) (u v : Task S) → At s q u → At n q v → is_ended P u.body ≡ true → is_ended P v.body ≡ true) → (p : List ℕ) (t v : Task S) → At s p t → v.body.start ≡ t.body.start → is_ended P t.body ≡ true → WaitClause P s p t → WaitClause P n p v
  clause_stays still p t v at_ e o w = λ wait k u h. child k u (w (subst (λ (z : Start S). z.order.wait ≡ true) e wait)) (grown.news (k ∷ p) u h)
    where
      child : (k : ℕ) (u : Task S) → ((j : ℕ) (x : Task S) → At s (j ∷ p) x → IsComplete P s (j ∷ p)) → ((x : Task S) × At s (k ∷ p) x × GoesOn x u) ⊎ NewTask P s (k ∷ p) u → IsComplete P n (k ∷ p)
      child k u f (inl x) = complete_stays still (k ∷ p) (f k x.0 x.1)
      child k u f (inr x) =
          let q : p ≡ x.path = cc (x.place) in
          let at2 : At s x.path t = subst (λ (z : List ℕ). At s z t) q at_ in
          let same = at_same s x.path x.creator t x.at_ at2 in
          let act : act_now P t.body ≡ Created x.order false = subst (λ (z : Task S). act_now P z.body ≡ Created x.order false) same x.act in
          absurd (over_creates t x.order o act)

  not_new : (i : ℕ) (p : List ℕ) (t : Task S) (k : ℕ) {v : Task S} → At s p t → i < created_now P t.body → NewTask P s (i ∷ p) v → ⊥
  not_new i p t k at_ l w =
      let e : p ≡ w.path = cc (w.place) in
      let f : i ≡ created_now P w.creator.body = cc (w.place) in
      let at2 : At s w.path t = subst (λ (z : List ℕ). At s z t) e at_ in
      let same = at_same s w.path w.creator t w.at_ at2 in
      let g : i ≡ created_now P t.body = subst (λ (z : Task S). i ≡ created_now P z.body) same f in
      omega arith

  -- what a done act waited for stays met
  pub wait_stays : ((q : List ℕ) (u v : Task S) → At s q u → At n q v → is_ended P u.body ≡ true → is_ended P v.body ≡ true) → (p : List ℕ) (t : Task S) (k : ℕ) (act : Act S) → At s p t → k ≤ created_now P t.body → IsWaitMet P s p k act → IsWaitMet P n p k act
  wait_stays still p t k Waited at_ l h = λ i u m a. complete_stays still (i ∷ p) (go i u m (grown.news (i ∷ p) u a))
    where
      go : (i : ℕ) (u : Task S) → i < k → ((w : Task S) × At s (i ∷ p) w × GoesOn w u) ⊎ NewTask P s (i ∷ p) u → IsComplete P s (i ∷ p)
      go i u m (inl w) = h i w.0 m w.1
      go i u m (inr w) = absurd (not_new i p t k at_ (omega arith) w)
  wait_stays still p t k Awaited at_ l h = λ i u m a. complete_stays still (i ∷ p) (go i u m (grown.news (i ∷ p) u a))
    where
      go : (i : ℕ) (u : Task S) → i + 1 ≡ k → ((w : Task S) × At s (i ∷ p) w × GoesOn w u) ⊎ NewTask P s (i ∷ p) u → IsComplete P s (i ∷ p)
      go i u m (inl w) = h i w.0 m w.1
      go i u m (inr w) = absurd (not_new i p t k at_ (omega arith) w)
  wait_stays still p t k (WaitedOn named) at_ l h = λ i c m e a. access_done_stays c (i ∷ p) (h i c m e (go i c m a (grown.news (i ∷ p) a.task a.at_)))
    where
      go : (i c : ℕ) → i < k → (a : HasAccess n c (i ∷ p)) → ((w : Task S) × At s (i ∷ p) w × GoesOn w a.task) ⊎ NewTask P s (i ∷ p) a.task → HasAccess s c (i ∷ p)
      go i c m a (inl w) = access_back c (i ∷ p) a w.0 w.1
      go i c m a (inr w) = absurd (not_new i p t k at_ (omega arith) w)
  wait_stays still p t k _ at_ l h = tt
