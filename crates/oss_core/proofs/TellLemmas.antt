-- What a core tells of the moves of a task is so, and what is so it tells.
use Rattle.std.proofs.Common.{◌≡◌, ◌≢◌, ℕ, ◌<◌, ◌+◌, ◌⊎◌, inl, inr, refl, sym, subst, ap, ◌∙◌, arith, List, [], ◌∷◌, Bool, true, false, Some, ◌↔◌}
use Rattle.std.specs.Prelude.{slice_get}
use Rattle.oss_syntax.specs.declared.access.Access.{Access}
use Rattle.oss_syntax.specs.declared.access.Mode.{Mode}
use Rattle.oss_syntax.specs.declared.access.Op.{Op}
use Rattle.oss_syntax.specs.declared.access.Mode.TheVariants.{Fold}
use Rattle.oss_model.specs.Order.{IsIn}
use Rattle.oss_model.specs.Rights.{Released, Holds}
use Rattle.oss_model.specs.Context.{right_of}
use Rattle.oss_model.specs.Bodies.{Program, Act, Body, stack_from, IsHalt}
use Rattle.oss_model.specs.Bodies.Act.{Ticked, Load, Store, Folded, Created, Awaited, Waited, WaitedOn, Releases, Printed, Ended, Fault, Over}
use Rattle.oss_model.specs.Machine.{Task, State, At, IsReady, IsComplete, IsWaitMet}
use Rattle.oss_model.specs.Moves.{act_now, created_now, is_ended, WaitClause, CanStep, IsGone, CanLet, CanJoin}
use Rattle.oss_model.proofs.TreeLemmas.{at_same}
use Rattle.oss_deps.specs.declared.opened.Open.{Open}
use Rattle.oss_deps.specs.Opens.{HasOpened, IsMet}
use Rattle.oss_core.specs.Standing.{IsNumbered, IsLinked, AreTasks, StandsFor}
use Rattle.oss_core.specs.Telling.{ChildrenComplete, IsWaitTold, IsEnabled, HasEntry, IsClauseTold, MayLet, MayJoin}
use Rattle.oss_core.proofs.EntryLemmas.{named_at}
use Rattle.oss_core.proofs.MatchLemmas.{entry_of, path_of, head_is, tail_is, ready_of, met_of}
use Rattle.oss_core.proofs.WaitLemmas.{join_same, children_forth, children_back}
use Rattle.oss_core.proofs.KeepLemmas.{some_is}

not_true : (b : Bool) → (b ≡ true → ⊥) → b ≡ false
not_true true h = absurd (h refl)
not_true false h = refl

module _ {S B : Type 0} (P : Program S) (body : B → Body S) (bodies : List B) (list : List Open) (given : ℕ → ℕ → Bool) (cells : List ℕ) (s : State S)
    (tasks : AreTasks body bodies list) (stands : StandsFor body bodies given cells s) (below : (o : Open) → IsIn o list → (l : IsLinked body bodies o) → l.child < created_now P (body l.creator))
    (Complete : ℕ → Type 0) (tells : (v : ℕ) (p : List ℕ) → IsNumbered body bodies v p → (Complete v ↔ IsComplete P s p)) where
  -- an entry of a child in the state
  record ChildEntry (k : ℕ) (p : List ℕ) (v : ℕ) : Type 0 where
    pub entry : Open
    pub listed : IsIn entry list
    pub parent : entry.parent ≡ v
    pub has : IsNumbered body bodies entry.task (k ∷ p)
    pub child : (tasks.linked entry listed).child ≡ k

  child_entry : (k : ℕ) (p : List ℕ) (v : ℕ) (u : Task S) → IsNumbered body bodies v p → At s (k ∷ p) u → ChildEntry k p v
  child_entry k p v u has h =
      let r = stands.back (k ∷ p) u h in
      let o = entry_of body bodies list given cells s tasks stands 0 k p r.0 r.1 in
      let l = tasks.linked o.0 o.1 in
      let e = path_of body bodies list given cells s tasks stands 0 (k ∷ p) r.0 r.1 o.0 l o.2 in
      record {
        entry = o.0;
        listed = o.1;
        parent = tasks.one_number o.0.parent v l.creator has.one l.creator_is has.is (sym (tail_is e) ∙ sym has.path);
        has = record { one = r.1.one; is = ap (λ (w : ℕ). slice_get bodies w) o.2 ∙ r.1.is; path = r.1.path };
        child = sym (head_is e);
      }

  -- the child in the state of an entry
  record EntryChild (o : Open) (i : IsIn o list) (p : List ℕ) : Type 0 where
    pub task : Task S
    pub at_ : At s ((tasks.linked o i).child ∷ p) task
    pub has : IsNumbered body bodies o.task ((tasks.linked o i).child ∷ p)
    pub creator : (b : B) → slice_get bodies o.parent ≡ Some b → created_now P (body (tasks.linked o i).creator) ≡ created_now P (body b)

  entry_child : (o : Open) (i : IsIn o list) (p : List ℕ) (v : ℕ) → IsNumbered body bodies v p → o.parent ≡ v → EntryChild o i p
  entry_child o i p v has e =
      let l = tasks.linked o i in
      let cr : l.creator ≡ has.one = some_is (sym l.creator_is ∙ ap (λ (w : ℕ). slice_get bodies w) e ∙ has.is) in
      let path : (body l.task).start.path ≡ l.child ∷ p = l.path ∙ ap (λ (b : B). l.child ∷ (body b).start.path) cr ∙ ap (λ (q : List ℕ). l.child ∷ q) has.path in
      let r = stands.there o.task l.task l.task_is in
      record {
        task = r.0;
        at_ = subst (λ (q : List ℕ). At s q r.0) path r.1;
        has = record { one = l.task; is = l.task_is; path = path };
        creator = λ b h. ap (λ (x : B). created_now P (body x)) (some_is (sym l.creator_is ∙ h));
      }

  module _ (v : ℕ) (p : List ℕ) (has : IsNumbered body bodies v p) where
    pub children_told : ChildrenComplete P body bodies list given Complete v → (k : ℕ) (u : Task S) → At s (k ∷ p) u → IsComplete P s (k ∷ p)
    children_told f k u h = let c = child_entry k p v u has h in (tells c.entry.task (k ∷ p) c.has).0 (f c.entry c.listed c.parent)

    pub children_tell : ((k : ℕ) (u : Task S) → k < created_now P (body has.one) → At s (k ∷ p) u → IsComplete P s (k ∷ p)) → ChildrenComplete P body bodies list given Complete v
    children_tell f o i e =
        let c = entry_child o i p v has e in
        let l = tasks.linked o i in
        let n = below o i l in
        let m = c.creator has.one (ap (λ (w : ℕ). slice_get bodies w) e ∙ has.is) in
        (tells o.task (l.child ∷ p) c.has).1 (f l.child c.task (omega (arith, n, m)) c.at_)

    pub wait_told : (act : Act S) → IsWaitTold P body bodies list given Complete v has.one act → IsWaitMet P s p (created_now P (body has.one)) act
    wait_told Waited f = λ k u l h. children_told f k u h
    wait_told Awaited f = λ k u e h. let c = child_entry k p v u has h in (tells c.entry.task (k ∷ p) c.has).0 (f c.entry c.listed c.parent (tasks.linked c.entry c.listed) (ap (λ (n : ℕ). n + 1) c.child ∙ e))
    wait_told (WaitedOn named) f = λ k c l i a. children_forth P body bodies list given cells s tasks stands c p v has (f c i) k a
    wait_told Ticked f = tt
    wait_told (Load c) f = tt
    wait_told (Store c w) f = tt
    wait_told (Folded c op w slot) f = tt
    wait_told (Created o included) f = tt
    wait_told (Releases clauses included) f = tt
    wait_told (Printed key text) f = tt
    wait_told Ended f = tt
    wait_told (Fault kind line key) f = tt
    wait_told Over f = tt

    -- two links of an entry have one number as child
    child_same : (o : Open) (i : IsIn o list) (l : IsLinked body bodies o) → (tasks.linked o i).child ≡ l.child
    child_same o i l =
        let k = tasks.linked o i in
        let t : k.task ≡ l.task = some_is (sym k.task_is ∙ l.task_is) in
        head_is (sym k.path ∙ ap (λ (b : B). (body b).start.path) t ∙ l.path)

    pub wait_tells : (act : Act S) → IsWaitMet P s p (created_now P (body has.one)) act → IsWaitTold P body bodies list given Complete v has.one act
    wait_tells Waited f = children_tell (λ k u l h. f k u l h)
    wait_tells Awaited f = λ o i e l n. let c = entry_child o i p v has e in (tells o.task ((tasks.linked o i).child ∷ p) c.has).1 (f (tasks.linked o i).child c.task (ap (λ (m : ℕ). m + 1) (child_same o i l) ∙ n) c.at_)
    wait_tells (WaitedOn named) f = λ c i. children_back P body bodies list given cells s tasks stands c p v has below (λ k l a. f k c l i a)
    wait_tells Ticked f = tt
    wait_tells (Load c) f = tt
    wait_tells (Store c w) f = tt
    wait_tells (Folded c op w slot) f = tt
    wait_tells (Created o included) f = tt
    wait_tells (Releases clauses included) f = tt
    wait_tells (Printed key text) f = tt
    wait_tells Ended f = tt
    wait_tells (Fault kind line key) f = tt
    wait_tells Over f = tt

    -- the task of the state
    pub record Own : Type 0 where
      pub task : Task S
      pub at_ : At s p task
      pub body_is : task.body ≡ body has.one
      pub gives : (c : ℕ) → (IsIn c task.given ↔ given v c ≡ true)

    pub own : Own
    own = let r = stands.there v has.one has.is in record { task = r.0; at_ = subst (λ (q : List ℕ). At s q r.0) has.path r.1; body_is = r.2; gives = r.3 }

    pub own_is : (t : Task S) → At s p t → own.task ≡ t
    own_is t h = at_same s p own.task t own.at_ h

    ready_told : (q : List ℕ) → p ≡ q → (v ≡ 0) ⊎ IsMet list given v → IsReady s q (body has.one).start.context
    ready_told [] e m = tt
    ready_told (k ∷ q) e (inr m) = ready_of body bodies list given cells s tasks stands k q v (record { one = has.one; is = has.is; path = has.path ∙ e }) m
    ready_told (k ∷ q) e (inl z) =
        let g : tasks.main.one ≡ has.one = some_is (sym tasks.main.is ∙ ap (λ (w : ℕ). slice_get bodies w) (sym z) ∙ has.is) in
        let h : [] ≡ k ∷ q = sym tasks.main.path ∙ ap (λ (b : B). (body b).start.path) g ∙ has.path ∙ e in
        absurd cc

    ready_tells : (q : List ℕ) → p ≡ q → IsReady s q (body has.one).start.context → (v ≡ 0) ⊎ IsMet list given v
    ready_tells [] e r = inl (tasks.one_number v 0 has.one tasks.main.one has.is tasks.main.is (has.path ∙ e ∙ sym tasks.main.path))
    ready_tells (k ∷ q) e r = inr (met_of body bodies list given cells s tasks stands k q v (record { one = has.one; is = has.is; path = has.path ∙ e }) r)

    clause_told : (t : Task S) → t.body ≡ body has.one → IsClauseTold P body bodies list given Complete v has.one → WaitClause P s p t
    clause_told t e f = λ w k u h. children_told (f (ap (λ (x : Body S). x.start.order.wait) (sym e) ∙ w)) k u h

    clause_tells : (t : Task S) → t.body ≡ body has.one → WaitClause P s p t → IsClauseTold P body bodies list given Complete v has.one
    clause_tells t e f = λ w. children_tell (λ k u l h. f (ap (λ (x : Body S). x.start.order.wait) e ∙ w) k u h)

  -- what the core tells of a step is so
  pub step_told : (v : ℕ) (e : IsEnabled P body bodies list given Complete v) → (t : Task S) × CanStep P s (body e.one).start.path t × (t.body ≡ body e.one)
  step_told v e =
      let p = (body e.one).start.path in
      let has : IsNumbered body bodies v p = record { one = e.one; is = e.is; path = refl } in
      let o = own v p has in
      let same : body e.one ≡ o.task.body = sym o.body_is in (
        o.task,
        record {
          at_ = o.at_;
          goes = λ h. e.goes (subst (λ (x : Body S). IsHalt (act_now P x)) o.body_is h);
          ready = λ f. subst (λ (x : Body S). IsReady s p x.start.context) same (ready_told v p has p refl (e.met (subst (λ (x : Body S). x.found ≡ []) o.body_is f)));
          waits = subst (λ (x : Body S). IsWaitMet P s p (created_now P x) (act_now P x)) same (wait_told v p has (act_now P (body e.one)) e.waits);
        },
        o.body_is,
      )

  -- and what is so it tells
  pub step_tells : (v : ℕ) (p : List ℕ) (t : Task S) → IsNumbered body bodies v p → CanStep P s p t → IsEnabled P body bodies list given Complete v
  step_tells v p t has can =
      let o = own v p has in
      let same : t.body ≡ body has.one = ap (λ (x : Task S). x.body) (sym (own_is v p has t can.at_)) ∙ o.body_is in
      record {
        one = has.one;
        is = has.is;
        goes = λ h. can.goes (subst (λ (x : Body S). IsHalt (act_now P x)) (sym same) h);
        met = λ f. ready_tells v p has p refl (subst (λ (x : Body S). IsReady s p x.start.context) same (can.ready (subst (λ (x : Body S). x.found ≡ []) (sym same) f)));
        waits = wait_tells v p has (act_now P (body has.one)) (subst (λ (x : Body S). IsWaitMet P s p (created_now P x) (act_now P x)) same can.waits);
      }

  -- the right of a task to a cell is that of its entry
  entry_right : (v c : ℕ) (p : List ℕ) (has : IsNumbered body bodies v p) (a : Access) → HasEntry P body bodies list given Complete v c a → right_of (body has.one).start.context c ≡ Holds a.mode a.strong
  entry_right v c p has a h =
      let l = tasks.linked h.entry h.listed in
      let t : l.task ≡ has.one = some_is (sym l.task_is ∙ ap (λ (w : ℕ). slice_get bodies w) h.number ∙ has.is) in
      subst (λ (b : B). right_of (body b).start.context c ≡ Holds a.mode a.strong) t (l.rights.held c a h.at_)

  record FoundEntry (v c : ℕ) (m : Mode) (strong : Bool) : Type 0 where
    pub access : Access
    pub has : HasEntry P body bodies list given Complete v c access
    pub mode : access.mode ≡ m
    pub strong_is : access.strong ≡ strong

  found_entry : (v c k : ℕ) (p : List ℕ) (has : IsNumbered body bodies v (k ∷ p)) (m : Mode) (strong : Bool) → right_of (body has.one).start.context c ≡ Holds m strong → FoundEntry v c m strong
  found_entry v c k p has m strong r =
      let o = entry_of body bodies list given cells s tasks stands c k p v has in
      let l = tasks.linked o.0 o.1 in
      let t : has.one ≡ l.task = some_is (sym has.is ∙ ap (λ (w : ℕ). slice_get bodies w) (sym o.2) ∙ l.task_is) in
      let a = l.rights.given c m strong (subst (λ (b : B). right_of (body b).start.context c ≡ Holds m strong) t r) in
      record { access = a.0; has = record { entry = o.0; listed = o.1; number = o.2; at_ = a.1 }; mode = a.2; strong_is = a.3 }

  held_parts : (a b : Mode) (x y : Bool) → Holds a x ≡ Holds b y → (a ≡ b) × (x ≡ y)
  held_parts a b x y e = (cc, cc)

  -- the path of a task that has an entry is not main's
  entry_path : (v c : ℕ) (p : List ℕ) (has : IsNumbered body bodies v p) (a : Access) → HasEntry P body bodies list given Complete v c a → p ≢ []
  entry_path v c p has a h e =
      let l = tasks.linked h.entry h.listed in
      let t : l.task ≡ has.one = some_is (sym l.task_is ∙ ap (λ (w : ℕ). slice_get bodies w) h.number ∙ has.is) in
      let f : l.child ∷ (body l.creator).start.path ≡ [] = sym l.path ∙ ap (λ (b : B). (body b).start.path) t ∙ has.path ∙ e in
      absurd cc

  pub let_told : (v c : ℕ) (m : MayLet P body bodies list given Complete v c) → (t : Task S) × CanLet P s (body m.one).start.path c t × (t.body ≡ body m.one)
  let_told v c m =
      let p = (body m.one).start.path in
      let has : IsNumbered body bodies v p = record { one = m.one; is = m.is; path = refl } in
      let o = own v p has in
      let r : right_of o.task.body.start.context c ≡ Holds m.access.mode m.access.strong = ap (λ (x : Body S). right_of x.start.context c) o.body_is ∙ entry_right v c p has m.access m.has in (
        o.task,
        record {
          at_ = o.at_;
          not_main = entry_path v c p has m.access m.has;
          mode = m.access.mode;
          strong = m.access.strong;
          right = r;
          no_fold = λ op e. let h = held_parts m.access.mode (Fold op) m.access.strong true (sym r ∙ e) in m.no_fold op h.0 h.1;
          kept = λ i. let e : true ≡ false = sym ((o.gives c).0 i) ∙ m.kept in absurd cc;
          gone = gone o.task o.body_is m.gone;
        },
        o.body_is,
      )
    where
      gone : (t : Task S) → t.body ≡ body m.one → (right_of (stack_from P (body m.one).start (body m.one).found).base.context c ≡ Released) ⊎ ((is_ended P (body m.one) ≡ true) × IsClauseTold P body bodies list given Complete v m.one) → IsGone P s (body m.one).start.path c t
      gone t e (inl h) = inl (subst (λ (x : Body S). right_of (stack_from P x.start x.found).base.context c ≡ Released) (sym e) h)
      gone t e (inr h) = inr (subst (λ (x : Body S). is_ended P x ≡ true) (sym e) h.0, clause_told v (body m.one).start.path (record { one = m.one; is = m.is; path = refl }) t e h.1)

  pub let_tells : (v c : ℕ) (p : List ℕ) (t : Task S) → IsNumbered body bodies v p → CanLet P s p c t → MayLet P body bodies list given Complete v c
  let_tells v c [] t has can = absurd (can.not_main refl)
  let_tells v c (k ∷ p) t has can =
      let o = own v (k ∷ p) has in
      let same : t.body ≡ body has.one = ap (λ (x : Task S). x.body) (sym (own_is v (k ∷ p) has t can.at_)) ∙ o.body_is in
      let f = found_entry v c k p has can.mode can.strong (subst (λ (x : Body S). right_of x.start.context c ≡ Holds can.mode can.strong) same can.right) in
      record {
        one = has.one;
        is = has.is;
        access = f.access;
        has = f.has;
        no_fold = λ op m g. can.no_fold op (can.right ∙ λ i. Holds ((sym f.mode ∙ m) i) ((sym f.strong_is ∙ g) i));
        kept = not_true (given v c) (λ g. can.kept (subst (λ (x : Task S). IsIn c x.given) (own_is v (k ∷ p) has t can.at_) ((o.gives c).1 g)));
        gone = gone same can.gone;
      }
    where
      gone : t.body ≡ body has.one → IsGone P s (k ∷ p) c t → (right_of (stack_from P (body has.one).start (body has.one).found).base.context c ≡ Released) ⊎ ((is_ended P (body has.one) ≡ true) × IsClauseTold P body bodies list given Complete v has.one)
      gone e (inl h) = inl (subst (λ (x : Body S). right_of (stack_from P x.start x.found).base.context c ≡ Released) e h)
      gone e (inr h) = inr (subst (λ (x : Body S). is_ended P x ≡ true) e h.0, clause_tells v (k ∷ p) has t e h.1)

  entry_opened : (v c : ℕ) (a : Access) (h : HasEntry P body bodies list given Complete v c a) → HasOpened list c v
  entry_opened v c a h = record { entry = h.entry; listed = h.listed; number = h.number; named = named_at h.entry c a h.at_ }

  pub join_told : (v c : ℕ) (op : Op) (m : MayJoin P body bodies list given Complete v c op) → (t : Task S) × CanJoin P s (body m.one).start.path c op t × (t.body ≡ body m.one)
  join_told v c op m =
      let p = (body m.one).start.path in
      let has : IsNumbered body bodies v p = record { one = m.one; is = m.is; path = refl } in
      let o = own v p has in (
        o.task,
        record {
          at_ = o.at_;
          right = ap (λ (x : Body S). right_of x.start.context c) o.body_is ∙ (entry_right v c p has m.access m.has ∙ λ i. Holds (m.fold i) (m.strong i));
          kept = λ i. let e : true ≡ false = sym ((o.gives c).0 i) ∙ m.kept in absurd cc;
          ended = subst (λ (x : Body S). is_ended P x ≡ true) (sym o.body_is) m.ended;
          wait = clause_told v p has o.task o.body_is m.wait;
          satisfied = (join_same P body bodies list given cells s tasks stands c p v op has (entry_opened v c m.access m.has)).1 m.satisfied;
        },
        o.body_is,
      )

  pub join_tells : (v c k : ℕ) (op : Op) (p : List ℕ) (t : Task S) → IsNumbered body bodies v (k ∷ p) → CanJoin P s (k ∷ p) c op t → MayJoin P body bodies list given Complete v c op
  join_tells v c k op p t has can =
      let o = own v (k ∷ p) has in
      let same : t.body ≡ body has.one = ap (λ (x : Task S). x.body) (sym (own_is v (k ∷ p) has t can.at_)) ∙ o.body_is in
      let f = found_entry v c k p has (Fold op) true (subst (λ (x : Body S). right_of x.start.context c ≡ Holds (Fold op) true) same can.right) in
      record {
        one = has.one;
        is = has.is;
        access = f.access;
        has = f.has;
        fold = f.mode;
        strong = f.strong_is;
        kept = not_true (given v c) (λ g. can.kept (subst (λ (x : Task S). IsIn c x.given) (own_is v (k ∷ p) has t can.at_) ((o.gives c).1 g)));
        ended = subst (λ (x : Body S). is_ended P x ≡ true) same can.ended;
        wait = clause_tells v (k ∷ p) has t same can.wait;
        satisfied = (join_same P body bodies list given cells s tasks stands c (k ∷ p) v op has (entry_opened v c f.access f.has)).0 can.satisfied;
      }
