-- The moves keep that tasks are made and started as they should.
use Rattle.std.proofs.Common.{◌≡◌, ◌≢◌, ℕ, ◌⊎◌, inl, inr, refl, sym, subst, ap, ◌∙◌, List, [], ◌∷◌, arith, true, false}
use Rattle.oss_syntax.specs.declared.access.Op.{Op}
use Rattle.oss_syntax.specs.declared.access.Mode.TheVariants.{Fold}
use Rattle.oss_model.specs.Context.{right_of}
use Rattle.oss_model.specs.Forest.{IsJoinSatisfied}
use Rattle.oss_model.specs.Order.{IsSuffix, whole, longer, IsIn, here, there}
use Rattle.oss_model.specs.Rights.{Holds}
use Rattle.oss_model.specs.Bodies.{Order, Program, Act, Start, Body, stack_from, stage_act, stage_created, child_start, IsHalt}
use Rattle.oss_model.specs.Bodies.Act.{Created, Awaited, Waited, WaitedOn, Over, Ticked, Load, Store, Folded, Releases, Printed, Ended, Fault}
use Rattle.oss_model.specs.Machine.{Task, State, At, accesses, IsReady, IsWaitMet}
use Rattle.oss_model.specs.History.{MadeBy, IsMade, IsStarted, IsRightlyGiven}
use Rattle.oss_model.specs.Moves.{act_now, created_now, is_ended, after_answer, after_giving, new_task, CanStep, TaskStep, CanLet, CanJoin, GaveUp, IsGone, GoesOn}
use Rattle.oss_model.proofs.StageLemmas.{creation_counts, created_grows, released_stays}
use Rattle.oss_model.proofs.OrderLemmas.{suffix_trans, suffix_drop}
use Rattle.oss_model.proofs.TreeLemmas.{at_same, over_stops}
use Rattle.oss_model.proofs.GrowLemmas.{NewTask, Grown, join_stays, ready_stays, clause_stays, wait_stays}

which_number : (x y : ℕ) → (x ≡ y) ⊎ (x ≢ y)
which_number x y = grind arith

pub which_path : (p q : List ℕ) → (p ≡ q) ⊎ (p ≢ q)
which_path [] [] = inl refl
which_path [] (y ∷ q) = inr (λ e. cc)
which_path (x ∷ p) [] = inr (λ e. cc)
which_path (x ∷ p) (y ∷ q) = go (which_number x y) (which_path p q)
  where
    go : (x ≡ y) ⊎ (x ≢ y) → (p ≡ q) ⊎ (p ≢ q) → (x ∷ p ≡ y ∷ q) ⊎ (x ∷ p ≢ y ∷ q)
    go (inl a) (inl b) = inl (cc)
    go (inl a) (inr b) = inr (λ e. b (cc))
    go (inr a) b = inr (λ e. a (cc))

pub is_creation : {S : Type 0} (a : Act S) → ((o : Order S) × (a ≡ Created o false)) ⊎ ((o : Order S) → a ≢ Created o false)
is_creation (Created o false) = inl (o, refl)
is_creation (Created o true) = inr (λ q e. cc)
is_creation Ticked = inr (λ q e. cc)
is_creation (Load c) = inr (λ q e. cc)
is_creation (Store c v) = inr (λ q e. cc)
is_creation (Folded c op v z) = inr (λ q e. cc)
is_creation Awaited = inr (λ q e. cc)
is_creation Waited = inr (λ q e. cc)
is_creation (WaitedOn named) = inr (λ q e. cc)
is_creation (Releases cl z) = inr (λ q e. cc)
is_creation (Printed key text) = inr (λ q e. cc)
is_creation Ended = inr (λ q e. cc)
is_creation (Fault kind line key) = inr (λ q e. cc)
is_creation Over = inr (λ q e. cc)

-- what a task of the state after a step is
pub data StepView {S : Type 0} (P : Program S) (s : State S) (p : List ℕ) (t : Task S) (v0 : ℕ) : List ℕ → Task S → Type 0 where
  own : StepView P s p t v0 p (after_answer v0 t)
  new : (o : Order S) → act_now P t.body ≡ Created o false → StepView P s p t v0 (created_now P t.body ∷ p) (new_task P t.body o)
  old : {q : List ℕ} {u : Task S} → q ≢ p → At s q u → StepView P s p t v0 q u

pub suffix_cases : {x v : ℕ} {past ys : List ℕ} → IsSuffix (v ∷ past) (x ∷ ys) → (past ≡ ys) ⊎ IsSuffix (v ∷ past) ys
suffix_cases whole = inl refl
suffix_cases (longer h) = inr h

-- the number of the next child is new
pub fresh_child : {S : Type 0} (P : Program S) (main : Start S) (s : State S) (p : List ℕ) (t u : Task S) → IsMade P main s → At s p t → At s (created_now P t.body ∷ p) u → ⊥
fresh_child {S = S} P main s p t u made at_ k =
    let b = made.child (created_now P t.body) p u k in
    let f = at_same s p b.creator t b.at_ at_ in
    let d : IsSuffix (b.answer ∷ b.past) t.body.found = subst (λ (z : Task S). IsSuffix (b.answer ∷ b.past) z.body.found) f b.happened in
    let num : stage_created P t.body.start b.past ≡ created_now P t.body = subst (λ (z : Task S). stage_created P z.body.start b.past ≡ created_now P t.body) f b.number in
    let act : stage_act P t.body.start b.past ≡ Created b.order false = subst (λ (z : Task S). stage_act P z.body.start b.past ≡ Created b.order false) f b.act in
    let one = creation_counts P t.body.start b.answer b.past b.order act in
    let l = created_grows P t.body.start d in
    omega arith

grows_self : {S : Type 0} (u : Task S) → GoesOn u u
grows_self u = record { start = refl; found = whole; given = λ c h. h }

module _ {S : Type 0} (P : Program S) (main : Start S) (s n : State S) (p : List ℕ) (t : Task S) (v0 : ℕ) (made : IsMade P main s) (at_ : At s p t) (goes : IsHalt (act_now P t.body) → ⊥) (step : TaskStep P s p t v0 n) where
  pub step_view : (q : List ℕ) (u : Task S) → At n q u → StepView P s p t v0 q u
  step_view q u h = go (which_path q p)
    where
      same_own : q ≡ p → StepView P s p t v0 q u
      same_own e =
          let f = at_same n p u _ (subst (λ (z : List ℕ). At n z u) e h) step.own in
          subst (λ (z : List ℕ). StepView P s p t v0 z u) (sym e) (subst (λ (z : Task S). StepView P s p t v0 p z) (sym f) own)

      creation : q ≢ p → (o : Order S) → act_now P t.body ≡ Created o false → (q ≡ created_now P t.body ∷ p) ⊎ (q ≢ created_now P t.body ∷ p) → StepView P s p t v0 q u
      creation ne o a (inl e) =
          let f = at_same n (created_now P t.body ∷ p) u (new_task P t.body o) (subst (λ (z : List ℕ). At n z u) e h) (step.made o a) in
          subst (λ (z : List ℕ). StepView P s p t v0 z u) (sym e) (subst (λ (z : Task S). StepView P s p t v0 (created_now P t.body ∷ p) z) (sym f) (new o a))
      creation ne o a (inr e) = old ne (sym (step.others q ne (λ o' a'. e)) ∙ h)

      other : q ≢ p → ((o : Order S) × (act_now P t.body ≡ Created o false)) ⊎ ((o : Order S) → act_now P t.body ≢ Created o false) → StepView P s p t v0 q u
      other ne (inl a) = creation ne a.0 a.1 (which_path q (created_now P t.body ∷ p))
      other ne (inr a) = old ne (sym (step.others q ne (λ o a'. absurd (a o a'))) ∙ h)

      go : (q ≡ p) ⊎ (q ≢ p) → StepView P s p t v0 q u
      go (inl e) = same_own e
      go (inr e) = other e (is_creation (act_now P t.body))

  -- a task of s other than the one that stepped is as it was
  pub others_forth : (q : List ℕ) (u : Task S) → q ≢ p → At s q u → At n q u
  others_forth q u ne h = step.others q ne (λ o a e. fresh_here o a e) ∙ h
    where
      stale : IsMade P main s → (r : List ℕ) → r ≡ created_now P t.body ∷ p → At s r u → ⊥
      stale m r e g =
          let k : At s (created_now P t.body ∷ p) u = subst (λ (z : List ℕ). At s z u) e g in
          let b = m.child (created_now P t.body) p u k in
          let f = at_same s p b.creator t b.at_ at_ in
          let d : IsSuffix (b.answer ∷ b.past) t.body.found = subst (λ (z : Task S). IsSuffix (b.answer ∷ b.past) z.body.found) f b.happened in
          let num : stage_created P t.body.start b.past ≡ created_now P t.body = subst (λ (z : Task S). stage_created P z.body.start b.past ≡ created_now P t.body) f b.number in
          let act : stage_act P t.body.start b.past ≡ Created b.order false = subst (λ (z : Task S). stage_act P z.body.start b.past ≡ Created b.order false) f b.act in
          let one = creation_counts P t.body.start b.answer b.past b.order act in
          let l = created_grows P t.body.start d in
          omega arith

      fresh_here : (o : Order S) → act_now P t.body ≡ Created o false → q ≡ created_now P t.body ∷ p → ⊥
      fresh_here o a e = stale made q e h

  pub step_grown : Grown P s n
  step_grown = record { keeps = λ q u h. keep q u h (which_path q p); news = λ q v h. from q v (step_view q v h) }
    where
      keep : (q : List ℕ) (u : Task S) → At s q u → (q ≡ p) ⊎ (q ≢ p) → (v : Task S) × At n q v × GoesOn u v
      keep q u h (inl e) =
          let f = at_same s p u t (subst (λ (z : List ℕ). At s z u) e h) at_ in
          let g : GoesOn u (after_answer v0 t) = subst (λ (z : Task S). GoesOn z (after_answer v0 t)) (sym f) (record { start = refl; found = longer whole; given = λ c i. i }) in
          (after_answer v0 t, subst (λ (z : List ℕ). At n z (after_answer v0 t)) (sym e) step.own, g)
      keep q u h (inr e) = (u, others_forth q u e h, grows_self u)

      from : (q : List ℕ) (v : Task S) → StepView P s p t v0 q v → ((u : Task S) × At s q u × GoesOn u v) ⊎ NewTask P s q v
      from q v own = inl (t, at_, record { start = refl; found = longer whole; given = λ c i. i })
      from q v (new o a) = inr (record { path = p; creator = t; at_ = at_; order = o; act = a; place = refl; start = refl; found = refl; given = refl })
      from q v (old e h) = inl (v, h, grows_self v)

  -- a task that has ended makes no step
  pub step_still : (q : List ℕ) (u v : Task S) → At s q u → At n q v → is_ended P u.body ≡ true → is_ended P v.body ≡ true
  step_still q u v h k o = go (which_path q p)
    where
      go : (q ≡ p) ⊎ (q ≢ p) → is_ended P v.body ≡ true
      go (inl e) =
          let f = at_same s p u t (subst (λ (z : List ℕ). At s z u) e h) at_ in
          let g : is_ended P t.body ≡ true = subst (λ (z : Task S). is_ended P z.body ≡ true) f o in
          absurd (goes (subst IsHalt (sym (over_stops P t.body.start t.body.found g)) tt))
      go (inr e) =
          let f = at_same n q v u k (others_forth q u e h) in
          subst (λ (z : Task S). is_ended P z.body ≡ true) (sym f) o

  -- a task of s is there in n, gone on
  kept : (q : List ℕ) (u : Task S) → At s q u → (v : Task S) × At n q v × GoesOn u v
  kept q u h = (step_grown).keeps q u h

  made_forth : (k : ℕ) (q : List ℕ) (u v : Task S) → v.body.start ≡ u.body.start → MadeBy P s k q u → MadeBy P n k q v
  made_forth k q u v e b =
      let c = kept q b.creator b.at_ in
      record {
        creator = c.0;
        at_ = c.1;
        past = b.past;
        answer = b.answer;
        order = b.order;
        happened = suffix_trans b.happened c.2.found;
        number = subst (λ (z : Start S). stage_created P z b.past ≡ k) (sym c.2.start) b.number;
        act = subst (λ (z : Start S). stage_act P z b.past ≡ Created b.order false) (sym c.2.start) b.act;
        start = e ∙ (b.start ∙ ap (λ (z : Start S). child_start (stack_from P z b.past).base b.order) (sym c.2.start));
      }

  child_view : (r : List ℕ) (u : Task S) → StepView P s p t v0 r u → (k : ℕ) (q : List ℕ) → r ≡ k ∷ q → MadeBy P n k q u
  child_view r u own k q e = made_forth k q t u refl (made.child k q t (subst (λ (z : List ℕ). At s z t) e at_))
  child_view r u (new o a) k q e =
      let f : created_now P t.body ≡ k = cc (e) in
      let g : p ≡ q = cc (e) in
      subst (λ (z : List ℕ). MadeBy P n k z (new_task P t.body o)) g (record {
        creator = after_answer v0 t;
        at_ = step.own;
        past = t.body.found;
        answer = v0;
        order = o;
        happened = whole;
        number = f;
        act = a;
        start = refl;
      })
  child_view r u (old ne h) k q e = made_forth k q u u refl (made.child k q u (subst (λ (z : List ℕ). At s z u) e h))

  forth_at : (q : List ℕ) (u : Task S) → At s q u → (v : Task S) × At n q v
  forth_at q u h = let k = kept q u h in (k.0, k.1)

  made_view : (r : List ℕ) (u : Task S) → StepView P s p t v0 r u → (past : List ℕ) (v : ℕ) (o : Order S) → IsSuffix (v ∷ past) u.body.found → stage_act P u.body.start past ≡ Created o false → (w : Task S) × At n (stage_created P u.body.start past ∷ r) w
  made_view r u own past v o h a = go (suffix_cases h)
    where
      go : (past ≡ t.body.found) ⊎ IsSuffix (v ∷ past) t.body.found → (w : Task S) × At n (stage_created P t.body.start past ∷ p) w
      go (inl e) =
          let a' : act_now P t.body ≡ Created o false = subst (λ (z : List ℕ). stage_act P t.body.start z ≡ Created o false) e a in
          (new_task P t.body o, subst (λ (z : List ℕ). At n (stage_created P t.body.start z ∷ p) (new_task P t.body o)) (sym e) (step.made o a'))
      go (inr g) = let k = made.made p t past v o at_ g a in forth_at (stage_created P t.body.start past ∷ p) k.0 k.1
  made_view r u (new o' a') past v o h a = elim h [ ]
  made_view r u (old ne g) past v o h a = let k = made.made r u past v o g h a in forth_at (stage_created P u.body.start past ∷ r) k.0 k.1

  goes_view : (r : List ℕ) (u : Task S) → StepView P s p t v0 r u → (past : List ℕ) (v : ℕ) → IsSuffix (v ∷ past) u.body.found → IsHalt (stage_act P u.body.start past) → ⊥
  goes_view r u own past v h x = go (suffix_cases h)
    where
      go : (past ≡ t.body.found) ⊎ IsSuffix (v ∷ past) t.body.found → ⊥
      go (inl e) = goes (subst (λ (z : List ℕ). IsHalt (stage_act P t.body.start z)) e x)
      go (inr g) = made.goes p t past v at_ g x
  goes_view r u (new o' a') past v h x = elim h [ ]
  goes_view r u (old ne g) past v h x = made.goes r u past v g h x

  pub step_made : IsMade P main n
  step_made =
      let m = kept [] made.main_task made.main_at in
      record {
        main_task = m.0;
        main_at = m.1;
        main_start = m.2.start ∙ made.main_start;
        child = λ k q u h. child_view (k ∷ q) u (step_view (k ∷ q) u h) k q refl;
        made = λ q u past v o h g a. made_view q u (step_view q u h) past v o g a;
        goes = λ q u past v h g x. goes_view q u (step_view q u h) past v g x;
      }

module _ {S : Type 0} (P : Program S) (main : Start S) (s n : State S) (p : List ℕ) (t : Task S) (v0 : ℕ) (made : IsMade P main s) (started : IsStarted P s) (can : CanStep P s p t) (step : TaskStep P s p t v0 n) where
  view : (q : List ℕ) (u : Task S) → At n q u → StepView P s p t v0 q u
  view q u h = step_view P main s n p t v0 made can.at_ can.goes step q u h

  grown : Grown P s n
  grown = step_grown P main s n p t v0 made can.at_ can.goes step

  still : (q : List ℕ) (u v : Task S) → At s q u → At n q v → is_ended P u.body ≡ true → is_ended P v.body ≡ true
  still q u v h k o = step_still P main s n p t v0 made can.at_ can.goes step q u v h k o

  ready_view : (r : List ℕ) (u : Task S) → StepView P s p t v0 r u → (v : ℕ) (past : List ℕ) → IsSuffix (v ∷ past) u.body.found → IsReady n r u.body.start.context
  ready_view r u own v past h = ready_stays P main s n made started grown p t.body.start.context (first t.body.found refl)
    where
      first : (f : List ℕ) → t.body.found ≡ f → IsReady s p t.body.start.context
      first [] e = can.ready e
      first (w ∷ ws) e = started.ready p t w ws can.at_ (subst (λ (z : List ℕ). IsSuffix (w ∷ ws) z) (sym e) whole)
  ready_view r u (new o a) v past h = elim h [ ]
  ready_view r u (old ne g) v past h = ready_stays P main s n made started grown r u.body.start.context (started.ready r u v past g h)

  joined_view : (r : List ℕ) (u : Task S) → StepView P s p t v0 r u → (c : ℕ) (op : Op) → (right_of u.body.start.context) c ≡ Holds (Fold op) true → IsIn c u.given → IsJoinSatisfied (accesses n c) op r
  joined_view r u own c op h g = join_stays P main s n made started grown c op p (started.joined p t c op can.at_ h g)
  joined_view r u (new o a) c op h g = elim g [ ]
  joined_view r u (old ne k) c op h g = join_stays P main s n made started grown c op r (started.joined r u c op k h g)

  waited_view : (r : List ℕ) (u : Task S) → StepView P s p t v0 r u → (v : ℕ) (past : List ℕ) → IsSuffix (v ∷ past) u.body.found → IsWaitMet P n r (stage_created P u.body.start past) (stage_act P u.body.start past)
  waited_view r u own v past h = go (suffix_cases h)
    where
      go : (past ≡ t.body.found) ⊎ IsSuffix (v ∷ past) t.body.found → IsWaitMet P n p (stage_created P t.body.start past) (stage_act P t.body.start past)
      go (inl e) =
          subst (λ (z : List ℕ). IsWaitMet P n p (stage_created P t.body.start z) (stage_act P t.body.start z)) (sym e)
          (wait_stays P main s n made started grown still p t (created_now P t.body) (act_now P t.body) can.at_ (omega arith) can.waits)
      go (inr g) =
          wait_stays P main s n made started grown still p t (stage_created P t.body.start past) (stage_act P t.body.start past) can.at_ (created_grows P t.body.start (suffix_drop g)) (started.waited p t v past can.at_ g)
  waited_view r u (new o a) v past h = elim h [ ]
  waited_view r u (old ne k) v past h =
      wait_stays P main s n made started grown still r u (stage_created P u.body.start past) (stage_act P u.body.start past) k (created_grows P u.body.start (suffix_drop h)) (started.waited r u v past k h)

  given_view : (r : List ℕ) (u : Task S) → StepView P s p t v0 r u → (c : ℕ) → IsIn c u.given → IsRightlyGiven P n r u c
  given_view r u own c g =
      let k = started.given p t c can.at_ g in
      record { mode = k.mode; strong = k.strong; right = k.right; gone = go k.gone; fold_over = λ op h. absurd (goes_on (k.fold_over op h)) }
    where
      goes_on : (stack_from P t.body.start t.body.found).ended ≡ true → ⊥
      goes_on e = can.goes (subst IsHalt (sym (over_stops P t.body.start t.body.found e)) tt)

      go : IsGone P s p c t → IsGone P n p c (after_answer v0 t)
      go (inl e) = inl (released_stays P t.body.start t.body.found (v0 ∷ t.body.found) c (longer whole) e)
      go (inr e) = absurd (goes_on e.0)
  given_view r u (new o a) c g = elim g [ ]
  given_view r u (old ne k) c g =
      let h = started.given r u c k g in
      record { mode = h.mode; strong = h.strong; right = h.right; gone = go h.gone; fold_over = h.fold_over }
    where
      go : IsGone P s r c u → IsGone P n r c u
      go (inl e) = inl e
      go (inr e) = inr (e.0, clause_stays P main s n made started grown still r u u k refl e.0 e.1)

  pub step_started : IsStarted P n
  step_started =
      record {
        ready = λ q u v past h g. ready_view q u (view q u h) v past g;
        joined = λ q u c op h r g. joined_view q u (view q u h) c op r g;
        waited = λ q u v past h g. waited_view q u (view q u h) v past g;
        given = λ q u c h g. given_view q u (view q u h) c g;
      }

-- what a task of the state after a cell was given up is
pub data GaveUpView {S : Type 0} (s : State S) (p : List ℕ) (c : ℕ) (t : Task S) : List ℕ → Task S → Type 0 where
  own : GaveUpView s p c t p (after_giving c t)
  old : {q : List ℕ} {u : Task S} → q ≢ p → At s q u → GaveUpView s p c t q u

-- why the cell may be given up
pub record MayGive {S : Type 0} (P : Program S) (s : State S) (p : List ℕ) (c : ℕ) (t : Task S) : Type 0 where
  pub well : IsRightlyGiven P s p t c
  pub satisfied : (op : Op) → (right_of t.body.start.context) c ≡ Holds (Fold op) true → IsJoinSatisfied (accesses s c) op p

pub in_cons : {c d : ℕ} {xs : List ℕ} → IsIn d (c ∷ xs) → (d ≡ c) ⊎ IsIn d xs
in_cons here = inl refl
in_cons (there h) = inr h

module _ {S : Type 0} (P : Program S) (main : Start S) (s n : State S) (p : List ℕ) (d : ℕ) (t : Task S) (made : IsMade P main s) (started : IsStarted P s) (at_ : At s p t) (may : MayGive P s p d t) (gave : GaveUp s p d t n) where
  pub gave_view : (q : List ℕ) (u : Task S) → At n q u → GaveUpView s p d t q u
  gave_view q u h = go (which_path q p)
    where
      go : (q ≡ p) ⊎ (q ≢ p) → GaveUpView s p d t q u
      go (inl e) =
          let f = at_same n p u _ (subst (λ (z : List ℕ). At n z u) e h) gave.own in
          subst (λ (z : List ℕ). GaveUpView s p d t z u) (sym e) (subst (λ (z : Task S). GaveUpView s p d t p z) (sym f) own)
      go (inr e) = old e (sym (gave.others q e) ∙ h)

  pub gave_grown : Grown P s n
  gave_grown = record { keeps = λ q u h. keep q u h (which_path q p); news = λ q v h. inl (from q v (gave_view q v h)) }
    where
      keep : (q : List ℕ) (u : Task S) → At s q u → (q ≡ p) ⊎ (q ≢ p) → (v : Task S) × At n q v × GoesOn u v
      keep q u h (inl e) =
          let f = at_same s p u t (subst (λ (z : List ℕ). At s z u) e h) at_ in
          let g : GoesOn u (after_giving d t) = subst (λ (z : Task S). GoesOn z (after_giving d t)) (sym f) (record { start = refl; found = whole; given = λ c i. there i }) in
          (after_giving d t, subst (λ (z : List ℕ). At n z (after_giving d t)) (sym e) gave.own, g)
      keep q u h (inr e) = (u, gave.others q e ∙ h, grows_self u)

      from : (q : List ℕ) (v : Task S) → GaveUpView s p d t q v → (u : Task S) × At s q u × GoesOn u v
      from q v own = (t, at_, record { start = refl; found = whole; given = λ c i. there i })
      from q v (old e h) = (v, h, grows_self v)

  -- the body of each task is as it was
  body_back : (q : List ℕ) (u : Task S) → GaveUpView s p d t q u → (w : Task S) × At s q w × (w.body ≡ u.body)
  body_back q u own = (t, at_, refl)
  body_back q u (old e h) = (u, h, refl)

  pub gave_still : (q : List ℕ) (u v : Task S) → At s q u → At n q v → is_ended P u.body ≡ true → is_ended P v.body ≡ true
  gave_still q u v h k o =
      let b = body_back q v (gave_view q v k) in
      let e = at_same s q u b.0 h b.1 in
      subst (λ (z : Body S). is_ended P z ≡ true) (ap (λ (z : Task S). z.body) e ∙ b.2) o

  body_forth : (q : List ℕ) (u : Task S) → At s q u → (v : Task S) × At n q v × (v.body ≡ u.body)
  body_forth q u h = go (which_path q p)
    where
      go : (q ≡ p) ⊎ (q ≢ p) → (v : Task S) × At n q v × (v.body ≡ u.body)
      go (inl e) =
          let f = at_same s p u t (subst (λ (z : List ℕ). At s z u) e h) at_ in
          (after_giving d t, subst (λ (z : List ℕ). At n z (after_giving d t)) (sym e) gave.own, ap (λ (z : Task S). z.body) (sym f))
      go (inr e) = (u, gave.others q e ∙ h, refl)

  made_by_forth : (k : ℕ) (q : List ℕ) (u v : Task S) → u.body ≡ v.body → MadeBy P s k q u → MadeBy P n k q v
  made_by_forth k q u v e b =
      let c = body_forth q b.creator b.at_ in
      record {
        creator = c.0;
        at_ = c.1;
        past = b.past;
        answer = b.answer;
        order = b.order;
        happened = subst (λ (z : Body S). IsSuffix (b.answer ∷ b.past) z.found) (sym c.2) b.happened;
        number = subst (λ (z : Body S). stage_created P z.start b.past ≡ k) (sym c.2) b.number;
        act = subst (λ (z : Body S). stage_act P z.start b.past ≡ Created b.order false) (sym c.2) b.act;
        start = ap (λ (z : Body S). z.start) (sym e) ∙ (b.start ∙ ap (λ (z : Body S). child_start (stack_from P z.start b.past).base b.order) (sym c.2));
      }

  pub gave_made : IsMade P main n
  gave_made =
      let m = body_forth [] made.main_task made.main_at in
      record {
        main_task = m.0;
        main_at = m.1;
        main_start = ap (λ (z : Body S). z.start) m.2 ∙ made.main_start;
        child = λ k q u h. let b = body_back (k ∷ q) u (gave_view (k ∷ q) u h) in made_by_forth k q b.0 u b.2 (made.child k q b.0 b.1);
        made = λ q u past v o h g a. creates q u past v o g a (body_back q u (gave_view q u h));
        goes = λ q u past v h g x. let b = body_back q u (gave_view q u h) in
            made.goes q b.0 past v b.1 (subst (λ (z : Body S). IsSuffix (v ∷ past) z.found) (sym b.2) g) (subst (λ (z : Body S). IsHalt (stage_act P z.start past)) (sym b.2) x);
      }
    where
      creates : (q : List ℕ) (u : Task S) (past : List ℕ) (v : ℕ) (o : Order S) → IsSuffix (v ∷ past) u.body.found → stage_act P u.body.start past ≡ Created o false → (w : Task S) × At s q w × (w.body ≡ u.body) → (w : Task S) × At n (stage_created P u.body.start past ∷ q) w
      creates q u past v o g a b =
          let k = made.made q b.0 past v o b.1 (subst (λ (z : Body S). IsSuffix (v ∷ past) z.found) (sym b.2) g) (subst (λ (z : Body S). stage_act P z.start past ≡ Created o false) (sym b.2) a) in
          let f = body_forth (stage_created P b.0.body.start past ∷ q) k.0 k.1 in
          (f.0, subst (λ (z : Body S). At n (stage_created P z.start past ∷ q) f.0) b.2 f.1)

  joined_gave : (r : List ℕ) (u : Task S) → GaveUpView s p d t r u → (c : ℕ) (op : Op) → (right_of u.body.start.context) c ≡ Holds (Fold op) true → IsIn c u.given → IsJoinSatisfied (accesses n c) op r
  joined_gave r u own c op h g = join_stays P main s n made started gave_grown c op p (go (in_cons g))
    where
      go : (c ≡ d) ⊎ IsIn c t.given → IsJoinSatisfied (accesses s c) op p
      go (inl e) = subst (λ (z : ℕ). IsJoinSatisfied (accesses s z) op p) (sym e) (may.satisfied op (subst (λ (z : ℕ). (right_of t.body.start.context) z ≡ Holds (Fold op) true) e h))
      go (inr i) = started.joined p t c op at_ h i
  joined_gave r u (old e k) c op h g = join_stays P main s n made started gave_grown c op r (started.joined r u c op k h g)

  given_gave : (r : List ℕ) (u : Task S) → GaveUpView s p d t r u → (c : ℕ) → IsIn c u.given → IsRightlyGiven P n r u c
  given_gave r u own c g = go (in_cons g)
    where
      gone_still : (e : ℕ) → IsGone P s p e t → IsGone P n p e (after_giving d t)
      gone_still e (inl h) = inl h
      gone_still e (inr h) = inr (h.0, clause_stays P main s n made started gave_grown gave_still p t (after_giving d t) at_ refl h.0 h.1)

      again : (e : ℕ) → IsRightlyGiven P s p t e → IsRightlyGiven P n p (after_giving d t) e
      again e k = record { mode = k.mode; strong = k.strong; right = k.right; gone = gone_still e k.gone; fold_over = k.fold_over }

      go : (c ≡ d) ⊎ IsIn c t.given → IsRightlyGiven P n p (after_giving d t) c
      go (inl e) = subst (λ (z : ℕ). IsRightlyGiven P n p (after_giving d t) z) (sym e) (again d may.well)
      go (inr i) = again c (started.given p t c at_ i)
  given_gave r u (old e k) c g =
      let h = started.given r u c k g in
      record { mode = h.mode; strong = h.strong; right = h.right; gone = go h.gone; fold_over = h.fold_over }
    where
      go : IsGone P s r c u → IsGone P n r c u
      go (inl h) = inl h
      go (inr h) = inr (h.0, clause_stays P main s n made started gave_grown gave_still r u u k refl h.0 h.1)

  pub gave_started : IsStarted P n
  gave_started =
      record {
        ready = λ q u v past h g. readies q u v past g (body_back q u (gave_view q u h));
        joined = λ q u c op h r g. joined_gave q u (gave_view q u h) c op r g;
        waited = λ q u v past h g. waits q u v past g (body_back q u (gave_view q u h));
        given = λ q u c h g. given_gave q u (gave_view q u h) c g;
      }
    where
      readies : (q : List ℕ) (u : Task S) (v : ℕ) (past : List ℕ) → IsSuffix (v ∷ past) u.body.found → (w : Task S) × At s q w × (w.body ≡ u.body) → IsReady n q u.body.start.context
      readies q u v past g b =
          subst (λ (z : Body S). IsReady n q z.start.context) b.2 (ready_stays P main s n made started gave_grown q b.0.body.start.context
          (started.ready q b.0 v past b.1 (subst (λ (z : Body S). IsSuffix (v ∷ past) z.found) (sym b.2) g)))

      waits : (q : List ℕ) (u : Task S) (v : ℕ) (past : List ℕ) → IsSuffix (v ∷ past) u.body.found → (w : Task S) × At s q w × (w.body ≡ u.body) → IsWaitMet P n q (stage_created P u.body.start past) (stage_act P u.body.start past)
      waits q u v past g b =
          let g' = subst (λ (z : Body S). IsSuffix (v ∷ past) z.found) (sym b.2) g in
          subst (λ (z : Body S). IsWaitMet P n q (stage_created P z.start past) (stage_act P z.start past)) b.2
          (wait_stays P main s n made started gave_grown gave_still q b.0 (stage_created P b.0.body.start past) (stage_act P b.0.body.start past) b.1 (created_grows P b.0.body.start (suffix_drop g')) (started.waited q b.0 v past b.1 g'))

-- a Let and a Join may give the cell up
pub let_may : {S : Type 0} (P : Program S) (s : State S) (p : List ℕ) (c : ℕ) (t : Task S) → CanLet P s p c t → MayGive P s p c t
let_may P s p c t k =
    record {
      well = record { mode = k.mode; strong = k.strong; right = k.right; gone = k.gone; fold_over = λ op h. absurd (k.no_fold op h) };
      satisfied = λ op h. absurd (k.no_fold op h);
    }

pub join_may : {S : Type 0} (P : Program S) (s : State S) (p : List ℕ) (c : ℕ) (op : Op) (t : Task S) → CanJoin P s p c op t → MayGive P s p c t
join_may P s p c op t k =
    record {
      well = record { mode = Fold op; strong = true; right = k.right; gone = inr (k.ended, k.wait); fold_over = λ q h. k.ended };
      satisfied = λ q h. same q h;
    }
  where
    same : (q : Op) → (right_of t.body.start.context) c ≡ Holds (Fold q) true → IsJoinSatisfied (accesses s c) q p
    same q h = let e : op ≡ q = fold_op op q (sym k.right ∙ h) in subst (λ (z : Op). IsJoinSatisfied (accesses s c) z p) e k.satisfied
      where
        fold_op : (a b : Op) → Holds (Fold a) true ≡ Holds (Fold b) true → a ≡ b
        fold_op a b e = cc
