-- Conflicting touches happen in the order of their keys.
use Rattle.std.proofs.Common.{◌≡◌, ℕ, ◌+◌, ◌<◌, ◌≤◌, ◌⊎◌, inl, inr, refl, sym, subst, ap, ◌∙◌, List, [], ◌∷◌, length, arith, Bool, true, false}
use Rattle.oss_syntax.specs.declared.access.Mode.{Mode}
use Rattle.oss_syntax.specs.declared.access.Op.{Op}
use Rattle.oss_syntax.specs.declared.access.Mode.TheVariants.{Read, Write, Fold}
use Rattle.oss_model.specs.Forest.{IsDone, IsWriteSatisfied, IsReadSatisfied, IsJoinSatisfied, IsRead, done}
use Rattle.oss_model.specs.Order.{IsSuffix, whole, longer}
use Rattle.oss_model.specs.Rights.{Right, Holds, Touch, Reads, Folds, covers, Conflicts}
use Rattle.oss_model.specs.Context.{Context, child_context, right_of}
use Rattle.oss_model.specs.Bodies.{Order, Program, Act, Start, stack_from, stage_act, stage_created, child_start, Touches}
use Rattle.oss_model.specs.Bodies.Act.{Created, Awaited, Waited, WaitedOn, Over}
use Rattle.oss_model.specs.Machine.{Task, State, At, find, HasAccess, HasGiven, accesses, IsChild, is_child, mode_in, IsReady, IsComplete, IsWaitMet}
use Rattle.oss_model.specs.Memory.{Event, Happened}
use Rattle.oss_model.specs.History.{MadeBy, IsMade, IsStarted, IsRightlyGiven}
use Rattle.oss_model.specs.Agreement.{MainStarts, Compatible}
use Rattle.oss_model.proofs.Places.{IsEarlierPlace}
use Rattle.oss_model.proofs.JudgeLemmas.{covers_trans, Permits, op_eq_is}
use Rattle.oss_model.proofs.StageLemmas.{creating, stage_right, StartsWell, Touching, stage_touch, created_grows, creation_counts, creation_at, stage_passes}
use Rattle.oss_model.proofs.LendLemmas.{LentFor, Clears, Cleared, stage_lent, lent_or_cleared, created_lends, created_awaits, lent_touch}
use Rattle.oss_model.proofs.OrderLemmas.{suffix_trans, suffix_drop, suffix_linear, suffix_full, Lie, lie}
use Rattle.oss_model.proofs.TreeLemmas.{at_same, AccessOf, has_access, access_up, access_chain, task_above, write_satisfied_above, read_satisfied_above, join_satisfied_above, write_satisfied_before, read_satisfied_before, join_satisfied_before, mode_is, complete_done, Late, covered_stage, before_given, starts_well, next_of, start_right}

clash_folds : (op : Op) (t : Touch) (a : Bool) (u : Touch) (b : Bool) → Permits (Fold op) t a → Permits (Fold op) u b → Conflicts t a u b → ⊥
clash_folds op t a u b Permits.fold Permits.fold h = h refl

clash_reads_at : (t : Touch) (a : Bool) (b : Bool) → Permits Read t a → Conflicts t a Reads b → ⊥
clash_reads_at t a b Permits.read h = h

covers_read : (m : Mode) → covers Read m ≡ true → m ≡ Read
covers_read Read h = refl
covers_read Write h = cc
covers_read (Fold op) h = cc

covers_fold : (op : Op) (m : Mode) → covers (Fold op) m ≡ true → m ≡ Fold op
covers_fold op Read h = cc
covers_fold op Write h = cc
covers_fold op (Fold b) h = ap (λ (z : Op). Fold z) (sym (op_eq_is op b h))

touch_no_creation : {S : Type 0} {act : Act S} {o : Order S} {c : ℕ} {t : Touch} {slot : Bool} → Touches act c t slot → act ≡ Created o false → ⊥
touch_no_creation Touches.load q = cc
touch_no_creation Touches.store q = cc
touch_no_creation Touches.folded q = cc

touch_no_await : {S : Type 0} {act : Act S} {c : ℕ} {t : Touch} {slot : Bool} → Touches act c t slot → act ≡ Awaited → ⊥
touch_no_await Touches.load q = cc
touch_no_await Touches.store q = cc
touch_no_await Touches.folded q = cc

slot_fold : (m : Mode) (t : Touch) (slot : Bool) → Permits m t slot → slot ≡ true → (op : Op) × (m ≡ Fold op)
slot_fold m t slot Permits.read e = cc
slot_fold m t slot Permits.write e = cc
slot_fold m t slot (Permits.fold {op = op}) e = (op, refl)

holds_same : (r : Right) (m n : Mode) (a b : Bool) → r ≡ Holds m a → r ≡ Holds n b → m ≡ n
holds_same r m n a b h k = cc

-- a stage of the one history that is shorter than a stage of the other
earlier_stage : {xs ys past more : List ℕ} {v : ℕ} → IsSuffix xs ys ⊎ IsSuffix ys xs → IsSuffix (v ∷ past) xs → IsSuffix more ys → length past < length more → IsSuffix (v ∷ past) more
earlier_stage (inl k) h g l = suffix_linear (suffix_trans h k) g (omega arith)
earlier_stage (inr k) h g l = suffix_linear h (suffix_trans g k) (omega arith)

no_shorter : {S : Type 0} (P : Program S) (b : Start S) {xs ys past more : List ℕ} {v : ℕ} → IsSuffix xs ys ⊎ IsSuffix ys xs → IsSuffix (v ∷ past) xs → IsSuffix more ys → stage_created P b past < stage_created P b more → length past < length more
no_shorter P b {xs = xs} {ys = ys} {past = past} {more = more} c h g l = go (le_or (length past) (length more))
  where
    le_or : (m n : ℕ) → (m < n) ⊎ (n ≤ m)
    le_or m n = grind arith

    back : length more ≤ length past → IsSuffix more past
    back k = common c
      where
        common : IsSuffix xs ys ⊎ IsSuffix ys xs → IsSuffix more past
        common (inl q) = suffix_linear g (suffix_drop (suffix_trans h q)) k
        common (inr q) = suffix_linear (suffix_trans g q) (suffix_drop h) k

    go : (length past < length more) ⊎ (length more ≤ length past) → length past < length more
    go (inl k) = k
    go (inr k) = absurd (omega (arith, created_grows P b (back k)))

released_or_ended : {A B C : Type 0} → A ⊎ (B × C) → A ⊎ B
released_or_ended (inl a) = inl a
released_or_ended (inr b) = inr b.0

module _ {S : Type 0} (P : Program S) (main : Start S) (x s : State S) (main_starts : MainStarts main) (x_made : IsMade P main x) (s_made : IsMade P main s) (s_started : IsStarted P s) (comp : Compatible x s) where
  -- a task of x below a done access is a task of s, whose access is done
  record Found (c : ℕ) (p : List ℕ) : Type 0 where
    pub task : Task S
    pub at_ : At s p task
    is_done : IsDone (accesses s c) p

  given_well : (c : ℕ) (p : List ℕ) → IsDone (accesses s c) p → (t : Task S) × At s p t × IsRightlyGiven P s p t c
  given_well c p (done g below) = (g.task, g.at_, s_started.given p g.task c g.at_ g.given)

  below_done : (c k : ℕ) (p : List ℕ) → IsDone (accesses s c) p → IsChild s c p (k ∷ p) → IsDone (accesses s c) (k ∷ p)
  below_done c k p (done g below) h = below (k ∷ p) h

  step_down : (c i k : ℕ) (p : List ℕ) (m : Mode) → AccessOf x c (k ∷ i ∷ p) m → Found c (i ∷ p) → Found c (k ∷ i ∷ p)
  step_down c i k p m a f =
      let b = x_made.child k (i ∷ p) a.task a.at_ in
      let cr = creating P b.creator.body.start b.past b.order b.act in
      let gw = given_well c (i ∷ p) f.is_done in
      let e : gw.0 ≡ f.task = at_same s (i ∷ p) gw.0 f.task gw.1 f.at_ in
      let cc1 = comp (i ∷ p) b.creator gw.0 b.at_ gw.1 in
      let cov = covered_stage P c m a.strong b.creator b.past b.order cr a.task b.start a.right in
      let h = before_given P c b.creator.body gw.0.body b.past b.answer cc1 (released_or_ended gw.2.gone) (λ past answer g. x_made.goes (i ∷ p) b.creator past answer b.at_ g) b.happened (record { mode = cov.mode; strong = cov.strong; stands = cov.holds }) in
      let act_s : stage_act P gw.0.body.start b.past ≡ Created b.order false = subst (λ (z : Start S). stage_act P z b.past ≡ Created b.order false) cc1.start b.act in
      let made = s_made.made (i ∷ p) gw.0 b.past b.answer b.order gw.1 h act_s in
      let num : stage_created P gw.0.body.start b.past ≡ k = subst (λ (z : Start S). stage_created P z b.past ≡ k) cc1.start b.number in
      let at2 : At s (k ∷ i ∷ p) made.0 = subst (λ (z : ℕ). At s (z ∷ i ∷ p) made.0) num made.1 in
      let same = (comp (k ∷ i ∷ p) a.task made.0 a.at_ at2).start in
      let acc : HasAccess s c (k ∷ i ∷ p) = record { task = made.0; at_ = at2; mode = m; strong = a.strong; right = subst (λ (z : Start S). (right_of z.context) c ≡ Holds m a.strong) same a.right } in
      let own : HasAccess s c (i ∷ p) = record { task = gw.0; at_ = gw.1; mode = gw.2.mode; strong = gw.2.strong; right = gw.2.right } in
      record { task = made.0; at_ = at2; is_done = below_done c k (i ∷ p) f.is_done (is_child own acc) }

  descend : (c i : ℕ) (a : List ℕ) {p : List ℕ} (m : Mode) → IsSuffix (i ∷ a) p → AccessOf x c p m → IsDone (accesses s c) (i ∷ a) → Found c p
  descend c i a m whole acc d = let g = given_well c (i ∷ a) d in record { task = g.0; at_ = g.1; is_done = d }
  descend c i a m (longer {y = k} {ys = []} h) acc d = elim h [ ]
  descend c i a m (longer {y = k} {ys = j ∷ p} h) acc d =
      let b = access_up P main x c k (j ∷ p) m x_made acc in
      step_down c j k p m acc (descend c i a b.mode h b.access d)

  -- a touch in x
  pub record TouchIn (e : Event S) (c : ℕ) (t : Touch) (slot : Bool) : Type 0 where
    pub task : Task S
    pub at_ : At x e.start.path task
    pub start : task.body.start ≡ e.start
    pub found : IsSuffix (e.answer ∷ e.past) task.body.found
    pub touches : Touches (stage_act P e.start e.past) c t slot

  -- a touch in s that is done or may be done now
  pub record Granted (g : Event S) (c : ℕ) (t : Touch) (slot : Bool) : Type 0 where
    pub task : Task S
    pub at_ : At s g.start.path task
    pub start : task.body.start ≡ g.start
    pub stage : IsSuffix g.past task.body.found
    pub touches : Touches (stage_act P g.start g.past) c t slot
    pub direct : slot ≡ false → IsReady s g.start.path g.start.context
    pub joined : (op : Op) → t ≡ Folds op → slot ≡ true → IsJoinSatisfied (accesses s c) op g.start.path

  -- the touch is done in s, and joined where it went to a slot
  pub record Concluded (e : Event S) (c : ℕ) (slot : Bool) : Type 0 where
    pub happened : Happened s e
    pub given : slot ≡ true → HasGiven s c e.start.path

  touching : (e : Event S) (c : ℕ) (t : Touch) (slot : Bool) → TouchIn e c t slot → Touching ((right_of e.start.context) c) (stage_right P e.start e.past c) t slot
  touching e c t slot h =
      let w : StartsWell e.start.context = subst (λ (z : Start S). StartsWell z.context) h.start (starts_well P main x main_starts x_made e.start.path h.task h.at_).0 in
      stage_touch P e.start e.past c t slot w h.touches

  touching_s : (g : Event S) (c : ℕ) (t : Touch) (slot : Bool) → Granted g c t slot → Touching ((right_of g.start.context) c) (stage_right P g.start g.past c) t slot
  touching_s g c t slot h =
      let w : StartsWell g.start.context = subst (λ (z : Start S). StartsWell z.context) h.start (starts_well P main s main_starts s_made g.start.path h.task h.at_).0 in
      stage_touch P g.start g.past c t slot w h.touches

  -- the accesses behind the two touches
  access_in : (e : Event S) (c : ℕ) (t : Touch) (slot : Bool) (h : TouchIn e c t slot) → AccessOf x c e.start.path (touching e c t slot h).mode
  access_in e c t slot h =
      let k = touching e c t slot h in
      record { task = h.task; at_ = h.at_; strong = true; right = subst (λ (z : Start S). (right_of z.context) c ≡ Holds k.mode true) (sym h.start) k.holds }

  access_of : (g : Event S) (c : ℕ) (t : Touch) (slot : Bool) (h : Granted g c t slot) → AccessOf s c g.start.path (touching_s g c t slot h).mode
  access_of g c t slot h =
      let k = touching_s g c t slot h in
      record { task = h.task; at_ = h.at_; strong = true; right = subst (λ (z : Start S). (right_of z.context) c ≡ Holds k.mode true) (sym h.start) k.holds }

  -- where the access is done, the touch is done
  by_done : (e : Event S) (c : ℕ) (t : Touch) (slot : Bool) → TouchIn e c t slot → IsDone (accesses s c) e.start.path → Concluded e c slot
  by_done e c t slot h d =
      let g = given_well c e.start.path d in
      let k = touching e c t slot h in
      let m = comp e.start.path h.task g.0 h.at_ g.1 in
      let late : Late P h.task.body.start e.past c = record { mode = k.mode; strong = true; stands = subst (λ (z : Start S). stage_right P z e.past c ≡ Holds k.mode true) (sym h.start) k.stands } in
      let f = before_given P c h.task.body g.0.body e.past e.answer m (released_or_ended g.2.gone) (λ past answer j. x_made.goes e.start.path h.task past answer h.at_ j) h.found late in
      record {
        happened = record { task = g.0; at_ = g.1; start = sym m.start ∙ h.start; found = f };
        given = λ _. given_of d;
      }
    where
      given_of : IsDone (accesses s c) e.start.path → HasGiven s c e.start.path
      given_of (done here_ below) = here_

  by_done_above : (e : Event S) (c : ℕ) (t : Touch) (slot : Bool) (i : ℕ) (a : List ℕ) (h : TouchIn e c t slot) → IsSuffix (i ∷ a) e.start.path → IsDone (accesses s c) (i ∷ a) → Concluded e c slot
  by_done_above e c t slot i a h g d =
      by_done e c t slot h (descend c i a (touching e c t slot h).mode g (access_in e c t slot h) d).is_done

  -- the two touches are of one task
  case_one : (e g : Event S) (c : ℕ) (t u : Touch) (a b : Bool) → TouchIn e c t a → Granted g c u b → Conflicts t a u b → e.start.path ≡ g.start.path → (stage_created P e.start e.past < stage_created P g.start g.past) ⊎ (length e.past < length g.past) → Concluded e c a
  case_one e g c t u a b h k clash path order =
      let at2 : At x g.start.path h.task = subst (λ (p : List ℕ). At x p h.task) path h.at_ in
      let m = comp g.start.path h.task k.task at2 k.at_ in
      let same : e.start ≡ g.start = sym h.start ∙ (m.start ∙ k.start) in
      let te = touching e c t a h in
      let tg = touching_s g c u b k in
      let modes : te.mode ≡ tg.mode = holds_same ((right_of e.start.context) c) te.mode tg.mode true true te.holds (subst (λ (z : Start S). (right_of z.context) c ≡ Holds tg.mode true) (sym same) tg.holds) in
      let l = shorter_than same m.found order in
      let f : IsSuffix (e.answer ∷ e.past) k.task.body.found = suffix_trans (earlier_stage m.found h.found k.stage l) k.stage in
      record {
        happened = record { task = k.task; at_ = subst (λ (p : List ℕ). At s p k.task) (sym path) k.at_; start = k.start ∙ sym same; found = f };
        given = λ e1. absurd (let q = slot_fold te.mode t a te.permits e1 in
            clash_folds q.0 t a u b (subst (λ (z : Mode). Permits z t a) q.1 te.permits) (subst (λ (z : Mode). Permits z u b) (sym modes ∙ q.1) tg.permits) clash);
      }
    where
      shorter_than : e.start ≡ g.start → IsSuffix h.task.body.found k.task.body.found ⊎ IsSuffix k.task.body.found h.task.body.found → (stage_created P e.start e.past < stage_created P g.start g.past) ⊎ (length e.past < length g.past) → length e.past < length g.past
      shorter_than same m (inl l) = no_shorter P e.start m h.found k.stage (subst (λ (z : Start S). stage_created P e.start e.past < stage_created P z g.past) (sym same) l)
      shorter_than same m (inr l) = l

  -- the first touch is of a task above that of the second
  case_down : (e g : Event S) (c : ℕ) (t u : Touch) (a b : Bool) (j : ℕ) → TouchIn e c t a → Granted g c u b → Conflicts t a u b → stage_created P e.start e.past ≤ j → IsSuffix (j ∷ e.start.path) g.start.path → Concluded e c a
  case_down e g c t u a b j h k clash low below =
      let child = task_above P main s (j ∷ e.start.path) k.task s_made below k.at_ in
      let mk = s_made.child j e.start.path child.0 child.1 in
      let m = comp e.start.path h.task mk.creator h.at_ mk.at_ in
      let same : mk.creator.body.start ≡ e.start = sym m.start ∙ h.start in
      let te = touching e c t a h in
      let tg = touching_s g c u b k in
      let up = access_chain P main s c (j ∷ e.start.path) tg.mode s_made below (access_of g c u b k) in
      let over = access_up P main s c j e.start.path up.mode s_made up.access in
      let over_task : over.access.task ≡ mk.creator = at_same s e.start.path over.access.task mk.creator over.access.at_ mk.at_ in
      let r : (right_of e.start.context) c ≡ Holds over.mode over.access.strong = subst (λ (z : Start S). (right_of z.context) c ≡ Holds over.mode over.access.strong) same (subst (λ (z : Task S). (right_of z.body.start.context) c ≡ Holds over.mode over.access.strong) over_task over.access.right) in
      let modes : te.mode ≡ over.mode = holds_same ((right_of e.start.context) c) te.mode over.mode true over.access.strong te.holds r in
      let cov = covers_trans over.mode up.mode tg.mode over.covers up.covers in
      let f = first same m.found mk.happened mk.number mk.act in
      record {
        happened = record { task = mk.creator; at_ = mk.at_; start = same; found = f };
        given = λ e1. absurd (let q = slot_fold te.mode t a te.permits e1 in
            let w : over.mode ≡ Fold q.0 = sym modes ∙ q.1 in
            let z : tg.mode ≡ Fold q.0 = covers_fold q.0 tg.mode (subst (λ (y : Mode). covers y tg.mode ≡ true) w cov) in
            clash_folds q.0 t a u b (subst (λ (y : Mode). Permits y t a) q.1 te.permits) (subst (λ (y : Mode). Permits y u b) z tg.permits) clash);
      }
    where
      first : {o : Order S} {past ys : List ℕ} {v : ℕ} {start : Start S} → start ≡ e.start → IsSuffix h.task.body.found ys ⊎ IsSuffix ys h.task.body.found → IsSuffix (v ∷ past) ys → stage_created P start past ≡ j → stage_act P start past ≡ Created o false → IsSuffix (e.answer ∷ e.past) ys
      first {o = o} {past = past} {ys = ys} {v = v} {start = start} same m happened number act = go (which (length e.past) (length past))
        where
          number' : stage_created P e.start past ≡ j
          number' = subst (λ (z : Start S). stage_created P z past ≡ j) same number

          act' : stage_act P e.start past ≡ Created o false
          act' = subst (λ (z : Start S). stage_act P z past ≡ Created o false) same act

          which : (m n : ℕ) → (m < n) ⊎ (m ≡ n) ⊎ (n < m)
          which m n = grind arith

          joint : {zs : List ℕ} → IsSuffix (e.answer ∷ e.past) zs → IsSuffix (v ∷ past) zs → (length e.past ≡ length past) ⊎ (length past < length e.past) → ⊥
          joint f1 f2 (inl l) =
              let eq : e.past ≡ past = suffix_full (suffix_linear (suffix_drop f1) (suffix_drop f2) (omega arith)) (omega arith) in
              let both : stage_act P e.start e.past ≡ Created o false = subst (λ (z : List ℕ). stage_act P e.start z ≡ Created o false) (sym eq) act' in
              touch_no_creation h.touches both
          joint f1 f2 (inr l) =
              let later : IsSuffix (v ∷ past) e.past = suffix_linear f2 (suffix_drop f1) (omega arith) in
              let n = created_grows P e.start later in
              let one = creation_counts P e.start v past o act' in
              let num = number' in
              absurd (omega arith)

          both : (length e.past ≡ length past) ⊎ (length past < length e.past) → IsSuffix h.task.body.found ys ⊎ IsSuffix ys h.task.body.found → ⊥
          both l (inl q) = joint (suffix_trans h.found q) happened l
          both l (inr q) = joint h.found (suffix_trans happened q) l

          go : (length e.past < length past) ⊎ (length e.past ≡ length past) ⊎ (length past < length e.past) → IsSuffix (e.answer ∷ e.past) ys
          go (inl l) = suffix_trans (earlier_stage m h.found (suffix_drop happened) l) (suffix_drop happened)
          go (inr (inl l)) = absurd (both (inl l) m)
          go (inr (inr l)) = absurd (both (inr l) m)

  -- an earlier sibling of a task above the second touch is there, and its access with the right of x
  sibling : (i j : ℕ) (a q : List ℕ) (t : Task S) → i < j → IsSuffix (j ∷ a) q → At s q t → (u : Task S) × At s (i ∷ a) u
  sibling i j a q t l below at_ =
      let y = task_above P main s (j ∷ a) t s_made below at_ in
      let mk = s_made.child j a y.0 y.1 in
      let w = starts_well P main s main_starts s_made a mk.creator mk.at_ in
      let cr = creating P mk.creator.body.start mk.past mk.order mk.act in
      let n = mk.number in
      let k = creation_at P mk.creator.body.start mk.past i cr.open_ w.1 (omega arith) in
      let made = s_made.made a mk.creator k.past k.answer k.order mk.at_ (suffix_trans k.happened (suffix_drop mk.happened)) k.act in
      (made.0, subst (λ (z : ℕ). At s (z ∷ a) made.0) k.number made.1)

  move_access : (c : ℕ) (p : List ℕ) (m : Mode) (u : Task S) → AccessOf x c p m → At s p u → AccessOf s c p m
  move_access c p m u acc at_ =
      record { task = u; at_ = at_; strong = acc.strong; right = subst (λ (z : Start S). (right_of z.context) c ≡ Holds m acc.strong) (comp p acc.task u acc.at_ at_).start acc.right }

  writes_ready : (c j : ℕ) (a : List ℕ) (q : List ℕ) (y : Context) → IsSuffix (j ∷ a) q → IsReady s q y → (right_of y) c ≡ Holds Write true → IsWriteSatisfied (accesses s c) q
  writes_ready c j a [] y g h r = elim g [ ]
  writes_ready c j a (k ∷ q) y g h r = h.1 c r

  reads_ready : (c j : ℕ) (a : List ℕ) (q : List ℕ) (y : Context) → IsSuffix (j ∷ a) q → IsReady s q y → (right_of y) c ≡ Holds Read true → IsReadSatisfied (accesses s c) q
  reads_ready c j a [] y g h r = elim g [ ]
  reads_ready c j a (k ∷ q) y g h r = h.0 c r

  not_read : (m : Mode) (n : Mode) → n ≡ m → (m ≡ Read → ⊥) → IsRead n → ⊥
  not_read m Read e f h = f (sym e)
  not_read m Write e f h = h
  not_read m (Fold op) e f h = h

  -- the two touches are of tasks below two siblings
  case_across : (e g : Event S) (c : ℕ) (t u : Touch) (a b : Bool) (q : List ℕ) (i j : ℕ) → TouchIn e c t a → Granted g c u b → Conflicts t a u b → i < j → IsSuffix (i ∷ q) e.start.path → IsSuffix (j ∷ q) g.start.path → Concluded e c a
  case_across e g c t u a b q i j h k clash l left right =
      let te = touching e c t a h in
      let tg = touching_s g c u b k in
      let sib = sibling i j q g.start.path k.task l right k.at_ in
      let up = access_chain P main x c (i ∷ q) te.mode x_made left (access_in e c t a h) in
      let acc = move_access c (i ∷ q) up.mode sib.0 up.access sib.1 in
      by_done_above e c t a i q h left (go tg.mode up.mode acc tg.holds tg.permits up.covers)
    where
      go : (mg mx : Mode) → AccessOf s c (i ∷ q) mx → (right_of g.start.context) c ≡ Holds mg true → Permits mg u b → covers mx (touching e c t a h).mode ≡ true → IsDone (accesses s c) (i ∷ q)
      go Write mx acc r p cov =
          let f : b ≡ false = write_flag u b p in
          write_satisfied_before s c i j q l (has_access acc) (write_satisfied_above s c j q right (writes_ready c j q g.start.path g.start.context right (k.direct f) r))
        where
          write_flag : (u : Touch) (b : Bool) → Permits Write u b → b ≡ false
          write_flag u b Permits.write = refl
      go Read mx acc r p cov =
          let f : (b ≡ false) × (u ≡ Reads) = read_flag u b p in
          read_satisfied_before s c i j q l (has_access acc) (not_read mx _ (mode_is s c (i ∷ q) mx acc) (λ z. wrong z f.1)) (read_satisfied_above s c j q right (reads_ready c j q g.start.path g.start.context right (k.direct f.0) r))
        where
          read_flag : (u : Touch) (b : Bool) → Permits Read u b → (b ≡ false) × (u ≡ Reads)
          read_flag u b Permits.read = (refl, refl)

          wrong : mx ≡ Read → u ≡ Reads → ⊥
          wrong z w =
              let v : (touching e c t a h).mode ≡ Read = covers_read (touching e c t a h).mode (subst (λ (y : Mode). covers y (touching e c t a h).mode ≡ true) z cov) in
              clash_reads_at t a b (subst (λ (y : Mode). Permits y t a) v (touching e c t a h).permits) (subst (λ (y : Touch). Conflicts t a y b) w clash)
      go (Fold op) mx acc r p cov =
          let f : (b ≡ true) × (u ≡ Folds op) = fold_flag u b p in
          satisfied (join_satisfied_above s c op j q right (k.joined op f.1 f.0))
        where
          fold_flag : (u : Touch) (b : Bool) → Permits (Fold op) u b → (b ≡ true) × (u ≡ Folds op)
          fold_flag u b Permits.fold = (refl, refl)

          wrong : mx ≡ Fold op → ⊥
          wrong z =
              let v : (touching e c t a h).mode ≡ Fold op = covers_fold op (touching e c t a h).mode (subst (λ (y : Mode). covers y (touching e c t a h).mode ≡ true) z cov) in
              clash_folds op t a u b (subst (λ (y : Mode). Permits y t a) v (touching e c t a h).permits) p clash

          before : (mode_in (find s.tasks (i ∷ q)) c ≡ Fold op) ⊎ IsDone (accesses s c) (i ∷ q) → IsDone (accesses s c) (i ∷ q)
          before (inl z) = absurd (wrong (sym (mode_is s c (i ∷ q) mx acc) ∙ z))
          before (inr d) = d

          satisfied : IsJoinSatisfied (accesses s c) op (j ∷ q) ⊎ IsWriteSatisfied (accesses s c) (j ∷ q) → IsDone (accesses s c) (i ∷ q)
          satisfied (inl z) = before (join_satisfied_before s c op i j q l (has_access acc) z)
          satisfied (inr z) = write_satisfied_before s c i j q l (has_access acc) z

  waits_done : (c i : ℕ) (q : List ℕ) (n : ℕ) (act : Act S) → HasAccess s c (i ∷ q) → i < n → Clears act c → IsWaitMet P s q n act → IsDone (accesses s c) (i ∷ q)
  waits_done c i q n Waited acc l cl w = complete_done P s c i q (w i acc.task l acc.at_) acc
  waits_done c i q n (WaitedOn named) acc l cl w = w i c l cl acc
  waits_done c i q n _ acc l cl w = absurd cl

  awaits_done : (c i : ℕ) (q : List ℕ) (n : ℕ) (act : Act S) → HasAccess s c (i ∷ q) → i + 1 ≡ n → act ≡ Awaited → IsWaitMet P s q n act → IsDone (accesses s c) (i ∷ q)
  awaits_done c i q n act acc l e w = complete_done P s c i q (go act e w) acc
    where
      go : (act : Act S) → act ≡ Awaited → IsWaitMet P s q n act → IsComplete P s (i ∷ q)
      go Awaited e w = w i acc.task l acc.at_
      go Act.Ticked e w = cc
      go (Act.Load d) e w = cc
      go (Act.Store d v) e w = cc
      go (Act.Folded d op v z) e w = cc
      go (Created o z) e w = cc
      go Waited e w = cc
      go (WaitedOn named) e w = cc
      go (Act.Releases cl z) e w = cc
      go (Act.Printed key text) e w = cc
      go Act.Ended e w = cc
      go (Act.Fault kind line key) e w = cc
      go Over e w = cc

  -- a creation that lent the cell before the second touch
  lent_then : (g : Event S) (c : ℕ) (u : Touch) (b : Bool) (k : Granted g c u b) (i : ℕ) (past : List ℕ) (answer : ℕ) (o : Order S) (mx : Mode) (strong : Bool) → HasAccess s c (i ∷ g.start.path)
      → stage_created P g.start past ≡ i → stage_act P g.start past ≡ Created o false → o.when ≡ true → (right_of (child_context (stack_from P g.start past).base.context o.clauses o.last)) c ≡ Holds mx strong → IsSuffix (answer ∷ past) g.past
      → IsDone (accesses s c) (i ∷ g.start.path) ⊎ LentFor mx (stage_lent P g.start g.past c)
  lent_then g c u b k i past answer o mx strong acc number act when_ r before = go (lent_or_cleared P g.start (answer ∷ past) mx c (created_lends P g.start answer past o c mx strong act when_ r) before)
    where
      go : Cleared P g.start (answer ∷ past) g.past c ⊎ LentFor mx (stage_lent P g.start g.past c) → IsDone (accesses s c) (i ∷ g.start.path) ⊎ LentFor mx (stage_lent P g.start g.past c)
      go (inl cl) =
          let w = s_started.waited g.start.path k.task cl.answer cl.past k.at_ (suffix_trans cl.happened k.stage) in
          let w' : IsWaitMet P s g.start.path (stage_created P g.start cl.past) (stage_act P g.start cl.past) = subst (λ (z : Start S). IsWaitMet P s g.start.path (stage_created P z cl.past) (stage_act P z cl.past)) k.start w in
          let n = created_grows P g.start cl.after in
          let one = creation_counts P g.start answer past o act in
          inl (waits_done c i g.start.path (stage_created P g.start cl.past) (stage_act P g.start cl.past) acc (omega arith) cl.clears w')
      go (inr l) = inr l

  -- a creation under a false if before the second touch
  awaited_then : (g : Event S) (c : ℕ) (u : Touch) (b : Bool) (k : Granted g c u b) (i : ℕ) (past : List ℕ) (answer : ℕ) (o : Order S) → HasAccess s c (i ∷ g.start.path)
      → stage_created P g.start past ≡ i → stage_act P g.start past ≡ Created o false → o.when ≡ false → IsSuffix (answer ∷ past) g.past → IsDone (accesses s c) (i ∷ g.start.path)
  awaited_then g c u b k i past answer o acc number act when_ before =
      let aw = created_awaits P g.start answer past o act when_ in
      let n = next_of before (longer_then aw) in
      let w = s_started.waited g.start.path k.task n.0 (answer ∷ past) k.at_ (suffix_trans n.1 k.stage) in
      let w' : IsWaitMet P s g.start.path (stage_created P g.start (answer ∷ past)) (stage_act P g.start (answer ∷ past)) = subst (λ (z : Start S). IsWaitMet P s g.start.path (stage_created P z (answer ∷ past)) (stage_act P z (answer ∷ past))) k.start w in
      let one = creation_counts P g.start answer past o act in
      awaits_done c i g.start.path (stage_created P g.start (answer ∷ past)) (stage_act P g.start (answer ∷ past)) acc (omega arith) aw w'
    where
      longer_then : stage_act P g.start (answer ∷ past) ≡ Awaited → length (answer ∷ past) < length g.past
      longer_then aw = go (le_or (length (answer ∷ past)) (length g.past))
        where
          le_or : (m n : ℕ) → (m < n) ⊎ (n ≤ m)
          le_or m n = grind arith

          go : (length (answer ∷ past) < length g.past) ⊎ (length g.past ≤ length (answer ∷ past)) → length (answer ∷ past) < length g.past
          go (inl l) = l
          go (inr l) = absurd (touch_no_await k.touches (subst (λ (z : List ℕ). stage_act P g.start z ≡ Awaited) (suffix_full before l) aw))

  -- the second touch is of a task above that of the first, after it created the task on the way
  case_up : (e g : Event S) (c : ℕ) (t u : Touch) (a b : Bool) (i : ℕ) → TouchIn e c t a → Granted g c u b → Conflicts t a u b → i < stage_created P g.start g.past → IsSuffix (i ∷ g.start.path) e.start.path → Concluded e c a
  case_up e g c t u a b i h k clash low below =
      let w = g.start.path in
      let te = touching e c t a h in
      let tg = touching_s g c u b k in
      let up = access_chain P main x c (i ∷ g.start.path) te.mode x_made below (access_in e c t a h) in
      let mx = x_made.child i g.start.path up.access.task up.access.at_ in
      let comp_w = comp g.start.path mx.creator k.task mx.at_ k.at_ in
      let open_ : g.start.context.final ≡ false = subst (λ (z : Start S). z.context.final ≡ false) (comp_w.start ∙ k.start) (creating P mx.creator.body.start mx.past mx.order mx.act).open_ in
      let zero_ : g.start.context.created ≡ 0 = subst (λ (z : Start S). z.context.created ≡ 0) k.start (starts_well P main s main_starts s_made g.start.path k.task k.at_).1 in
      let at_i = creation_at P g.start g.past i open_ zero_ low in
      let act_t : stage_act P k.task.body.start at_i.past ≡ Created at_i.order false = subst (λ (z : Start S). stage_act P z at_i.past ≡ Created at_i.order false) (sym k.start) at_i.act in
      let num_t : stage_created P k.task.body.start at_i.past ≡ i = subst (λ (z : Start S). stage_created P z at_i.past ≡ i) (sym k.start) at_i.number in
      let child = s_made.made g.start.path k.task at_i.past at_i.answer at_i.order k.at_ (suffix_trans {xs = at_i.answer ∷ at_i.past} at_i.happened k.stage) act_t in
      let at2 : At s (i ∷ g.start.path) child.0 = subst (λ (z : ℕ). At s (z ∷ g.start.path) child.0) num_t child.1 in
      let acc = move_access c (i ∷ g.start.path) up.mode child.0 up.access at2 in
      by_done_above e c t a i g.start.path h below (finish open_ up.mode acc up.covers (s_made.child i g.start.path acc.task acc.at_))
    where
      finish : g.start.context.final ≡ false → (mx : Mode) (acc : AccessOf s c (i ∷ g.start.path) mx) → covers mx (touching e c t a h).mode ≡ true → MadeBy P s i g.start.path acc.task → IsDone (accesses s c) (i ∷ g.start.path)
      finish open_ mx acc cov mk = go same mk.order.when refl
        where
          same : mk.creator.body.start ≡ g.start
          same = ap (λ (z : Task S). z.body.start) (at_same s g.start.path mk.creator k.task mk.at_ k.at_) ∙ k.start

          found : IsSuffix (mk.answer ∷ mk.past) k.task.body.found
          found = subst (λ (z : Task S). IsSuffix (mk.answer ∷ mk.past) z.body.found) (at_same s g.start.path mk.creator k.task mk.at_ k.at_) mk.happened

          number : stage_created P g.start mk.past ≡ i
          number = subst (λ (z : Start S). stage_created P z mk.past ≡ i) same mk.number

          before : IsSuffix (mk.answer ∷ mk.past) g.past
          before = suffix_linear found k.stage (let n = number in no_shorter P g.start {xs = k.task.body.found} {ys = k.task.body.found} (inl whole) found k.stage (omega arith))

          act : stage_act P g.start mk.past ≡ Created mk.order false
          act = subst (λ (z : Start S). stage_act P z mk.past ≡ Created mk.order false) same mk.act

          right : (right_of (child_context (stack_from P g.start mk.past).base.context mk.order.clauses mk.order.last)) c ≡ Holds mx acc.strong
          right = start_right P c mx acc.strong g.start mk.past mk.order acc.task (mk.start ∙ ap (λ (z : Start S). child_start (stack_from P z mk.past).base mk.order) same) acc.right

          covered_g : covers (touching_s g c u b k).mode mx ≡ true
          covered_g =
              let over = access_up P main s c i g.start.path mx s_made acc in
              let e1 = at_same s g.start.path over.access.task k.task over.access.at_ k.at_ in
              let r : (right_of g.start.context) c ≡ Holds over.mode over.access.strong = subst (λ (z : Start S). (right_of z.context) c ≡ Holds over.mode over.access.strong) k.start (subst (λ (z : Task S). (right_of z.body.start.context) c ≡ Holds over.mode over.access.strong) e1 over.access.right) in
              let m : over.mode ≡ (touching_s g c u b k).mode = holds_same ((right_of g.start.context) c) over.mode (touching_s g c u b k).mode over.access.strong true r (touching_s g c u b k).holds in
              subst (λ (z : Mode). covers z mx ≡ true) m over.covers

          both_read : (u ≡ Reads) × (mx ≡ Read) → IsDone (accesses s c) (i ∷ g.start.path)
          both_read (r, z) =
              let v : (touching e c t a h).mode ≡ Read = covers_read (touching e c t a h).mode (subst (λ (y : Mode). covers y (touching e c t a h).mode ≡ true) z cov) in
              absurd (clash_reads_at t a b (subst (λ (y : Mode). Permits y t a) v (touching e c t a h).permits) (subst (λ (y : Touch). Conflicts t a y b) r clash))

          both_fold : (op : Op) → (touching_s g c u b k).mode ≡ Fold op → IsDone (accesses s c) (i ∷ g.start.path)
          both_fold op z =
              let y = covers_fold op mx (subst (λ (q : Mode). covers q mx ≡ true) z covered_g) in
              let v : (touching e c t a h).mode ≡ Fold op = covers_fold op (touching e c t a h).mode (subst (λ (q : Mode). covers q (touching e c t a h).mode ≡ true) y cov) in
              absurd (clash_folds op t a u b (subst (λ (q : Mode). Permits q t a) v (touching e c t a h).permits) (subst (λ (q : Mode). Permits q u b) z (touching_s g c u b k).permits) clash)

          lent : LentFor mx (stage_lent P g.start g.past c) → IsDone (accesses s c) (i ∷ g.start.path)
          lent lf =
              let p = stage_passes P g.start g.past c u b open_ k.touches in
              let m : p.mode ≡ (touching_s g c u b k).mode = holds_same (stage_right P g.start g.past c) p.mode (touching_s g c u b k).mode true true p.holds (touching_s g c u b k).stands in
              which m (lent_touch p.mode mx u (stage_lent P g.start g.past c) p.unlent lf)
            where
              which : {n : Mode} → n ≡ (touching_s g c u b k).mode → ((u ≡ Reads) × (mx ≡ Read)) ⊎ ((op : Op) × (n ≡ Fold op)) → IsDone (accesses s c) (i ∷ g.start.path)
              which m (inl z) = both_read z
              which m (inr z) = both_fold z.0 (sym m ∙ z.1)

          settle : IsDone (accesses s c) (i ∷ g.start.path) ⊎ LentFor mx (stage_lent P g.start g.past c) → IsDone (accesses s c) (i ∷ g.start.path)
          settle (inl d) = d
          settle (inr lf) = lent lf

          go : mk.creator.body.start ≡ g.start → (w : Bool) → mk.order.when ≡ w → IsDone (accesses s c) (i ∷ g.start.path)
          go e1 true w = settle (lent_then g c u b k i mk.past mk.answer mk.order mx acc.strong (has_access acc) number act w right before)
          go e1 false w = awaited_then g c u b k i mk.past mk.answer mk.order (has_access acc) number act w before

  -- an earlier conflicting touch of x is done in s
  pub in_order : (e g : Event S) (c : ℕ) (t u : Touch) (a b : Bool) → TouchIn e c t a → Granted g c u b → Conflicts t a u b → IsEarlierPlace P e g → Concluded e c a
  in_order e g c t u a b h k clash (inr q) =
      let p : e.start.path ≡ g.start.path = cc (q.0) in case_one e g c t u a b h k clash p (inr q.1)
  in_order e g c t u a b h k clash (inl q) = go (lie e.start.path g.start.path (stage_created P e.start e.past) (stage_created P g.start g.past) q)
    where
      go : Lie e.start.path (stage_created P e.start e.past) g.start.path (stage_created P g.start g.past) → Concluded e c a
      go (Lie.one p l) = case_one e g c t u a b h k clash p (inl l)
      go (Lie.down j l s1) = case_down e g c t u a b j h k clash l s1
      go (Lie.up i l s1) = case_up e g c t u a b i h k clash l s1
      go (Lie.across q1 i j l s1 s2) = case_across e g c t u a b q1 i j h k clash l s1 s2
