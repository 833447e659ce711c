-- Accesses up and down the tree of tasks.
use Rattle.std.proofs.Common.{◌≡◌, ℕ, ◌<◌, ◌≤◌, ◌⊎◌, inl, inr, refl, sym, subst, ap, ◌∙◌, List, [], ◌∷◌, length, arith, Bool, true, false, Option, Some}
use Rattle.oss_syntax.specs.declared.access.Mode.{Mode}
use Rattle.oss_syntax.specs.declared.access.Op.{Op}
use Rattle.oss_syntax.specs.declared.access.Op.TheVariants.{Add, And, Or, Xor}
use Rattle.oss_syntax.specs.declared.access.Mode.TheVariants.{Read, Write, Fold}
use Rattle.std.specs.Prelude.{◌&&◌, ◌||◌, ◌==◌}
use Rattle.std.proofs.lemmas.Bool.Decides.{nat_tests}
use Rattle.oss_model.specs.Forest.{IsDone, IsWriteSatisfied, IsReadSatisfied, IsJoinSatisfied, InRun, IsRead, done, write_top, write_child, read_top, read_child, join_top, join_below_fold, join_below_write}
use Rattle.oss_model.specs.Order.{IsSuffix, whole, longer}
use Rattle.oss_model.specs.Rights.{Right, Released, Holds, covers}
use Rattle.oss_model.specs.Context.{child_context, right_of}
use Rattle.oss_model.specs.Bodies.{Order, Program, Frame, Start, Body, stack_from, stage_act, stack_act, act_of, child_start, IsHalt}
use Rattle.oss_model.specs.Bodies.Act.{Over}
use Rattle.oss_model.specs.Machine.{same_path, Task, State, At, find, HasAccess, accesses, IsChild, is_child, is_earlier, mode_in, IsComplete, complete}
use Rattle.oss_model.specs.History.{MadeBy, IsMade, IsComparable}
use Rattle.oss_model.specs.Agreement.{MainStarts}
use Rattle.oss_model.proofs.ContextLemmas.{child_right}
use Rattle.oss_model.proofs.JudgeLemmas.{Covered, covers_trans}
use Rattle.oss_model.proofs.BodyLemmas.{stack_ok, final_strong}
use Rattle.oss_model.proofs.StageLemmas.{Creating, creating, stage_right, StartsWell, released_stays}
use Rattle.oss_model.proofs.OrderLemmas.{suffix_trans, suffix_length, suffix_drop, suffix_linear}

pub covers_self : (m : Mode) → covers m m ≡ true
covers_self Read = refl
covers_self Write = refl
covers_self (Fold Add) = refl
covers_self (Fold And) = refl
covers_self (Fold Or) = refl
covers_self (Fold Xor) = refl

pub some_same : {A : Type 0} (a b : A) (o : Option A) → o ≡ Some a → o ≡ Some b → a ≡ b
some_same a b o h k = cc

pub at_same : {S : Type 0} (s : State S) (p : List ℕ) (t u : Task S) → At s p t → At s p u → t ≡ u
at_same s p t u h k = some_same t u (find s.tasks p) h k

-- the creator has a right that covers each access of its child
pub covered_creator : {S : Type 0} (P : Program S) (s : State S) (k : ℕ) (p : List ℕ) (t : Task S) (c : ℕ) (m : Mode) (strong : Bool) (b : MadeBy P s k p t) → (right_of t.body.start.context) c ≡ Holds m strong → Covered ((right_of b.creator.body.start.context) c) m
unfolding child_start
covered_creator P s k p t c m strong b h =
    let u = b.creator.body.start in
    let e : (right_of (child_context (stack_from P u b.past).base.context b.order.clauses b.order.last)) c ≡ Holds m strong = subst (λ (z : Start _). (right_of z.context) c ≡ Holds m strong) b.start h in
    let v = (creating P u b.past b.order b.act).covered c m strong e in
    record { mode = v.mode; strong = v.strong; holds = held ((stack_ok P u b.past).right c) v.holds; covers = v.covers }
  where
    held : {x now : Right} {m : Mode} {strong : Bool} → (now ≡ x) ⊎ (now ≡ Released) → now ≡ Holds m strong → x ≡ Holds m strong
    held (inl e) h = sym e ∙ h
    held (inr e) h = cc

-- an access, with its mode
pub record AccessOf {S : Type 0} (s : State S) (c : ℕ) (p : List ℕ) (m : Mode) : Type 0 where
  pub task : Task S
  pub at_ : At s p task
  pub strong : Bool
  pub right : (right_of task.body.start.context) c ≡ Holds m strong

pub has_access : {S : Type 0} {s : State S} {c : ℕ} {p : List ℕ} {m : Mode} → AccessOf s c p m → HasAccess s c p
has_access {m = m} a = record { task = a.task; at_ = a.at_; mode = m; strong = a.strong; right = a.right }

-- an access above, whose mode covers the one below
pub record AccessAbove {S : Type 0} (s : State S) (c : ℕ) (p : List ℕ) (m : Mode) : Type 0 where
  pub mode : Mode
  pub access : AccessOf s c p mode
  pub covers : covers mode m ≡ true

pub access_up : {S : Type 0} (P : Program S) (main : Start S) (s : State S) (c k : ℕ) (p : List ℕ) (m : Mode) → IsMade P main s → AccessOf s c (k ∷ p) m → AccessAbove s c p m
access_up P main s c k p m made a =
    let b = made.child k p a.task a.at_ in
    let v = covered_creator P s k p a.task c m a.strong b a.right in
    record { mode = v.mode; access = record { task = b.creator; at_ = b.at_; strong = v.strong; right = v.holds }; covers = v.covers }

-- an access of each task above
pub access_chain : {S : Type 0} (P : Program S) (main : Start S) (s : State S) (c : ℕ) (q : List ℕ) {p : List ℕ} (m : Mode) → IsMade P main s → IsSuffix q p → AccessOf s c p m → AccessAbove s c q m
access_chain P main s c q m made whole a = record { mode = m; access = a; covers = covers_self m }
access_chain P main s c q m made (longer {y = k} {ys = p} h) a =
    let b = access_up P main s c k p m made a in
    let d = access_chain P main s c q b.mode made h b.access in
    record { mode = d.mode; access = d.access; covers = covers_trans d.mode b.mode m d.covers b.covers }

-- the tasks above a task are there
pub task_above : {S : Type 0} (P : Program S) (main : Start S) (s : State S) (q : List ℕ) {p : List ℕ} (t : Task S) → IsMade P main s → IsSuffix q p → At s p t → (u : Task S) × At s q u
task_above P main s q t made whole h = (t, h)
task_above P main s q t made (longer {y = k} {ys = p} g) h =
    let b = made.child k p t h in task_above P main s q b.creator made g b.at_

-- what is satisfied below is satisfied above
write_satisfied_up : {S : Type 0} (s : State S) (c k i : ℕ) (p : List ℕ) → IsWriteSatisfied (accesses s c) (k ∷ i ∷ p) → IsWriteSatisfied (accesses s c) (i ∷ p)
write_satisfied_up s c k i p (write_top t e) = elim t [ ]
write_satisfied_up s c k i p (write_child (is_child a b) h e) = h

read_satisfied_up : {S : Type 0} (s : State S) (c k i : ℕ) (p : List ℕ) → IsReadSatisfied (accesses s c) (k ∷ i ∷ p) → IsReadSatisfied (accesses s c) (i ∷ p)
read_satisfied_up s c k i p (read_top t e) = elim t [ ]
read_satisfied_up s c k i p (read_child (is_child a b) h e) = h

join_satisfied_up : {S : Type 0} (s : State S) (c : ℕ) (op : Op) (k i : ℕ) (p : List ℕ) → IsJoinSatisfied (accesses s c) op (k ∷ i ∷ p) → IsJoinSatisfied (accesses s c) op (i ∷ p) ⊎ IsWriteSatisfied (accesses s c) (i ∷ p)
join_satisfied_up s c op k i p (join_top t e) = elim t [ ]
join_satisfied_up s c op k i p (join_below_fold (is_child a b) m h e) = inl h
join_satisfied_up s c op k i p (join_below_write (is_child a b) m h e) = inr h

pub write_satisfied_above : {S : Type 0} (s : State S) (c j : ℕ) (a : List ℕ) {p : List ℕ} → IsSuffix (j ∷ a) p → IsWriteSatisfied (accesses s c) p → IsWriteSatisfied (accesses s c) (j ∷ a)
write_satisfied_above s c j a whole h = h
write_satisfied_above s c j a (longer {y = k} {ys = []} g) h = elim g [ ]
write_satisfied_above s c j a (longer {y = k} {ys = i ∷ p} g) h = write_satisfied_above s c j a g (write_satisfied_up s c k i p h)

pub read_satisfied_above : {S : Type 0} (s : State S) (c j : ℕ) (a : List ℕ) {p : List ℕ} → IsSuffix (j ∷ a) p → IsReadSatisfied (accesses s c) p → IsReadSatisfied (accesses s c) (j ∷ a)
read_satisfied_above s c j a whole h = h
read_satisfied_above s c j a (longer {y = k} {ys = []} g) h = elim g [ ]
read_satisfied_above s c j a (longer {y = k} {ys = i ∷ p} g) h = read_satisfied_above s c j a g (read_satisfied_up s c k i p h)

join_satisfied_or_w : {S : Type 0} (s : State S) (c : ℕ) (op : Op) (j : ℕ) (a : List ℕ) {p : List ℕ} → IsSuffix (j ∷ a) p → IsJoinSatisfied (accesses s c) op p ⊎ IsWriteSatisfied (accesses s c) p → IsJoinSatisfied (accesses s c) op (j ∷ a) ⊎ IsWriteSatisfied (accesses s c) (j ∷ a)
join_satisfied_or_w s c op j a whole h = h
join_satisfied_or_w s c op j a (longer {y = k} {ys = []} g) h = elim g [ ]
join_satisfied_or_w s c op j a (longer {y = k} {ys = i ∷ p} g) (inl h) = join_satisfied_or_w s c op j a g (join_satisfied_up s c op k i p h)
join_satisfied_or_w s c op j a (longer {y = k} {ys = i ∷ p} g) (inr h) = join_satisfied_or_w s c op j a g (inr (write_satisfied_up s c k i p h))

pub join_satisfied_above : {S : Type 0} (s : State S) (c : ℕ) (op : Op) (j : ℕ) (a : List ℕ) {p : List ℕ} → IsSuffix (j ∷ a) p → IsJoinSatisfied (accesses s c) op p → IsJoinSatisfied (accesses s c) op (j ∷ a) ⊎ IsWriteSatisfied (accesses s c) (j ∷ a)
join_satisfied_above s c op j a g h = join_satisfied_or_w s c op j a g (inl h)

-- what an earlier sibling has done where a later one is satisfied
pub write_satisfied_before : {S : Type 0} (s : State S) (c i j : ℕ) (a : List ℕ) → i < j → HasAccess s c (i ∷ a) → IsWriteSatisfied (accesses s c) (j ∷ a) → IsDone (accesses s c) (i ∷ a)
write_satisfied_before s c i j a l h (write_top t e) = e (i ∷ a) (is_earlier l h)
write_satisfied_before s c i j a l h (write_child b g e) = e (i ∷ a) (is_earlier l h)

pub read_satisfied_before : {S : Type 0} (s : State S) (c i j : ℕ) (a : List ℕ) → i < j → HasAccess s c (i ∷ a) → (IsRead (mode_in (find s.tasks (i ∷ a)) c) → ⊥) → IsReadSatisfied (accesses s c) (j ∷ a) → IsDone (accesses s c) (i ∷ a)
read_satisfied_before s c i j a l h n (read_top t e) = e (i ∷ a) (is_earlier l h) n
read_satisfied_before s c i j a l h n (read_child b g e) = e (i ∷ a) (is_earlier l h) n

pub join_satisfied_before : {S : Type 0} (s : State S) (c : ℕ) (op : Op) (i j : ℕ) (a : List ℕ) → i < j → HasAccess s c (i ∷ a) → IsJoinSatisfied (accesses s c) op (j ∷ a) → (mode_in (find s.tasks (i ∷ a)) c ≡ Fold op) ⊎ IsDone (accesses s c) (i ∷ a)
join_satisfied_before {S = S} s c op i j a l h x = go x
  where
    run : InRun (accesses s c) op (i ∷ a) (j ∷ a) ⊎ IsDone (accesses s c) (i ∷ a) → (mode_in (find s.tasks (i ∷ a)) c ≡ Fold op) ⊎ IsDone (accesses s c) (i ∷ a)
    run (inl r) = inl r.first
    run (inr d) = inr d

    go : IsJoinSatisfied (accesses s c) op (j ∷ a) → (mode_in (find s.tasks (i ∷ a)) c ≡ Fold op) ⊎ IsDone (accesses s c) (i ∷ a)
    go (join_top t e) = run (e (i ∷ a) (is_earlier l h))
    go (join_below_fold b m g e) = run (e (i ∷ a) (is_earlier l h))
    go (join_below_write b m g e) = run (e (i ∷ a) (is_earlier l h))

pub mode_is : {S : Type 0} (s : State S) (c : ℕ) (p : List ℕ) (m : Mode) → AccessOf s c p m → mode_in (find s.tasks p) c ≡ m
mode_is s c p m a = rw (a.at_, a.right) refl

children_done : {S : Type 0} (s : State S) (c k : ℕ) (p : List ℕ) → ((j : ℕ) (u : Task S) → At s (j ∷ k ∷ p) u → HasAccess s c (j ∷ k ∷ p) → IsDone (accesses s c) (j ∷ k ∷ p)) → (v : List ℕ) → IsChild s c (k ∷ p) v → IsDone (accesses s c) v
children_done s c k p f v (is_child {k = j} a b) = f j b.task b.at_ b

-- a task that is complete is done on each of its cells
pub complete_done : {S : Type 0} (P : Program S) (s : State S) (c k : ℕ) (p : List ℕ) → IsComplete P s (k ∷ p) → HasAccess s c (k ∷ p) → IsDone (accesses s c) (k ∷ p)
complete_done P s c k p (complete {t = t} at_ over gives below) a =
    let e = at_same s (k ∷ p) a.task t a.at_ at_ in
    let r : (right_of t.body.start.context) c ≡ Holds a.mode a.strong = subst (λ (z : Task _). (right_of z.body.start.context) c ≡ Holds a.mode a.strong) e a.right in
    done (record { task = t; at_ = at_; given = gives c (a.mode, a.strong, r) })
    (children_done s c k p (λ j u h b. complete_done P s c j (k ∷ p) (below j u h) b))

-- a done act of the one body was done in the other before it gave up the cell
pub record Late {S : Type 0} (P : Program S) (b : Start S) (past : List ℕ) (c : ℕ) : Type 0 where
  pub mode : Mode
  pub strong : Bool
  pub stands : stage_right P b past c ≡ Holds mode strong

pub over_stops : {S : Type 0} (P : Program S) (b : Start S) (past : List ℕ) → (stack_from P b past).ended ≡ true → stage_act P b past ≡ Over
unfolding stage_act act_of
over_stops P b past h = over_act P (right_of b.context) (stack_from P b past).base (stack_from P b past).inner (stack_from P b past).ended h
  where
    over_act : {S : Type 0} (P : Program S) (slots : ℕ → Right) (base : Frame S) (inner : List (Frame S)) (over : Bool) → over ≡ true → stack_act P slots base inner over ≡ Over
    over_act P slots base inner true h = refl
    over_act P slots base inner false h = cc

pub next_of : {xs ys : List ℕ} → IsSuffix xs ys → length xs < length ys → (v : ℕ) × IsSuffix (v ∷ xs) ys
next_of whole h = absurd (omega arith)
next_of (longer {y = y} whole) h = (y, whole)
next_of (longer (longer g)) h = let k = next_of (longer g) (omega (arith, suffix_length g)) in (k.0, longer k.1)

pub before_given : {S : Type 0} (P : Program S) (c : ℕ) (x t : Body S) (past : List ℕ) (answer : ℕ)
    → IsComparable x t → ((right_of (stack_from P t.start t.found).base.context) c ≡ Released) ⊎ ((stack_from P t.start t.found).ended ≡ true)
    → ((past : List ℕ) (answer : ℕ) → IsSuffix (answer ∷ past) x.found → IsHalt (stage_act P x.start past) → ⊥)
    → IsSuffix (answer ∷ past) x.found → Late P x.start past c → IsSuffix (answer ∷ past) t.found
before_given {S = S} P c x t past answer comp gone goes h late = split comp.found
  where
    short : IsSuffix t.found x.found → (length past < length t.found) ⊎ (length t.found ≤ length past) → IsSuffix (answer ∷ past) t.found
    short g (inl l) = suffix_linear h g (omega arith)
    short g (inr l) = absurd (none gone)
      where
        none : ((right_of (stack_from P t.start t.found).base.context) c ≡ Released) ⊎ ((stack_from P t.start t.found).ended ≡ true) → ⊥
        none (inl r) =
            let back = suffix_linear g (suffix_drop h) l in
            let r' : stage_right P x.start t.found c ≡ Released = subst (λ (z : Start S). stage_right P z t.found c ≡ Released) (sym comp.start) r in
            let q = released_stays P x.start t.found past c back r' in
            let e = late.stands in
            cc
        none (inr o) =
            let k = next_of g (omega (arith, suffix_length h)) in
            let o' : (stack_from P x.start t.found).ended ≡ true = subst (λ (z : Start S). (stack_from P z t.found).ended ≡ true) (sym comp.start) o in
            goes t.found k.0 k.1 (subst IsHalt (sym (over_stops P x.start t.found o')) tt)

    split : IsSuffix x.found t.found ⊎ IsSuffix t.found x.found → IsSuffix (answer ∷ past) t.found
    split (inl g) = suffix_trans h g
    split (inr g) = short g (le_or (length past) (length t.found))
      where
        le_or : (m n : ℕ) → (m < n) ⊎ (n ≤ m)
        le_or m n = grind arith

pub covered_stage : {S : Type 0} (P : Program S) (c : ℕ) (m : Mode) (strong : Bool) (u : Task S) (past : List ℕ) (o : Order S) → Creating P u.body.start past o → (t : Task S) → t.body.start ≡ child_start (stack_from P u.body.start past).base o → (right_of t.body.start.context) c ≡ Holds m strong → Covered (stage_right P u.body.start past c) m
unfolding child_start
covered_stage {S = S} P c m strong u past o cr t e r = cr.covered c m strong (subst (λ (z : Start S). (right_of z.context) c ≡ Holds m strong) e r)

pub starts_well : {S : Type 0} (P : Program S) (main : Start S) (s : State S) → MainStarts main → IsMade P main s → (p : List ℕ) (t : Task S) → At s p t → StartsWell t.body.start.context × (t.body.start.context.created ≡ 0)
unfolding child_start
starts_well {S = S} P main s m made [] t h =
    let e = at_same s [] made.main_task t made.main_at h in
    let k : main ≡ t.body.start = sym made.main_start ∙ ap (λ (z : Task S). z.body.start) e in
    subst (λ (z : Start S). StartsWell z.context × (z.context.created ≡ 0)) k ((λ c q strong f r. let g : true ≡ false = sym f ∙ m.final in cc), m.created)
starts_well {S = S} P main s m made (k ∷ p) t h =
    let b = made.child k p t h in
    let x = (stack_from P b.creator.body.start b.past).base in
    subst (λ (z : Start S). StartsWell z.context × (z.context.created ≡ 0)) (sym b.start) ((λ c q strong f r. final_strong (x.context.final || b.order.last) b.order.clauses c q strong f (child_right x.context b.order.clauses b.order.last c q strong r).0), refl)

pub start_right : {S : Type 0} (P : Program S) (c : ℕ) (m : Mode) (strong : Bool) (b : Start S) (past : List ℕ) (o : Order S) (t : Task S) → t.body.start ≡ child_start (stack_from P b past).base o → (right_of t.body.start.context) c ≡ Holds m strong → (right_of (child_context (stack_from P b past).base.context o.clauses o.last)) c ≡ Holds m strong
unfolding child_start
start_right {S = S} P c m strong b past o t e r = subst (λ (z : Start S). (right_of z.context) c ≡ Holds m strong) e r

pub same_path_is : (p q : List ℕ) → same_path p q ≡ true → p ≡ q
same_path_is [] [] h = refl
same_path_is [] (y ∷ q) h = cc
same_path_is (x ∷ p) [] h = cc
same_path_is (x ∷ p) (y ∷ q) h =
    let a = and_both (x == y) (same_path p q) h in
    let e : x ≡ y = grind (arith, nat_tests, a.0) in
    let f = same_path_is p q a.1 in
    λ i. e i ∷ f i
  where
    and_both : (a b : Bool) → (a && b) ≡ true → (a ≡ true) × (b ≡ true)
    and_both true b h = (refl, h)
    and_both false b h = cc

-- a task that was found has the path that was asked for
pub path_found : {S : Type 0} (tasks : List (Task S)) (p : List ℕ) (t : Task S) → find tasks p ≡ Some t → t.body.start.path ≡ p
unfolding find
path_found [] p t h = cc
path_found {S = S} (u ∷ us) p t h = go (same_path u.body.start.path p) refl (λ k. path_found us p t k)
  where
    go : (b : Bool) → same_path u.body.start.path p ≡ b → (find us p ≡ Some t → t.body.start.path ≡ p) → t.body.start.path ≡ p
    go true e f =
        let g : u ≡ t = cc (rw e at h) in
        ap (λ (z : Task S). z.body.start.path) (sym g) ∙ same_path_is u.body.start.path p e
    go false e f = f (rw e at h)
