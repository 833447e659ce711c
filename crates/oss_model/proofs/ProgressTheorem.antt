-- The least open task may move, or it stands before a fault.
use Rattle.std.proofs.Common.{◌≡◌, ◌≢◌, ℕ, zero, suc, ◌+◌, ◌<◌, ◌≤◌, ◌⊎◌, inl, inr, refl, sym, subst, ap, ◌∙◌, List, [], ◌∷◌, length, reverse, arith, Bool, true, false, Option, Some, None}
use Rattle.oss_syntax.specs.declared.access.Mode.{Mode}
use Rattle.oss_syntax.specs.declared.access.Op.{Op}
use Rattle.oss_syntax.specs.declared.access.Mode.TheVariants.{Read, Write, Fold}
use Rattle.oss_syntax.specs.declared.fault.FaultKind.{FaultKind}
use Rattle.oss_model.specs.Forest.{IsDone, IsWriteSatisfied, IsReadSatisfied, IsJoinSatisfied, done, write_top, write_child, read_top, read_child, join_top, join_below_fold, join_below_write}
use Rattle.oss_model.specs.Order.{IsSuffix, whole, IsIn, here, there, IsBefore}
use Rattle.oss_model.specs.Rights.{Right, NoRight, Released, Holds, covers, Reads, Writes, Folds, touch_fault, is_fold}
use Rattle.oss_model.specs.Context.{create_fault, tick_fault, release_fault, wait_on_fault, right_of, lent_of, mark_of}
use Rattle.oss_model.specs.Bodies.{Ask, Program, Act, Frame, Start, Body, judged_act, act_of_ask, ask_of, frame_act, stack_act, stack_from, act_of, stage_act, stage_created, word_of, IsHalt, IsFault}
use Rattle.oss_model.specs.Bodies.Act.{Created, Awaited, Waited, WaitedOn, Over, Ticked, Load, Store, Folded, Releases, Fault}
use Rattle.oss_model.specs.Machine.{Task, State, At, find, same_path, HasAccess, accesses, is_top, IsChild, is_child, IsEarlier, is_earlier, IsReady, Owes, IsComplete, complete, IsWaitMet}
use Rattle.oss_model.specs.History.{IsMade}
use Rattle.oss_model.specs.Moves.{act_now, created_now, is_ended, WaitClause, IsClosed, SomeMove, a_step, a_let, a_join}
use Rattle.oss_model.specs.Agreement.{InMemory}
use Rattle.oss_model.proofs.Places.{IsLeastPlace}
use Rattle.oss_model.proofs.OrderLemmas.{suffix_drop, before_up, before_across, before_trans, before_not, Compared, compare}
use Rattle.oss_model.proofs.StageLemmas.{created_grows, creation_counts}
use Rattle.oss_model.proofs.TreeLemmas.{at_same, AccessOf, AccessAbove, has_access, access_up, path_found, mode_is, same_path_is, over_stops}
use Rattle.oss_model.proofs.RecallLemmas.{right_in_memory}
use Rattle.oss_model.specs.Claims.{FaultIsNext, OpenTasksMove}
use Rattle.oss_model.proofs.KeyOrder.{least_key}
use Rattle.oss_model.proofs.JudgeLemmas.{op_eq_is}

-- paths have a bound
total : {S : Type 0} → List (Task S) → ℕ
total [] = 0
total (t ∷ ts) = length t.body.start.path + total ts

found_below : {S : Type 0} (tasks : List (Task S)) (q : List ℕ) (u : Task S) → find tasks q ≡ Some u → length q ≤ total tasks
unfolding find total
found_below [] q u h = absurd (cc (h))
found_below {S = S} (t ∷ ts) q u h = go (same_path t.body.start.path q) refl (λ k. found_below ts q u k)
  where
    go : (b : Bool) → same_path t.body.start.path q ≡ b → (find ts q ≡ Some u → length q ≤ total ts) → length q ≤ length t.body.start.path + total ts
    go true e f =
        let p = path_found (t ∷ ts) q u h in
        let g : t ≡ u = cc (rw e at h) in
        let l : length t.body.start.path ≡ length q = ap (λ (z : Task S). length z.body.start.path) g ∙ ap (λ (z : List ℕ). length z) p in
        omega arith
    go false e f = let k = f (rw e at h) in omega arith

in_or_not : (c : ℕ) (xs : List ℕ) → (IsIn c xs) ⊎ (IsIn c xs → ⊥)
in_or_not c [] = inr (λ h. elim h [ ])
in_or_not c (x ∷ xs) = go (which c x) (in_or_not c xs)
  where
    which : (x y : ℕ) → (x ≡ y) ⊎ (x ≢ y)
    which x y = grind arith

    cases : {z w : ℕ} {zs : List ℕ} → IsIn z (w ∷ zs) → (z ≡ w) ⊎ IsIn z zs
    cases here = inl refl
    cases (there h) = inr h

    neither : (c ≢ x) → (IsIn c xs → ⊥) → (c ≡ x) ⊎ IsIn c xs → ⊥
    neither ne f (inl e) = ne e
    neither ne f (inr h) = f h

    go : (c ≡ x) ⊎ (c ≢ x) → (IsIn c xs) ⊎ (IsIn c xs → ⊥) → (IsIn c (x ∷ xs)) ⊎ (IsIn c (x ∷ xs) → ⊥)
    go (inl e) h = inl (subst (λ (z : ℕ). IsIn c (z ∷ xs)) e here)
    go (inr ne) (inl h) = inl (there h)
    go (inr ne) (inr f) = inr (λ h. neither ne f (cases h))

module _ {S : Type 0} (P : Program S) (main : Start S) (s : State S) (made : IsMade P main s) where
  children_of : (c : ℕ) (u v : List ℕ) → IsChild s c u v → (k : ℕ) × (v ≡ k ∷ u) × HasAccess s c v
  children_of c u v (is_child {k = k} a b) = (k, refl, b)

  done_below : (d c k : ℕ) (x : List ℕ) → total s.tasks < length (k ∷ x) + d → HasAccess s c (k ∷ x) → ((q : List ℕ) (u : Task S) → At s q u → IsSuffix (k ∷ x) q → IsClosed P q u) → IsDone (accesses s c) (k ∷ x)
  done_below zero c k x l a f = let m = found_below s.tasks (k ∷ x) a.task a.at_ in absurd (omega arith)
  done_below (suc d) c k x l a f =
      done (record { task = a.task; at_ = a.at_; given = (f (k ∷ x) a.task a.at_ whole).given c (a.mode, a.strong, a.right) })
      (λ v h. let w = children_of c (k ∷ x) v h in
      subst (λ (z : List ℕ). IsDone (accesses s c) z) (sym w.1) (done_below d c w.0 (k ∷ x) (omega arith) (subst (λ (z : List ℕ). HasAccess s c z) w.1 w.2) (λ q u g i. f q u g (suffix_drop i))))

  complete_below : (d : ℕ) (x : List ℕ) (t : Task S) → total s.tasks < length x + d → At s x t → ((q : List ℕ) (u : Task S) → At s q u → IsSuffix x q → IsClosed P q u) → IsComplete P s x
  complete_below zero x t l h f = let m = found_below s.tasks x t h in absurd (omega arith)
  complete_below (suc d) x t l h f =
      complete h (f x t h whole).ended (f x t h whole).given
      (λ k u g. complete_below d (k ∷ x) u (omega arith) g (λ q w i j. f q w i (suffix_drop j)))

  all_done : (c k : ℕ) (x : List ℕ) → HasAccess s c (k ∷ x) → ((q : List ℕ) (u : Task S) → At s q u → IsSuffix (k ∷ x) q → IsClosed P q u) → IsDone (accesses s c) (k ∷ x)
  all_done c k x a f = done_below (suc (total s.tasks)) c k x (omega arith) a f

  pub all_complete : (x : List ℕ) (t : Task S) → At s x t → ((q : List ℕ) (u : Task S) → At s q u → IsSuffix x q → IsClosed P q u) → IsComplete P s x
  all_complete x t h f = complete_below (suc (total s.tasks)) x t (omega arith) h f

  -- the earlier siblings on every level above a path are done
  Free : List ℕ → Type 0
  Free p = (c i k : ℕ) (a : List ℕ) → i < k → IsSuffix (k ∷ a) p → HasAccess s c (i ∷ a) → IsDone (accesses s c) (i ∷ a)

  free_earlier : (p : List ℕ) (c : ℕ) (q u : List ℕ) → ((c i k : ℕ) (a : List ℕ) → i < k → IsSuffix (k ∷ a) p → HasAccess s c (i ∷ a) → IsDone (accesses s c) (i ∷ a)) → IsSuffix q p → IsEarlier s c u q → IsDone (accesses s c) u
  free_earlier p c q u f h (is_earlier {i = i} {k = k} {p = a} l acc) = f c i k a l h acc

  satisfied_w : (p q : List ℕ) (c : ℕ) (m : Mode) → ((c i k : ℕ) (a : List ℕ) → i < k → IsSuffix (k ∷ a) p → HasAccess s c (i ∷ a) → IsDone (accesses s c) (i ∷ a)) → IsSuffix q p → q ≢ [] → AccessOf s c q m → IsWriteSatisfied (accesses s c) q
  satisfied_w p [] c m f h ne a = absurd (ne refl)
  satisfied_w p (k ∷ []) c m f h ne a = write_top (is_top (has_access a)) (λ u b. free_earlier p c (k ∷ []) u f h b)
  satisfied_w p (k ∷ i ∷ q) c m f h ne a =
      let b = access_up P main s c k (i ∷ q) m made a in
      write_child (is_child (has_access b.access) (has_access a)) (satisfied_w p (i ∷ q) c b.mode f (suffix_drop h) (λ e. cc) b.access) (λ u g. free_earlier p c (k ∷ i ∷ q) u f h g)

  satisfied_r : (p q : List ℕ) (c : ℕ) (m : Mode) → ((c i k : ℕ) (a : List ℕ) → i < k → IsSuffix (k ∷ a) p → HasAccess s c (i ∷ a) → IsDone (accesses s c) (i ∷ a)) → IsSuffix q p → q ≢ [] → AccessOf s c q m → IsReadSatisfied (accesses s c) q
  satisfied_r p [] c m f h ne a = absurd (ne refl)
  satisfied_r p (k ∷ []) c m f h ne a = read_top (is_top (has_access a)) (λ u b n. free_earlier p c (k ∷ []) u f h b)
  satisfied_r p (k ∷ i ∷ q) c m f h ne a =
      let b = access_up P main s c k (i ∷ q) m made a in
      read_child (is_child (has_access b.access) (has_access a)) (satisfied_r p (i ∷ q) c b.mode f (suffix_drop h) (λ e. cc) b.access) (λ u g n. free_earlier p c (k ∷ i ∷ q) u f h g)

  fold_or_write : (m : Mode) (op : Op) → covers m (Fold op) ≡ true → (m ≡ Fold op) ⊎ (m ≡ Write)
  fold_or_write Read op h = cc
  fold_or_write Write op h = inr refl
  fold_or_write (Fold q) op h = inl (ap (λ (z : Op). Fold z) (op_eq_is q op h))

  satisfied_x : (p q : List ℕ) (c : ℕ) (op : Op) → ((c i k : ℕ) (a : List ℕ) → i < k → IsSuffix (k ∷ a) p → HasAccess s c (i ∷ a) → IsDone (accesses s c) (i ∷ a)) → IsSuffix q p → q ≢ [] → AccessOf s c q (Fold op) → IsJoinSatisfied (accesses s c) op q
  satisfied_x p [] c op f h ne a = absurd (ne refl)
  satisfied_x p (k ∷ []) c op f h ne a = join_top (is_top (has_access a)) (λ u b. inr (free_earlier p c (k ∷ []) u f h b))
  satisfied_x p (k ∷ i ∷ q) c op f h ne a =
      let b = access_up P main s c k (i ∷ q) (Fold op) made a in
      go b (fold_or_write b.mode op b.covers) (λ acc. satisfied_x p (i ∷ q) c op f (suffix_drop h) (λ e. cc) acc)
    where
      go : (b : AccessAbove s c (i ∷ q) (Fold op)) → (b.mode ≡ Fold op) ⊎ (b.mode ≡ Write) → (AccessOf s c (i ∷ q) (Fold op) → IsJoinSatisfied (accesses s c) op (i ∷ q)) → IsJoinSatisfied (accesses s c) op (k ∷ i ∷ q)
      go b (inl e) up =
          join_below_fold (is_child (has_access b.access) (has_access a)) (mode_is s c (i ∷ q) b.mode b.access ∙ e) (up (subst (λ (z : Mode). AccessOf s c (i ∷ q) z) e b.access)) (λ u g. inr (free_earlier p c (k ∷ i ∷ q) u f h g))
      go b (inr e) up =
          join_below_write (is_child (has_access b.access) (has_access a)) (mode_is s c (i ∷ q) b.mode b.access ∙ e) (satisfied_w p (i ∷ q) c b.mode f (suffix_drop h) (λ x. cc) b.access) (λ u g. inr (free_earlier p c (k ∷ i ∷ q) u f h g))

-- an act by which a body stops is a fault, unless the body has ended
judged_stops : {S : Type 0} (f : Frame S) (line : ℕ) (r : Option FaultKind) (a : Act S) → (a ≢ Over) → judged_act f line r a ≢ Over
judged_stops f line None a h e = h e
judged_stops f line (Some k) a h e = cc

ask_not_over : {S : Type 0} (slots : ℕ → Right) (inc : Bool) (f : Frame S) (a : Ask S) (line : ℕ) → act_of_ask slots inc f a line ≢ Over
ask_not_over slots inc f Ask.Begin line e = judged_stops f line (create_fault f.context) _ (λ x. cc) e
ask_not_over slots inc f Ask.Tick line e = judged_stops f line (tick_fault f.context) Ticked (λ x. cc) e
ask_not_over slots inc f (Ask.Read c) line e = judged_stops f line (touch_fault ((right_of f.context) c) ((lent_of f.context) c) ((mark_of f.context) c) Reads) (Load c) (λ x. cc) e
ask_not_over slots inc f (Ask.Write c v) line e = judged_stops f line (touch_fault ((right_of f.context) c) ((lent_of f.context) c) ((mark_of f.context) c) Writes) (Store c (word_of v)) (λ x. cc) e
ask_not_over slots inc f (Ask.Fold c op v) line e = judged_stops f line (touch_fault ((right_of f.context) c) ((lent_of f.context) c) ((mark_of f.context) c) (Folds op)) (Folded c op (word_of v) (is_fold (slots c))) (λ x. cc) e
ask_not_over slots inc f (Ask.Create o) line e = judged_stops f line _ (Created o f.context.final) (λ x. cc) e
ask_not_over slots inc f Ask.Await line e = cc
ask_not_over slots inc f Ask.Wait line e = cc
ask_not_over slots inc f (Ask.WaitOn named) line e = judged_stops f line (wait_on_fault f.context named) (WaitedOn named) (λ x. cc) e
ask_not_over slots inc f (Ask.Release cl) line e = judged_stops f line (release_fault f.context cl) (Releases cl inc) (λ x. cc) e
ask_not_over slots inc f (Ask.Print text) line e = cc
ask_not_over slots inc f Ask.End line e = cc
ask_not_over slots inc f (Ask.Fails k) line e = cc

frame_not_over : {S : Type 0} (P : Program S) (slots : ℕ → Right) (inc : Bool) (f : Frame S) (w : Bool) → frame_act P slots inc f w ≢ Over
frame_not_over P slots inc f true e = cc
frame_not_over P slots inc f false e = ask_not_over slots inc f (ask_of P f).ask (ask_of P f).line e

stack_not_over : {S : Type 0} (P : Program S) (slots : ℕ → Right) (base : Frame S) (inner : List (Frame S)) (over : Bool) → over ≡ false → stack_act P slots base inner over ≢ Over
stack_not_over P slots base inner true h e = cc
stack_not_over P slots base [] false h e = frame_not_over P slots false base base.awaits e
stack_not_over P slots base (f ∷ fs) false h e = frame_not_over P slots true f f.awaits e

pub not_over : {S : Type 0} (P : Program S) (b : Body S) → is_ended P b ≡ false → act_now P b ≢ Over
unfolding stage_act act_of
not_over P b h e = let x = stack_from P b.start b.found in stack_not_over P (right_of b.start.context) x.base x.inner x.ended h e

fault_or_goes : {S : Type 0} (a : Act S) → a ≢ Over → IsFault a ⊎ (IsHalt a → ⊥)
fault_or_goes (Fault kind line key) h = inl tt
fault_or_goes Over h = absurd (h refl)
fault_or_goes _ h = inr (λ x. x)

-- what a task that has ended has not given up
data Ungiven {S : Type 0} (p : List ℕ) (t : Task S) : Type 0 where
  none : ((c : ℕ) → Owes p t.body.start.context c → IsIn c t.given) → Ungiven p t
  some : (k : ℕ) (q : List ℕ) → p ≡ k ∷ q → (c : ℕ) (m : Mode) (strong : Bool) → (right_of t.body.start.context) c ≡ Holds m strong → (IsIn c t.given → ⊥) → Ungiven p t

module _ {S : Type 0} (P : Program S) (main : Start S) (cells : List ℕ) (s : State S) (made : IsMade P main s) (mem : InMemory main cells) where
  owed_below : (p : List ℕ) (t : Task S) (k : ℕ) (q : List ℕ) → At s p t → p ≡ k ∷ q → (n : ℕ) → ((c : ℕ) → c < n → (m : Mode) (strong : Bool) → (right_of t.body.start.context) c ≡ Holds m strong → IsIn c t.given) ⊎ ((c : ℕ) × (m : Mode) × (strong : Bool) × ((right_of t.body.start.context) c ≡ Holds m strong) × (IsIn c t.given → ⊥))
  owed_below p t k q at_ e zero = inl (λ c l m b r. absurd (omega arith))
  owed_below p t k q at_ e (suc n) = go (owed_below p t k q at_ e n) ((right_of t.body.start.context) n) refl (in_or_not n t.given)
    where
      Answer : ℕ → Type 0
      Answer n = ((c : ℕ) → c < n → (m : Mode) (strong : Bool) → (right_of t.body.start.context) c ≡ Holds m strong → IsIn c t.given) ⊎ ((c : ℕ) × (m : Mode) × (strong : Bool) × ((right_of t.body.start.context) c ≡ Holds m strong) × (IsIn c t.given → ⊥))

      which : (c : ℕ) → c < suc n → (c < n) ⊎ (c ≡ n)
      which c l = grind arith

      extend : ((c : ℕ) → c < n → (m : Mode) (strong : Bool) → (right_of t.body.start.context) c ≡ Holds m strong → IsIn c t.given) → ((m : Mode) (strong : Bool) → (right_of t.body.start.context) n ≡ Holds m strong → IsIn n t.given)
          → (c : ℕ) → c < suc n → (m : Mode) (strong : Bool) → (right_of t.body.start.context) c ≡ Holds m strong → IsIn c t.given
      extend f g c l m b r = pick (which c l)
        where
          pick : (c < n) ⊎ (c ≡ n) → IsIn c t.given
          pick (inl h) = f c h m b r
          pick (inr h) = subst (λ (z : ℕ). IsIn z t.given) (sym h) (g m b (subst (λ (z : ℕ). (right_of t.body.start.context) z ≡ Holds m b) h r))

      go : Answer n → (r : Right) → (right_of t.body.start.context) n ≡ r → (IsIn n t.given) ⊎ (IsIn n t.given → ⊥) → Answer (suc n)
      go (inr a) r e2 i = inr a
      go (inl f) NoRight e2 i = inl (extend f (λ m b x. let y : NoRight ≡ Holds m b = sym e2 ∙ x in cc))
      go (inl f) Released e2 i = inl (extend f (λ m b x. let y : Released ≡ Holds m b = sym e2 ∙ x in cc))
      go (inl f) (Holds m b) e2 (inl i) = inl (extend f (λ m' b' x. i))
      go (inl f) (Holds m b) e2 (inr i) = inr (n, m, b, e2, i)

  ungiven : (p : List ℕ) (t : Task S) → At s p t → Ungiven p t
  ungiven [] t at_ = none (λ c o. absurd o)
  ungiven (k ∷ q) t at_ = go (owed_below (k ∷ q) t k q at_ refl (length cells))
    where
      go : ((c : ℕ) → c < length cells → (m : Mode) (strong : Bool) → (right_of t.body.start.context) c ≡ Holds m strong → IsIn c t.given) ⊎ ((c : ℕ) × (m : Mode) × (strong : Bool) × ((right_of t.body.start.context) c ≡ Holds m strong) × (IsIn c t.given → ⊥)) → Ungiven (k ∷ q) t
      go (inl f) = none (λ c o. f c (right_in_memory P main s cells c (k ∷ q) o.0 made mem (record { task = t; at_ = at_; strong = o.1; right = o.2 })) o.0 o.1 o.2)
      go (inr a) = some k q refl a.0 a.1 a.2 a.3 a.4

  module _ (p : List ℕ) (t : Task S) (at_ : At s p t) (least : IsLeastPlace P s p t) where
    free : (c i k : ℕ) (a : List ℕ) → i < k → IsSuffix (k ∷ a) p → HasAccess s c (i ∷ a) → IsDone (accesses s c) (i ∷ a)
    free c i k a l h acc = all_done P main s made c i a acc (λ q u g j. least q u g (before_across a i k (created_now P u.body) (created_now P t.body) l j h))

    children_closed : (k : ℕ) → k < created_now P t.body → (q : List ℕ) (u : Task S) → At s q u → IsSuffix (k ∷ p) q → IsClosed P q u
    children_closed k l q u g j = least q u g (before_up k (created_now P t.body) (created_now P u.body) p j l)

    child_number : (k : ℕ) (u : Task S) → At s (k ∷ p) u → k < created_now P t.body
    child_number k u g =
        let b = made.child k p u g in
        let e = at_same s p b.creator t b.at_ at_ in
        let f : IsSuffix (b.answer ∷ b.past) t.body.found = subst (λ (z : Task S). IsSuffix (b.answer ∷ b.past) z.body.found) e b.happened in
        let num : stage_created P t.body.start b.past ≡ k = subst (λ (z : Task S). stage_created P z.body.start b.past ≡ k) e b.number in
        let act : stage_act P t.body.start b.past ≡ Created b.order false = subst (λ (z : Task S). stage_act P z.body.start b.past ≡ Created b.order false) e b.act in
        let one = creation_counts P t.body.start b.answer b.past b.order act in
        let m = created_grows P t.body.start f in
        omega arith

    ready : IsReady s p t.body.start.context
    ready = go p at_ free
      where
        go : (p : List ℕ) → At s p t → ((c i k : ℕ) (a : List ℕ) → i < k → IsSuffix (k ∷ a) p → HasAccess s c (i ∷ a) → IsDone (accesses s c) (i ∷ a)) → IsReady s p t.body.start.context
        go [] h f = tt
        go (k ∷ q) h f = (
          (λ c r. satisfied_r P main s made (k ∷ q) (k ∷ q) c Read f whole (λ e. cc) (record { task = t; at_ = h; strong = true; right = r })),
          (λ c r. satisfied_w P main s made (k ∷ q) (k ∷ q) c Write f whole (λ e. cc) (record { task = t; at_ = h; strong = true; right = r })),
        )

    waits : (a : Act S) → IsWaitMet P s p (created_now P t.body) a
    waits Waited = λ k u l g. all_complete P main s made (k ∷ p) u g (λ q w i j. children_closed k l q w i j)
    waits Awaited = λ k u e g. all_complete P main s made (k ∷ p) u g (λ q w i j. children_closed k (omega arith) q w i j)
    waits (WaitedOn named) = λ k c l e acc. all_done P main s made c k p acc (λ q w i j. children_closed k l q w i j)
    waits _ = tt

    clause : WaitClause P s p t
    clause = λ e k u g. all_complete P main s made (k ∷ p) u g (λ q w i j. children_closed k (child_number k u g) q w i j)

    give : (k : ℕ) (q : List ℕ) → p ≡ k ∷ q → (c : ℕ) (m : Mode) (strong : Bool) → (right_of t.body.start.context) c ≡ Holds m strong → (IsIn c t.given → ⊥) → is_ended P t.body ≡ true → SomeMove P s
    give k q e c (Fold op) true r n o =
        a_join {p = p} {c = c} {op = op} {t = t} (record {
          at_ = at_;
          right = r;
          kept = n;
          ended = o;
          wait = clause;
          satisfied = satisfied_x P main s made p p c op free whole (λ x. cc (e, x)) (record { task = t; at_ = at_; strong = true; right = r });
        })
    give k q e c (Fold op) false r n o =
        a_let {p = p} {c = c} {t = t} (record { at_ = at_; not_main = λ x. cc (e, x); mode = Fold op; strong = false; right = r; no_fold = λ op' x. let y : Holds (Fold op) false ≡ Holds (Fold op') true = sym r ∙ x in cc; kept = n; gone = inr (o, clause) })
    give k q e c Read b r n o =
        a_let {p = p} {c = c} {t = t} (record { at_ = at_; not_main = λ x. cc (e, x); mode = Read; strong = b; right = r; no_fold = λ op' x. let y : Holds Read b ≡ Holds (Fold op') true = sym r ∙ x in cc; kept = n; gone = inr (o, clause) })
    give k q e c Write b r n o =
        a_let {p = p} {c = c} {t = t} (record { at_ = at_; not_main = λ x. cc (e, x); mode = Write; strong = b; right = r; no_fold = λ op' x. let y : Holds Write b ≡ Holds (Fold op') true = sym r ∙ x in cc; kept = n; gone = inr (o, clause) })

    -- an open task before which all is closed stands before a fault, or some move may be made
    pub least_moves : (IsClosed P p t → ⊥) → IsFault (act_now P t.body) ⊎ SomeMove P s
    least_moves open_ = go (is_ended P t.body) refl
      where
        ends : Ungiven p t → is_ended P t.body ≡ true → SomeMove P s
        ends (none f) o = absurd (open_ (record { ended = o; given = f }))
        ends (some k q e c m b r n) o = give k q e c m b r n o

        acts : IsFault (act_now P t.body) ⊎ (IsHalt (act_now P t.body) → ⊥) → IsFault (act_now P t.body) ⊎ SomeMove P s
        acts (inl f) = inl f
        acts (inr g) = inr (a_step {p = p} {t = t} (record { at_ = at_; goes = g; ready = λ e. ready; waits = waits (act_now P t.body) }))

        go : (b : Bool) → is_ended P t.body ≡ b → IsFault (act_now P t.body) ⊎ SomeMove P s
        go true o = inr (ends (ungiven p t at_) o)
        go false o = acts (fault_or_goes (act_now P t.body) (not_over P t.body o))

paths : {S : Type 0} → List (Task S) → List (List ℕ)
paths [] = []
paths (t ∷ ts) = t.body.start.path ∷ paths ts

found_in : {S : Type 0} (tasks : List (Task S)) (q : List ℕ) (u : Task S) → find tasks q ≡ Some u → IsIn q (paths tasks)
unfolding find paths
found_in [] q u h = absurd (cc (h))
found_in {S = S} (t ∷ ts) q u h = go (same_path t.body.start.path q) refl (λ k. found_in ts q u k)
  where
    go : (b : Bool) → same_path t.body.start.path q ≡ b → (find ts q ≡ Some u → IsIn q (paths ts)) → IsIn q (t.body.start.path ∷ paths ts)
    go true e f = subst (λ (z : List ℕ). IsIn z (t.body.start.path ∷ paths ts)) (same_path_is t.body.start.path q e) here
    go false e f = there (f (rw e at h))

module _ {S : Type 0} (P : Program S) (main : Start S) (cells : List ℕ) (s : State S) (made : IsMade P main s) (mem : InMemory main cells) where
  closed_or_open : (q : List ℕ) (u : Task S) → At s q u → IsClosed P q u ⊎ (IsClosed P q u → ⊥)
  closed_or_open q u h = go (is_ended P u.body) refl (ungiven P main cells s made mem q u h)
    where
      owed : (k : ℕ) (r : List ℕ) → q ≡ k ∷ r → (c : ℕ) (m : Mode) (b : Bool) → (right_of u.body.start.context) c ≡ Holds m b → Owes q u.body.start.context c
      owed k r e c m b x = subst (λ (z : List ℕ). Owes z u.body.start.context c) (sym e) (m, b, x)

      go : (b : Bool) → is_ended P u.body ≡ b → Ungiven q u → IsClosed P q u ⊎ (IsClosed P q u → ⊥)
      go false o g = inr (λ k. let x : true ≡ false = sym k.ended ∙ o in cc)
      go true o (none f) = inl (record { ended = o; given = f })
      go true o (some k r e c m b x n) = inr (λ w. n (w.given c (owed k r e c m b x)))

  -- the least open task among some paths
  data Best (ps : List (List ℕ)) : Type 0 where
    all_closed : ((q : List ℕ) (u : Task S) → IsIn q ps → At s q u → IsClosed P q u) → Best ps
    best : (p : List ℕ) (t : Task S) → At s p t → (IsClosed P p t → ⊥) → ((q : List ℕ) (u : Task S) → IsIn q ps → At s q u → IsBefore (reverse (created_now P u.body ∷ q)) (reverse (created_now P t.body ∷ p)) → IsClosed P q u) → Best ps

  in_or_first : {q p : List ℕ} {ps : List (List ℕ)} → IsIn q (p ∷ ps) → (q ≡ p) ⊎ IsIn q ps
  in_or_first here = inl refl
  in_or_first (there h) = inr h

  one_more : (p : List ℕ) (ps : List (List ℕ)) → Best ps → Best (p ∷ ps)
  one_more p ps b = go (find s.tasks p) refl b
    where
      gone : find s.tasks p ≡ None → Best ps → Best (p ∷ ps)
      gone e (all_closed f) = all_closed (λ q u i h. pick q u h (in_or_first i))
        where
          pick : (q : List ℕ) (u : Task S) → At s q u → (q ≡ p) ⊎ IsIn q ps → IsClosed P q u
          pick q u h (inl x) = let y : find s.tasks p ≡ Some u = subst (λ (z : List ℕ). At s z u) x h in absurd (cc (sym e ∙ y))
          pick q u h (inr i) = f q u i h
      gone e (best r t at_ o f) = best r t at_ o (λ q u i h l. pick q u h l (in_or_first i))
        where
          pick : (q : List ℕ) (u : Task S) → At s q u → IsBefore (reverse (created_now P u.body ∷ q)) (reverse (created_now P t.body ∷ r)) → (q ≡ p) ⊎ IsIn q ps → IsClosed P q u
          pick q u h l (inl x) = let y : find s.tasks p ≡ Some u = subst (λ (z : List ℕ). At s z u) x h in absurd (cc (sym e ∙ y))
          pick q u h l (inr i) = f q u i h l

      closed_here : (w : Task S) → At s p w → IsClosed P p w → Best ps → Best (p ∷ ps)
      closed_here w hw k (all_closed f) = all_closed (λ q u i h. pick q u h (in_or_first i))
        where
          pick : (q : List ℕ) (u : Task S) → At s q u → (q ≡ p) ⊎ IsIn q ps → IsClosed P q u
          pick q u h (inl x) =
              let m = at_same s p w u hw (subst (λ (z : List ℕ). At s z u) x h) in
              subst (λ (z : List ℕ). IsClosed P z u) (sym x) (subst (λ (z : Task S). IsClosed P p z) m k)
          pick q u h (inr i) = f q u i h
      closed_here w hw k (best r t at_ o f) = best r t at_ o (λ q u i h l. pick q u h l (in_or_first i))
        where
          pick : (q : List ℕ) (u : Task S) → At s q u → IsBefore (reverse (created_now P u.body ∷ q)) (reverse (created_now P t.body ∷ r)) → (q ≡ p) ⊎ IsIn q ps → IsClosed P q u
          pick q u h l (inl x) =
              let m = at_same s p w u hw (subst (λ (z : List ℕ). At s z u) x h) in
              subst (λ (z : List ℕ). IsClosed P z u) (sym x) (subst (λ (z : Task S). IsClosed P p z) m k)
          pick q u h l (inr i) = f q u i h l

      open_here : (w : Task S) → At s p w → (IsClosed P p w → ⊥) → Best ps → Best (p ∷ ps)
      open_here w hw k (all_closed f) = best p w hw k (λ q u i h l. pick q u h l (in_or_first i))
        where
          pick : (q : List ℕ) (u : Task S) → At s q u → IsBefore (reverse (created_now P u.body ∷ q)) (reverse (created_now P w.body ∷ p)) → (q ≡ p) ⊎ IsIn q ps → IsClosed P q u
          pick q u h l (inl x) =
              let m = at_same s p w u hw (subst (λ (z : List ℕ). At s z u) x h) in
              absurd (before_not l (λ i. reverse (created_now P (sym m i).body ∷ x i)))
          pick q u h l (inr i) = f q u i h
      open_here w hw k (best r t at_ o f) = go2 (compare (reverse (created_now P w.body ∷ p)) (reverse (created_now P t.body ∷ r)))
        where
          itself : (q : List ℕ) (u : Task S) → At s q u → q ≡ p → reverse (created_now P u.body ∷ q) ≡ reverse (created_now P w.body ∷ p)
          itself q u h x =
              let m = at_same s p w u hw (subst (λ (z : List ℕ). At s z u) x h) in
              λ i. reverse (created_now P (sym m i).body ∷ x i)

          keep : (IsBefore (reverse (created_now P w.body ∷ p)) (reverse (created_now P t.body ∷ r)) → ⊥) → Best (p ∷ ps)
          keep never = best r t at_ o (λ q u i h l. pick q u h l (in_or_first i))
            where
              pick : (q : List ℕ) (u : Task S) → At s q u → IsBefore (reverse (created_now P u.body ∷ q)) (reverse (created_now P t.body ∷ r)) → (q ≡ p) ⊎ IsIn q ps → IsClosed P q u
              pick q u h l (inl x) = absurd (never (subst (λ (z : List ℕ). IsBefore z (reverse (created_now P t.body ∷ r))) (itself q u h x) l))
              pick q u h l (inr i) = f q u i h l

          go2 : Compared (reverse (created_now P w.body ∷ p)) (reverse (created_now P t.body ∷ r)) → Best (p ∷ ps)
          go2 (Compared.before l) = best p w hw k (λ q u i h b. pick q u h b (in_or_first i))
            where
              pick : (q : List ℕ) (u : Task S) → At s q u → IsBefore (reverse (created_now P u.body ∷ q)) (reverse (created_now P w.body ∷ p)) → (q ≡ p) ⊎ IsIn q ps → IsClosed P q u
              pick q u h b (inl x) = absurd (before_not b (itself q u h x))
              pick q u h b (inr i) = f q u i h (before_trans b l)
          go2 (Compared.equal e) = keep (λ l. before_not l e)
          go2 (Compared.after l) = keep (λ l2. before_not (before_trans l l2) refl)

      go : (o : Option (Task S)) → find s.tasks p ≡ o → Best ps → Best (p ∷ ps)
      go None e b = gone e b
      go (Some w) e b = split (closed_or_open p w e)
        where
          split : IsClosed P p w ⊎ (IsClosed P p w → ⊥) → Best (p ∷ ps)
          split (inl k) = closed_here w e k b
          split (inr k) = open_here w e k b

  best_of : (ps : List (List ℕ)) → Best ps
  best_of [] = all_closed (λ q u i h. elim i [ ])
  best_of (p ∷ ps) = one_more p ps (best_of ps)

  -- all tasks are closed, or some move may be made, or the least open task stands before a fault
  pub data Outlook : Type 0 where
    finished : ((q : List ℕ) (u : Task S) → At s q u → IsClosed P q u) → Outlook
    moves_on : SomeMove P s → Outlook
    faulted : (p : List ℕ) (t : Task S) → At s p t → IsLeastPlace P s p t → IsFault (act_now P t.body) → Outlook

  pub progress : Outlook
  progress = go (best_of (paths s.tasks))
    where
      go : Best (paths s.tasks) → Outlook
      go (all_closed f) = finished (λ q u h. f q u (found_in s.tasks q u h) h)
      go (best p t at_ o f) = end (least_moves P main cells s made mem p t at_ least o)
        where
          least : IsLeastPlace P s p t
          least q u h l = f q u (found_in s.tasks q u h) h l

          end : IsFault (act_now P t.body) ⊎ SomeMove P s → Outlook
          end (inl x) = faulted p t at_ least x
          end (inr m) = moves_on m

pub open_tasks_move : (S : Type 0) → OpenTasksMove S
open_tasks_move S P main cells z s p t set_ a at_ open_ = go (progress P main cells s a.made set_.memory)
  where
    fault_open : (q : List ℕ) (u : Task S) → IsFault (act_now P u.body) → IsClosed P q u → ⊥
    fault_open q u x k = subst IsFault (over_stops P u.body.start u.body.found k.ended) x

    go : Outlook P main cells s a.made set_.memory → SomeMove P s ⊎ FaultIsNext P s
    go (Outlook.finished f) = absurd (open_ (f p t at_))
    go (Outlook.moves_on m) = inl m
    go (Outlook.faulted q u h least x) = inr (record { path = q; task = u; at_ = h; open_ = λ k. fault_open q u x k; least = least_key P main s a.made q u h least; fault = x })
