-- What may happen in a state can be found out: each of these claims holds or does not.
use Rattle.std.proofs.Common.{◌≡◌, ◌≢◌, ℕ, zero, suc, ◌+◌, ◌<◌, ◌≤◌, ◌⊎◌, inl, inr, refl, sym, subst, ap, ◌∙◌, arith, List, [], ◌∷◌, length, Bool, true, false, Option, Some, None}
use Rattle.std.proofs.lemmas.List.{get_or_past}
use Rattle.oss_syntax.specs.declared.access.Access.{Access}
use Rattle.oss_syntax.specs.declared.access.Mode.{Mode}
use Rattle.oss_syntax.specs.declared.access.Op.{Op}
use Rattle.oss_syntax.specs.declared.access.Op.TheVariants.{Add, And, Or, Xor}
use Rattle.oss_syntax.specs.declared.access.Mode.TheVariants.{Read, Write, Fold}
use Rattle.oss_model.specs.Forest.{IsDone, IsWriteSatisfied, IsReadSatisfied, IsJoinSatisfied, IsRead, InRun, done, write_top, write_child, read_top, read_child, join_top, join_below_fold, join_below_write}
use Rattle.oss_model.specs.Order.{IsIn, here, there}
use Rattle.oss_model.specs.Rights.{Right, NoRight, Released, Holds}
use Rattle.oss_model.specs.Context.{Context, right_of, no_entry, in_clauses}
use Rattle.oss_model.specs.Bodies.{Program, Act, stack_from, IsHalt}
use Rattle.oss_model.specs.Bodies.Act.{Ticked, Load, Store, Folded, Created, Awaited, Waited, WaitedOn, Releases, Printed, Ended, Fault, Over}
use Rattle.oss_model.specs.Machine.{Task, State, At, find, HasAccess, IsTop, is_top, IsChild, is_child, IsEarlier, is_earlier, HasGiven, accesses, mode_in, IsReady, Owes, IsComplete, complete, IsWaitMet}
use Rattle.oss_model.specs.Moves.{act_now, created_now, is_ended, WaitClause, CanStep, IsGone, CanLet, CanJoin}
use Rattle.oss_model.proofs.MoveLemmas.{which_path}
use Rattle.oss_model.proofs.TreeLemmas.{at_same, path_found}
use Rattle.oss_wave_laws.specs.Left.{summed}
use Rattle.oss_wave_laws.proofs.SumLemmas.{in_cases, in_none, chosen, listed}

-- it holds, or it does not
abbrev pub Decided : Type 0 → Type 0
Decided A = A ⊎ (A → ⊥)

pub by_iff : {A B : Type 0} → (A → B) → (B → A) → Decided A → Decided B
by_iff f g (inl a) = inl (f a)
by_iff f g (inr h) = inr (λ b. h (g b))

pub both : {A B : Type 0} → Decided A → Decided B → Decided (A × B)
both (inl a) (inl b) = inl (a, b)
both (inl a) (inr h) = inr (λ x. h x.1)
both (inr h) b = inr (λ x. h x.0)

pub if_then : {A B : Type 0} → Decided A → Decided B → Decided (A → B)
if_then (inl a) (inl b) = inl (λ x. b)
if_then (inl a) (inr h) = inr (λ f. h (f a))
if_then (inr h) b = inl (λ a. absurd (h a))

pub either : {A B : Type 0} → Decided A → Decided B → Decided (A ⊎ B)
either (inl a) b = inl (inl a)
either (inr h) (inl b) = inl (inr b)
either {A = A} {B = B} (inr h) (inr k) = inr neither
  where
    neither : A ⊎ B → ⊥
    neither (inl a) = h a
    neither (inr b) = k b

pub if_not : {A : Type 0} → Decided A → Decided (A → ⊥)
if_not (inl a) = inr (λ h. h a)
if_not (inr h) = inl h

-- a claim of all numbers below one
pub below : (F : ℕ → Type 0) (n : ℕ) → ((c : ℕ) → Decided (F c)) → Decided ((c : ℕ) → c < n → F c)
below F zero d = inl (λ c l. absurd (omega (arith, l)))
below F (suc n) d = by_iff (λ x c l. pick x c (which c l)) (λ f. (f n (omega arith), (λ c l. f c (omega (arith, l))))) (both (d n) (below F n d))
  where
    which : (c : ℕ) → c < suc n → (c ≡ n) ⊎ (c < n)
    which c l = grind (arith, l)

    pick : F n × ((c : ℕ) → c < n → F c) → (c : ℕ) → (c ≡ n) ⊎ (c < n) → F c
    pick x c (inl e) = subst F (sym e) x.0
    pick x c (inr l) = x.1 c l

-- a claim of all members of a list
pub for_all : {A : Type 0} (F : A → Type 0) (xs : List A) → ((x : A) → Decided (F x)) → Decided ((x : A) → IsIn x xs → F x)
for_all F [] d = inl (λ x h. absurd (in_none h))
for_all {A = A} F (y ∷ ys) d = by_iff (λ k x h. pick k x (in_cases h)) (λ f. (f y here, (λ x h. f x (there h)))) (both (d y) (for_all F ys d))
  where
    pick : F y × ((x : A) → IsIn x ys → F x) → (x : A) → (x ≡ y) ⊎ IsIn x ys → F x
    pick k x (inl e) = subst F (sym e) k.0
    pick k x (inr h) = k.1 x h

pub is_it : (b c : Bool) → Decided (b ≡ c)
is_it true true = inl refl
is_it true false = inr (λ e. cc)
is_it false true = inr (λ e. cc)
is_it false false = inl refl

pub is_less : (m n : ℕ) → Decided (m < n)
is_less m n = by_iff (λ x. x) (λ x. x) (go (which m n))
  where
    which : (a b : ℕ) → (a < b) ⊎ (b ≤ a)
    which a b = grind arith

    go : (m < n) ⊎ (n ≤ m) → Decided (m < n)
    go (inl l) = inl l
    go (inr l) = inr (λ k. omega (arith, l, k))

pub is_number : (m n : ℕ) → Decided (m ≡ n)
is_number m n = grind arith

pub is_member : (c : ℕ) (xs : List ℕ) → Decided (IsIn c xs)
is_member c [] = inr in_none
is_member c (x ∷ xs) = by_iff (λ h. forth h) in_cases (either (is_number c x) (is_member c xs))
  where
    forth : (c ≡ x) ⊎ IsIn c xs → IsIn c (x ∷ xs)
    forth (inl e) = subst (λ (y : ℕ). IsIn c (y ∷ xs)) e here
    forth (inr h) = there h

pub is_op : (a b : Op) → Decided (a ≡ b)
is_op Add Add = inl refl
is_op And And = inl refl
is_op Or Or = inl refl
is_op Xor Xor = inl refl
is_op Add And = inr (λ e. cc)
is_op Add Or = inr (λ e. cc)
is_op Add Xor = inr (λ e. cc)
is_op And Add = inr (λ e. cc)
is_op And Or = inr (λ e. cc)
is_op And Xor = inr (λ e. cc)
is_op Or Add = inr (λ e. cc)
is_op Or And = inr (λ e. cc)
is_op Or Xor = inr (λ e. cc)
is_op Xor Add = inr (λ e. cc)
is_op Xor And = inr (λ e. cc)
is_op Xor Or = inr (λ e. cc)

fold_op : (a b : Op) → Fold a ≡ Fold b → a ≡ b
fold_op a b e = cc

pub is_mode : (a b : Mode) → Decided (a ≡ b)
is_mode Read Read = inl refl
is_mode Write Write = inl refl
is_mode (Fold a) (Fold b) = by_iff (λ e. ap Fold e) (fold_op a b) (is_op a b)
is_mode Read Write = inr (λ e. cc)
is_mode Read (Fold b) = inr (λ e. cc)
is_mode Write Read = inr (λ e. cc)
is_mode Write (Fold b) = inr (λ e. cc)
is_mode (Fold a) Read = inr (λ e. cc)
is_mode (Fold a) Write = inr (λ e. cc)

holds_mode : (a b : Mode) (x y : Bool) → Holds a x ≡ Holds b y → (a ≡ b) × (x ≡ y)
holds_mode a b x y e = (cc, cc)

pub is_right : (r : Right) (m : Mode) (strong : Bool) → Decided (r ≡ Holds m strong)
is_right NoRight m strong = inr (λ e. cc)
is_right Released m strong = inr (λ e. cc)
is_right (Holds n b) m strong = by_iff (λ h i. Holds (h.0 i) (h.1 i)) (holds_mode n m b strong) (both (is_mode n m) (is_it b strong))

pub is_released : (r : Right) → Decided (r ≡ Released)
is_released NoRight = inr (λ e. cc)
is_released Released = inl refl
is_released (Holds n b) = inr (λ e. cc)

is_read : (m : Mode) → Decided (IsRead m)
is_read Read = inl tt
is_read Write = inr (λ h. h)
is_read (Fold op) = inr (λ h. h)

pub is_halted : {S : Type 0} (a : Act S) → Decided (IsHalt a)
is_halted (Fault kind line key) = inl tt
is_halted Over = inl tt
is_halted Ticked = inr (λ h. h)
is_halted (Load c) = inr (λ h. h)
is_halted (Store c v) = inr (λ h. h)
is_halted (Folded c op v slot) = inr (λ h. h)
is_halted (Created o included) = inr (λ h. h)
is_halted Awaited = inr (λ h. h)
is_halted Waited = inr (λ h. h)
is_halted (WaitedOn named) = inr (λ h. h)
is_halted (Releases clauses included) = inr (λ h. h)
is_halted (Printed key text) = inr (λ h. h)
is_halted Ended = inr (λ h. h)

is_empty : (xs : List ℕ) → Decided (xs ≡ [])
is_empty [] = inl refl
is_empty (x ∷ xs) = inr (λ e. cc)

-- there is no right past the last cell of a context
pub right_past : (x : Context) (c : ℕ) → length x.entries ≤ c → right_of x c ≡ NoRight
right_past x c l = ap (λ e. e.right) (get_or_past x.entries c no_entry l)

pub held_below : (x : Context) (c : ℕ) (m : Mode) (strong : Bool) → right_of x c ≡ Holds m strong → c < length x.entries
held_below x c m strong r = go (which c (length x.entries))
  where
    which : (a b : ℕ) → (a < b) ⊎ (b ≤ a)
    which a b = grind arith

    go : (c < length x.entries) ⊎ (length x.entries ≤ c) → c < length x.entries
    go (inl l) = l
    go (inr l) = let e : NoRight ≡ Holds m strong = sym (right_past x c l) ∙ r in cc

pub owes_it : (p : List ℕ) (x : Context) (c : ℕ) → Decided (Owes p x c)
owes_it [] x c = inr (λ h. h)
owes_it (k ∷ p) x c = go (right_of x c) refl
  where
    go : (r : Right) → right_of x c ≡ r → Decided (Owes (k ∷ p) x c)
    go (Holds m b) e = inl (m, b, e)
    go NoRight e = inr (λ o. let f : NoRight ≡ Holds o.0 o.1 = sym e ∙ o.2 in cc)
    go Released e = inr (λ o. let f : Released ≡ Holds o.0 o.1 = sym e ∙ o.2 in cc)

-- a weight is at most the sum
pub part_of_sum : {S : Type 0} (w : Task S → ℕ) (xs : List (Task S)) (t : Task S) → IsIn t xs → w t ≤ summed w xs
unfolding summed
part_of_sum w [] t h = absurd (in_none h)
part_of_sum w (x ∷ xs) t here = omega arith
part_of_sum w (x ∷ xs) t (there h) = let r = part_of_sum w xs t h in omega (arith, r)

module _ {S : Type 0} (P : Program S) (s : State S) where
  abbrev pub all_tasks : List (Task S)
  all_tasks = chosen [] s.tasks

  -- paths are no longer, and contexts have no more cells
  longest : ℕ
  longest = summed (λ (t : Task S). length t.body.start.path) all_tasks

  pub most_cells : ℕ
  most_cells = summed (λ (t : Task S). length t.body.start.context.entries) all_tasks

  path_below : (p : List ℕ) (t : Task S) → At s p t → length p ≤ longest
  unfolding longest
  path_below p t h =
      let l = part_of_sum (λ (u : Task S). length u.body.start.path) all_tasks t ((listed s).all p t h) in
      let e : length t.body.start.path ≡ length p = ap (λ (q : List ℕ). length q) (path_found s.tasks p t h) in
      omega (arith, l, e)

  pub cell_below : (p : List ℕ) (t : Task S) (c : ℕ) (m : Mode) (strong : Bool) → At s p t → right_of t.body.start.context c ≡ Holds m strong → c < most_cells
  unfolding most_cells
  cell_below p t c m strong h r =
      let l = part_of_sum (λ (u : Task S). length u.body.start.context.entries) all_tasks t ((listed s).all p t h) in
      let k = held_below t.body.start.context c m strong r in
      omega (arith, l, k)

  pub is_there : (p : List ℕ) → ((t : Task S) × At s p t) ⊎ (find s.tasks p ≡ None)
  is_there p = go (find s.tasks p) refl
    where
      go : (o : Option (Task S)) → find s.tasks p ≡ o → ((t : Task S) × At s p t) ⊎ (find s.tasks p ≡ None)
      go (Some t) e = inl (t, e)
      go None e = inr e

  pub not_there : (p : List ℕ) (t : Task S) → find s.tasks p ≡ None → At s p t → ⊥
  not_there p t e h = cc

  pub has_access : (c : ℕ) (p : List ℕ) → Decided (HasAccess s c p)
  has_access c p = go (is_there p)
    where
      of_right : (t : Task S) → At s p t → (r : Right) → right_of t.body.start.context c ≡ r → Decided (HasAccess s c p)
      of_right t h (Holds m b) e = inl (record { task = t; at_ = h; mode = m; strong = b; right = e })
      of_right t h NoRight e = inr (λ a. let f = at_same s p a.task t a.at_ h in let k : NoRight ≡ Holds a.mode a.strong = sym e ∙ subst (λ (u : Task S). right_of u.body.start.context c ≡ Holds a.mode a.strong) f a.right in cc)
      of_right t h Released e = inr (λ a. let f = at_same s p a.task t a.at_ h in let k : Released ≡ Holds a.mode a.strong = sym e ∙ subst (λ (u : Task S). right_of u.body.start.context c ≡ Holds a.mode a.strong) f a.right in cc)

      go : ((t : Task S) × At s p t) ⊎ (find s.tasks p ≡ None) → Decided (HasAccess s c p)
      go (inl t) = of_right t.0 t.1 (right_of t.0.body.start.context c) refl
      go (inr e) = inr (λ a. not_there p a.task e a.at_)

  has_given : (c : ℕ) (p : List ℕ) → Decided (HasGiven s c p)
  has_given c p = go (is_there p)
    where
      go : ((t : Task S) × At s p t) ⊎ (find s.tasks p ≡ None) → Decided (HasGiven s c p)
      go (inl t) = by_iff (λ h. record { task = t.0; at_ = t.1; given = h }) (λ g. subst (λ (u : Task S). IsIn c u.given) (at_same s p g.task t.0 g.at_ t.1) g.given) (is_member c t.0.given)
      go (inr e) = inr (λ a. not_there p a.task e a.at_)

  -- a claim of a task, if it is the child with a number
  OnChild : List ℕ → (ℕ → Type 0) → List ℕ → Type 0
  OnChild p G [] = Unit {0}
  OnChild p G (k ∷ q) = q ≡ p → G k

  on_child : (p : List ℕ) (G : ℕ → Type 0) → ((k : ℕ) → Decided (G k)) → (q : List ℕ) → Decided (OnChild p G q)
  unfolding OnChild
  on_child p G d [] = inl tt
  on_child p G d (k ∷ q) = if_then (which_path q p) (d k)

  -- a claim of all children of a task
  pub of_children : (p : List ℕ) (G : ℕ → Type 0) → ((k : ℕ) → Decided (G k)) → Decided ((k : ℕ) (u : Task S) → At s (k ∷ p) u → G k)
  unfolding OnChild
  of_children p G d = by_iff forth back (for_all (λ (u : Task S). OnChild p G u.body.start.path) all_tasks (λ u. on_child p G d u.body.start.path))
    where
      forth : ((u : Task S) → IsIn u all_tasks → OnChild p G u.body.start.path) → (k : ℕ) (u : Task S) → At s (k ∷ p) u → G k
      forth f k u h = let g : OnChild p G (k ∷ p) = subst (λ (q : List ℕ). OnChild p G q) (path_found s.tasks (k ∷ p) u h) (f u ((listed s).all (k ∷ p) u h)) in g refl

      at_path : ((k : ℕ) (u : Task S) → At s (k ∷ p) u → G k) → (u : Task S) (q : List ℕ) → At s q u → OnChild p G q
      at_path g u [] h = tt
      at_path g u (k ∷ q) h = λ e. g k u (subst (λ (r : List ℕ). At s (k ∷ r) u) e h)

      back : ((k : ℕ) (u : Task S) → At s (k ∷ p) u → G k) → (u : Task S) → IsIn u all_tasks → OnChild p G u.body.start.path
      back g u h = at_path g u u.body.start.path ((listed s).only u h)

  child_parts : (c : ℕ) (u v : List ℕ) → IsChild s c u v → (k : ℕ) × (v ≡ k ∷ u) × HasAccess s c v
  child_parts c u v (is_child {k = k} a b) = (k, refl, b)

  child_both : (c : ℕ) (u v : List ℕ) → IsChild s c u v → HasAccess s c u × HasAccess s c v
  child_both c u v (is_child a b) = (a, b)

  is_below : (c : ℕ) (p : List ℕ) (k : ℕ) → Decided (IsChild s c p (k ∷ p))
  is_below c [] k = inr (λ h. elim h [ ])
  is_below c (i ∷ p) k = by_iff (λ h. is_child h.0 h.1) (λ h. child_both c (i ∷ p) (k ∷ i ∷ p) h) (both (has_access c (i ∷ p)) (has_access c (k ∷ i ∷ p)))

  done_from : (d : ℕ) (c : ℕ) (p : List ℕ) → longest < length p + d → Decided (IsDone (accesses s c) p)
  done_from zero c p l = inr (λ h. none h)
    where
      none : IsDone (accesses s c) p → ⊥
      none (done g f) = let m = path_below p g.task g.at_ in omega (arith, l, m)
  done_from (suc d) c p l = by_iff forth back (both (has_given c p) (of_children p (λ k. IsChild s c p (k ∷ p) → IsDone (accesses s c) (k ∷ p)) (λ k. if_then (is_below c p k) (done_from d c (k ∷ p) (omega (arith, l))))))
    where
      forth : HasGiven s c p × ((k : ℕ) (u : Task S) → At s (k ∷ p) u → IsChild s c p (k ∷ p) → IsDone (accesses s c) (k ∷ p)) → IsDone (accesses s c) p
      forth h = done h.0 (λ v i. let w = child_parts c p v i in
          subst (λ (x : List ℕ). IsDone (accesses s c) x) (sym w.1) (h.1 w.0 w.2.task (subst (λ (x : List ℕ). At s x w.2.task) w.1 w.2.at_) (subst (λ (x : List ℕ). IsChild s c p x) w.1 i)))

      back : IsDone (accesses s c) p → HasGiven s c p × ((k : ℕ) (u : Task S) → At s (k ∷ p) u → IsChild s c p (k ∷ p) → IsDone (accesses s c) (k ∷ p))
      back (done g f) = (g, (λ k u h i. f (k ∷ p) i))

  pub is_done : (c : ℕ) (p : List ℕ) → Decided (IsDone (accesses s c) p)
  is_done c p = done_from (suc longest) c p (omega arith)

  -- all cells that a task owes are given up
  all_given : (p : List ℕ) (t : Task S) → Decided ((c : ℕ) → Owes p t.body.start.context c → IsIn c t.given)
  all_given [] t = inl (λ c o. absurd o)
  all_given (k ∷ p) t =
      by_iff (λ f c o. f c (held_below t.body.start.context c o.0 o.1 o.2) o) (λ f c l o. f c o)
      (below (λ c. Owes (k ∷ p) t.body.start.context c → IsIn c t.given) (length t.body.start.context.entries) (λ c. if_then (owes_it (k ∷ p) t.body.start.context c) (is_member c t.given)))

  complete_from : (d : ℕ) (p : List ℕ) → longest < length p + d → Decided (IsComplete P s p)
  complete_from zero p l = inr (λ h. none h)
    where
      none : IsComplete P s p → ⊥
      none (complete {t = t} at_ over gives under) = let m = path_below p t at_ in omega (arith, l, m)
  complete_from (suc d) p l = go (is_there p) (of_children p (λ k. IsComplete P s (k ∷ p)) (λ k. complete_from d (k ∷ p) (omega (arith, l))))
    where
      gone : IsComplete P s p → find s.tasks p ≡ None → ⊥
      gone (complete {t = t} at_ over gives under) e = not_there p t e at_

      parts : (t : Task S) → At s p t → IsComplete P s p → ((stack_from P t.body.start t.body.found).ended ≡ true) × ((c : ℕ) → Owes p t.body.start.context c → IsIn c t.given) × ((k : ℕ) (u : Task S) → At s (k ∷ p) u → IsComplete P s (k ∷ p))
      parts t h (complete {t = u} at_ over gives under) =
          let e = at_same s p u t at_ h in
          (subst (λ (x : Task S). (stack_from P x.body.start x.body.found).ended ≡ true) e over, subst (λ (x : Task S). (c : ℕ) → Owes p x.body.start.context c → IsIn c x.given) e gives, under)

      go : ((t : Task S) × At s p t) ⊎ (find s.tasks p ≡ None) → Decided ((k : ℕ) (u : Task S) → At s (k ∷ p) u → IsComplete P s (k ∷ p)) → Decided (IsComplete P s p)
      go (inr e) under = inr (λ h. gone h e)
      go (inl t) under =
          by_iff (λ h. complete t.1 h.0 h.1.0 h.1.1) (λ h. let k = parts t.0 t.1 h in (k.0, (k.1, k.2)))
          (both (is_it (stack_from P t.0.body.start t.0.body.found).ended true) (both (all_given p t.0) under))

  pub is_complete : (p : List ℕ) → Decided (IsComplete P s p)
  is_complete p = complete_from (suc longest) p (omega arith)

  -- a claim of all earlier accesses
  of_earlier : (c k : ℕ) (p : List ℕ) (G : ℕ → Type 0) → ((i : ℕ) → Decided (G i)) → Decided ((i : ℕ) → i < k → HasAccess s c (i ∷ p) → G i)
  of_earlier c k p G d = by_iff (λ f i l a. f i a.task a.at_ l a) (λ f i u h l a. f i l a) (of_children p (λ i. i < k → HasAccess s c (i ∷ p) → G i) (λ i. if_then (is_less i k) (if_then (has_access c (i ∷ p)) (d i))))

  earlier_all : (c k : ℕ) (p : List ℕ) (F : List ℕ → Type 0) → ((i : ℕ) → i < k → HasAccess s c (i ∷ p) → F (i ∷ p)) → (u : List ℕ) → IsEarlier s c u (k ∷ p) → F u
  earlier_all c k p F f u (is_earlier {i = i} l a) = f i l a

  before_done : (c k : ℕ) (p : List ℕ) → Decided ((u : List ℕ) → IsEarlier s c u (k ∷ p) → IsDone (accesses s c) u)
  before_done c k p =
      by_iff (earlier_all c k p (λ u. IsDone (accesses s c) u)) (λ f i l a. f (i ∷ p) (is_earlier l a)) (of_earlier c k p (λ i. IsDone (accesses s c) (i ∷ p)) (λ i. is_done c (i ∷ p)))

  pub is_write_satisfied : (c : ℕ) (p : List ℕ) → Decided (IsWriteSatisfied (accesses s c) p)
  is_write_satisfied c [] = inr (λ h. none h)
    where
      none : IsWriteSatisfied (accesses s c) [] → ⊥
      none (write_top t e) = elim t [ ]
      none (write_child b h e) = elim b [ ]
  is_write_satisfied c (k ∷ []) = by_iff (λ h. write_top (is_top h.0) h.1) (λ h. parts h) (both (has_access c (k ∷ [])) (before_done c k []))
    where
      top : IsTop s c (k ∷ []) → HasAccess s c (k ∷ [])
      top (is_top a) = a

      parts : IsWriteSatisfied (accesses s c) (k ∷ []) → HasAccess s c (k ∷ []) × ((u : List ℕ) → IsEarlier s c u (k ∷ []) → IsDone (accesses s c) u)
      parts (write_top t e) = (top t, e)
      parts (write_child b h e) = elim b [ ]
  is_write_satisfied c (k ∷ i ∷ p) = by_iff (λ h. write_child h.0 h.1.0 h.1.1) (λ h. parts h) (both (is_below c (i ∷ p) k) (both (is_write_satisfied c (i ∷ p)) (before_done c k (i ∷ p))))
    where
      child : (u : List ℕ) → IsChild s c u (k ∷ i ∷ p) → IsWriteSatisfied (accesses s c) u → IsChild s c (i ∷ p) (k ∷ i ∷ p) × IsWriteSatisfied (accesses s c) (i ∷ p)
      child u (is_child a b) h = (is_child a b, h)

      parts : IsWriteSatisfied (accesses s c) (k ∷ i ∷ p) → IsChild s c (i ∷ p) (k ∷ i ∷ p) × (IsWriteSatisfied (accesses s c) (i ∷ p) × ((u : List ℕ) → IsEarlier s c u (k ∷ i ∷ p) → IsDone (accesses s c) u))
      parts (write_top t e) = elim t [ ]
      parts (write_child {p = u} b h e) = let r = child u b h in (r.0, (r.1, e))

  unread_done : (c k : ℕ) (p : List ℕ) → Decided ((u : List ℕ) → IsEarlier s c u (k ∷ p) → (IsRead (mode_in (find s.tasks u) c) → ⊥) → IsDone (accesses s c) u)
  unread_done c k p =
      by_iff (earlier_all c k p (λ u. (IsRead (mode_in (find s.tasks u) c) → ⊥) → IsDone (accesses s c) u)) (λ f i l a. f (i ∷ p) (is_earlier l a))
      (of_earlier c k p (λ i. (IsRead (mode_in (find s.tasks (i ∷ p)) c) → ⊥) → IsDone (accesses s c) (i ∷ p)) (λ i. if_then (if_not (is_read (mode_in (find s.tasks (i ∷ p)) c))) (is_done c (i ∷ p))))

  pub is_read_satisfied : (c : ℕ) (p : List ℕ) → Decided (IsReadSatisfied (accesses s c) p)
  is_read_satisfied c [] = inr (λ h. none h)
    where
      none : IsReadSatisfied (accesses s c) [] → ⊥
      none (read_top t e) = elim t [ ]
      none (read_child b h e) = elim b [ ]
  is_read_satisfied c (k ∷ []) = by_iff (λ h. read_top (is_top h.0) h.1) (λ h. parts h) (both (has_access c (k ∷ [])) (unread_done c k []))
    where
      top : IsTop s c (k ∷ []) → HasAccess s c (k ∷ [])
      top (is_top a) = a

      parts : IsReadSatisfied (accesses s c) (k ∷ []) → HasAccess s c (k ∷ []) × ((u : List ℕ) → IsEarlier s c u (k ∷ []) → (IsRead (mode_in (find s.tasks u) c) → ⊥) → IsDone (accesses s c) u)
      parts (read_top t e) = (top t, e)
      parts (read_child b h e) = elim b [ ]
  is_read_satisfied c (k ∷ i ∷ p) = by_iff (λ h. read_child h.0 h.1.0 h.1.1) (λ h. parts h) (both (is_below c (i ∷ p) k) (both (is_read_satisfied c (i ∷ p)) (unread_done c k (i ∷ p))))
    where
      child : (u : List ℕ) → IsChild s c u (k ∷ i ∷ p) → IsReadSatisfied (accesses s c) u → IsChild s c (i ∷ p) (k ∷ i ∷ p) × IsReadSatisfied (accesses s c) (i ∷ p)
      child u (is_child a b) h = (is_child a b, h)

      parts : IsReadSatisfied (accesses s c) (k ∷ i ∷ p) → IsChild s c (i ∷ p) (k ∷ i ∷ p) × (IsReadSatisfied (accesses s c) (i ∷ p) × ((u : List ℕ) → IsEarlier s c u (k ∷ i ∷ p) → (IsRead (mode_in (find s.tasks u) c) → ⊥) → IsDone (accesses s c) u))
      parts (read_top t e) = elim t [ ]
      parts (read_child {p = u} b h e) = let r = child u b h in (r.0, (r.1, e))

  -- the accesses between two of one task's children
  between_fold : (c i k : ℕ) (p : List ℕ) (op : Op) → HasAccess s c (i ∷ p) → Decided ((w : List ℕ) → IsEarlier s c (i ∷ p) w → IsEarlier s c w (k ∷ p) → mode_in (find s.tasks w) c ≡ Fold op)
  between_fold c i k p op a =
      by_iff forth (λ f j l b m. f (j ∷ p) (is_earlier m a) (is_earlier l b))
      (of_earlier c k p (λ j. i < j → mode_in (find s.tasks (j ∷ p)) c ≡ Fold op) (λ j. if_then (is_less i j) (is_mode (mode_in (find s.tasks (j ∷ p)) c) (Fold op))))
    where
      second : (w : List ℕ) (j : ℕ) (q : List ℕ) → w ≡ j ∷ q → IsEarlier s c (i ∷ p) w → (i < j) × (p ≡ q)
      second w j q e (is_earlier {k = n} {p = r} l b) =
          let f : n ≡ j = cc (e) in
          let g : r ≡ q = cc (e) in
          (subst (λ (x : ℕ). i < x) f l, g)

      forth : ((j : ℕ) → j < k → HasAccess s c (j ∷ p) → i < j → mode_in (find s.tasks (j ∷ p)) c ≡ Fold op) → (w : List ℕ) → IsEarlier s c (i ∷ p) w → IsEarlier s c w (k ∷ p) → mode_in (find s.tasks w) c ≡ Fold op
      forth f w x (is_earlier {i = j} l b) = f j l b (second (j ∷ p) j p refl x).0

  run_or_done : (c k : ℕ) (p : List ℕ) (op : Op) → Decided ((u : List ℕ) → IsEarlier s c u (k ∷ p) → InRun (accesses s c) op u (k ∷ p) ⊎ IsDone (accesses s c) u)
  run_or_done c k p op =
      by_iff (earlier_all c k p (λ u. InRun (accesses s c) op u (k ∷ p) ⊎ IsDone (accesses s c) u)) (λ f i l a. f (i ∷ p) (is_earlier l a))
      (by_iff (λ f i l a. f i l a a) (λ f i l a b. f i l a) (of_earlier c k p (λ i. HasAccess s c (i ∷ p) → InRun (accesses s c) op (i ∷ p) (k ∷ p) ⊎ IsDone (accesses s c) (i ∷ p)) (λ i. one i (has_access c (i ∷ p)))))
    where
      of_access : (i : ℕ) → HasAccess s c (i ∷ p) → Decided (InRun (accesses s c) op (i ∷ p) (k ∷ p))
      of_access i a =
          by_iff (λ h. record { first = h.0; between = h.1 }) (λ r. (r.first, r.between))
          (both (is_mode (mode_in (find s.tasks (i ∷ p)) c) (Fold op)) (between_fold c i k p op a))

      one : (i : ℕ) → Decided (HasAccess s c (i ∷ p)) → Decided (HasAccess s c (i ∷ p) → InRun (accesses s c) op (i ∷ p) (k ∷ p) ⊎ IsDone (accesses s c) (i ∷ p))
      one i (inl a) = if_then (inl a) (either (of_access i a) (is_done c (i ∷ p)))
      one i (inr h) = inl (λ a. absurd (h a))

  pub is_join_satisfied : (c : ℕ) (op : Op) (p : List ℕ) → Decided (IsJoinSatisfied (accesses s c) op p)
  is_join_satisfied c op [] = inr (λ h. none h)
    where
      none : IsJoinSatisfied (accesses s c) op [] → ⊥
      none (join_top t e) = elim t [ ]
      none (join_below_fold b m h e) = elim b [ ]
      none (join_below_write b m h e) = elim b [ ]
  is_join_satisfied c op (k ∷ []) = by_iff (λ h. join_top (is_top h.0) h.1) (λ h. parts h) (both (has_access c (k ∷ [])) (run_or_done c k [] op))
    where
      top : IsTop s c (k ∷ []) → HasAccess s c (k ∷ [])
      top (is_top a) = a

      parts : IsJoinSatisfied (accesses s c) op (k ∷ []) → HasAccess s c (k ∷ []) × ((u : List ℕ) → IsEarlier s c u (k ∷ []) → InRun (accesses s c) op u (k ∷ []) ⊎ IsDone (accesses s c) u)
      parts (join_top t e) = (top t, e)
      parts (join_below_fold b m h e) = elim b [ ]
      parts (join_below_write b m h e) = elim b [ ]
  is_join_satisfied c op (k ∷ i ∷ p) =
      by_iff (λ h. forth h.0 h.1.0 h.1.1) (λ h. parts h)
      (both (is_below c (i ∷ p) k) (both (run_or_done c k (i ∷ p) op)
      (either (both (is_mode (mode_in (find s.tasks (i ∷ p)) c) (Fold op)) (is_join_satisfied c op (i ∷ p))) (both (is_mode (mode_in (find s.tasks (i ∷ p)) c) Write) (is_write_satisfied c (i ∷ p))))))
    where
      forth : IsChild s c (i ∷ p) (k ∷ i ∷ p) → ((u : List ℕ) → IsEarlier s c u (k ∷ i ∷ p) → InRun (accesses s c) op u (k ∷ i ∷ p) ⊎ IsDone (accesses s c) u)
          → ((mode_in (find s.tasks (i ∷ p)) c ≡ Fold op) × IsJoinSatisfied (accesses s c) op (i ∷ p)) ⊎ ((mode_in (find s.tasks (i ∷ p)) c ≡ Write) × IsWriteSatisfied (accesses s c) (i ∷ p)) → IsJoinSatisfied (accesses s c) op (k ∷ i ∷ p)
      forth b e (inl h) = join_below_fold b h.0 h.1 e
      forth b e (inr h) = join_below_write b h.0 h.1 e

      child : (u : List ℕ) (F : List ℕ → Type 0) → IsChild s c u (k ∷ i ∷ p) → F u → IsChild s c (i ∷ p) (k ∷ i ∷ p) × F (i ∷ p)
      child u F (is_child a b) h = (is_child a b, h)

      parts : IsJoinSatisfied (accesses s c) op (k ∷ i ∷ p) → IsChild s c (i ∷ p) (k ∷ i ∷ p) × (((u : List ℕ) → IsEarlier s c u (k ∷ i ∷ p) → InRun (accesses s c) op u (k ∷ i ∷ p) ⊎ IsDone (accesses s c) u)
          × (((mode_in (find s.tasks (i ∷ p)) c ≡ Fold op) × IsJoinSatisfied (accesses s c) op (i ∷ p)) ⊎ ((mode_in (find s.tasks (i ∷ p)) c ≡ Write) × IsWriteSatisfied (accesses s c) (i ∷ p))))
      parts (join_top t e) = elim t [ ]
      parts (join_below_fold {p = u} b m h e) = let r = child u (λ x. (mode_in (find s.tasks x) c ≡ Fold op) × IsJoinSatisfied (accesses s c) op x) b (m, h) in (r.0, (e, inl r.1))
      parts (join_below_write {p = u} b m h e) = let r = child u (λ x. (mode_in (find s.tasks x) c ≡ Write) × IsWriteSatisfied (accesses s c) x) b (m, h) in (r.0, (e, inr r.1))

  pub is_ready : (p : List ℕ) (x : Context) → Decided (IsReady s p x)
  is_ready [] x = inl tt
  is_ready (k ∷ p) x =
      both
      (by_iff (λ f c r. f c (held_below x c Read true r) r) (λ f c l r. f c r) (below (λ c. right_of x c ≡ Holds Read true → IsReadSatisfied (accesses s c) (k ∷ p)) (length x.entries) (λ c. if_then (is_right (right_of x c) Read true) (is_read_satisfied c (k ∷ p)))))
      (by_iff (λ f c r. f c (held_below x c Write true r) r) (λ f c l r. f c r) (below (λ c. right_of x c ≡ Holds Write true → IsWriteSatisfied (accesses s c) (k ∷ p)) (length x.entries) (λ c. if_then (is_right (right_of x c) Write true) (is_write_satisfied c (k ∷ p)))))

  named_done : (p : List ℕ) (n : ℕ) (named : List Access) → Decided ((k c : ℕ) → k < n → in_clauses named c ≡ true → HasAccess s c (k ∷ p) → IsDone (accesses s c) (k ∷ p))
  named_done p n named =
      by_iff (λ f k c l e a. f k a.task a.at_ c (cell_below (k ∷ p) a.task c a.mode a.strong a.at_ a.right) l e a) (λ f k u h c m l e a. f k c l e a)
      (of_children p (λ k. (c : ℕ) → c < most_cells → k < n → in_clauses named c ≡ true → HasAccess s c (k ∷ p) → IsDone (accesses s c) (k ∷ p))
      (λ k. below (λ c. k < n → in_clauses named c ≡ true → HasAccess s c (k ∷ p) → IsDone (accesses s c) (k ∷ p)) most_cells
      (λ c. if_then (is_less k n) (if_then (is_it (in_clauses named c) true) (if_then (has_access c (k ∷ p)) (is_done c (k ∷ p)))))))

  pub is_wait_met : (p : List ℕ) (n : ℕ) (act : Act S) → Decided (IsWaitMet P s p n act)
  is_wait_met p n Waited =
      by_iff (λ f k u l h. f k u h l) (λ f k u h l. f k u l h) (of_children p (λ k. k < n → IsComplete P s (k ∷ p)) (λ k. if_then (is_less k n) (is_complete (k ∷ p))))
  is_wait_met p n Awaited =
      by_iff (λ f k u e h. f k u h e) (λ f k u h e. f k u e h) (of_children p (λ k. k + 1 ≡ n → IsComplete P s (k ∷ p)) (λ k. if_then (is_number (k + 1) n) (is_complete (k ∷ p))))
  is_wait_met p n (WaitedOn named) = named_done p n named
  is_wait_met p n Ticked = inl tt
  is_wait_met p n (Load c) = inl tt
  is_wait_met p n (Store c v) = inl tt
  is_wait_met p n (Folded c op v slot) = inl tt
  is_wait_met p n (Created o included) = inl tt
  is_wait_met p n (Releases clauses included) = inl tt
  is_wait_met p n (Printed key text) = inl tt
  is_wait_met p n Ended = inl tt
  is_wait_met p n (Fault kind line key) = inl tt
  is_wait_met p n Over = inl tt

  wait_clause : (p : List ℕ) (t : Task S) → Decided (WaitClause P s p t)
  wait_clause p t = if_then (is_it t.body.start.order.wait true) (of_children p (λ k. IsComplete P s (k ∷ p)) (λ k. is_complete (k ∷ p)))

  -- the task may act
  pub can_step : (p : List ℕ) (t : Task S) → At s p t → Decided (CanStep P s p t)
  can_step p t h =
      by_iff (λ k. record { at_ = h; goes = k.0; ready = k.1.0; waits = k.1.1 }) (λ c. (c.goes, (c.ready, c.waits)))
      (both (if_not (is_halted (act_now P t.body))) (both (if_then (is_empty t.body.found) (is_ready p t.body.start.context)) (is_wait_met p (created_now P t.body) (act_now P t.body))))

  is_gone : (p : List ℕ) (c : ℕ) (t : Task S) → Decided (IsGone P s p c t)
  is_gone p c t = either (is_released (right_of (stack_from P t.body.start t.body.found).base.context c)) (both (is_it (is_ended P t.body) true) (wait_clause p t))

  no_fold : (r : Right) → Decided ((op : Op) → r ≢ Holds (Fold op) true)
  no_fold NoRight = inl (λ op e. cc)
  no_fold Released = inl (λ op e. cc)
  no_fold (Holds Read b) = inl (λ op e. cc)
  no_fold (Holds Write b) = inl (λ op e. cc)
  no_fold (Holds (Fold q) false) = inl (λ op e. cc)
  no_fold (Holds (Fold q) true) = inr (λ f. f q refl)

  -- the task may give up the cell
  pub can_let : (p : List ℕ) (c : ℕ) (t : Task S) → At s p t → Decided (CanLet P s p c t)
  can_let p c t h = of_right (right_of t.body.start.context c) refl
    where
      of_right : (r : Right) → right_of t.body.start.context c ≡ r → Decided (CanLet P s p c t)
      of_right NoRight e = inr (λ k. let f : NoRight ≡ Holds k.mode k.strong = sym e ∙ k.right in cc)
      of_right Released e = inr (λ k. let f : Released ≡ Holds k.mode k.strong = sym e ∙ k.right in cc)
      of_right (Holds m b) e =
          by_iff (λ k. record { at_ = h; not_main = k.0; mode = m; strong = b; right = e; no_fold = k.1.0; kept = k.1.1.0; gone = k.1.1.1 }) (λ k. (k.not_main, (k.no_fold, (k.kept, k.gone))))
          (both (if_not (which_path p [])) (both (no_fold (right_of t.body.start.context c)) (both (if_not (is_member c t.given)) (is_gone p c t))))

  -- the slot of the task may be joined
  pub can_join : (p : List ℕ) (c : ℕ) (op : Op) (t : Task S) → At s p t → Decided (CanJoin P s p c op t)
  can_join p c op t h =
      by_iff (λ k. record { at_ = h; right = k.0; kept = k.1.0; ended = k.1.1.0; wait = k.1.1.1.0; satisfied = k.1.1.1.1 }) (λ k. (k.right, (k.kept, (k.ended, (k.wait, k.satisfied)))))
      (both (is_right (right_of t.body.start.context c) (Fold op) true) (both (if_not (is_member c t.given)) (both (is_it (is_ended P t.body) true) (both (wait_clause p t) (is_join_satisfied c op p)))))
