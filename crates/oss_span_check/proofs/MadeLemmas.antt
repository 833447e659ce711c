-- What is noted of tasks tells when they were created, and their rights.
use Rattle.std.proofs.Common.{◌≡◌, ◌≤◌, ◌<◌, ◌⊎◌, inl, inr, refl, sym, subst, ap, ◌∙◌, ℕ, suc, Bool, true, false, List, ◌∷◌, length, Option, Some, None, arith}
use Rattle.std.specs.Prelude.{nat_lt, not, ◌&&◌}
use Rattle.std.specs.List.{list_any}
use Rattle.std.proofs.lemmas.Bool.Decides.{nat_tests}
use Rattle.oss_syntax.specs.declared.access.Access.{Access}
use Rattle.oss_syntax.specs.declared.access.Mode.{Mode}
use Rattle.oss_model.specs.Agreement.{MainStarts}
use Rattle.oss_model.specs.Bodies.{Act, Order, Program, Start, stage_created}
use Rattle.oss_model.specs.Bodies.Act.{Created}
use Rattle.oss_model.specs.Context.{right_of}
use Rattle.oss_model.specs.History.{IsMade}
use Rattle.oss_model.specs.Machine.{At, HasAccess, State, Task, find as find_task, mode_in}
use Rattle.oss_model.specs.Order.{IsSuffix, written}
use Rattle.oss_model.specs.Rights.{Right, NoRight, Released, Holds}
use Rattle.oss_model.proofs.OrderLemmas.{suffix_drop, suffix_length, suffix_linear, suffix_trans}
use Rattle.oss_model.proofs.StageLemmas.{CreationAt, created_grows, creating, creation_at, creation_counts}
use Rattle.oss_model.proofs.TreeLemmas.{at_same, mode_is, starts_well}
use Rattle.oss_chain_laws.specs.Happenings.{Does}
use Rattle.oss_span_check.specs.declared.note.Made.{Made}
use Rattle.oss_span_check.specs.declared.record.Record.{Record}
use Rattle.oss_span_check.specs.Points.{same_point}
use Rattle.oss_span_check.specs.Queries.{access_in, access_of, has_access, is_child, made_of, was_made_before}
use Rattle.oss_span_check.specs.Records.{IsMadeSo, IsRecord, IsRight}
use Rattle.oss_span_check.specs.Waiting.{is_made_between, is_newest}
use Rattle.oss_span_check.proofs.ListLemmas.{and_both, and_parts, any_in, found_in, in_any, in_found, give, given, not_true, true_not}
use Rattle.oss_span_check.proofs.PointLemmas.{child_is, is_child_of, same_is, same_self, written_same}

pub options : {A : Type 0} (o : Option A) → (o ≡ None) ⊎ ((a : A) × (o ≡ Some a))
options None = inl refl
options (Some a) = inr (a, refl)

heads : (x y : ℕ) (xs ys : List ℕ) → x ∷ xs ≡ y ∷ ys → x ≡ y
heads x y xs ys e = cc

tails : (x y : ℕ) (xs ys : List ℕ) → x ∷ xs ≡ y ∷ ys → xs ≡ ys
tails x y xs ys e = cc

pub held_of : (right : Right) (a : Access) → IsRight right (Some a) → right ≡ Holds a.mode a.strong
held_of (Holds m b) a h = sym h
held_of NoRight a h = absurd (let q : Some a ≡ None = h in cc)
held_of Released a h = absurd (let q : Some a ≡ None = h in cc)

pub access_held : (o : Option Access) (m : Mode) (strong : Bool) → IsRight (Holds m strong) o → (a : Access) × (o ≡ Some a) × (a.mode ≡ m) × (a.strong ≡ strong)
access_held None m strong h = absurd (let q : NoRight ≡ Holds m strong = h in cc)
access_held (Some a) m strong h = (a, refl, mode_same h, strong_same h)
  where
    mode_same : Holds a.mode a.strong ≡ Holds m strong → a.mode ≡ m
    mode_same e = cc

    strong_same : Holds a.mode a.strong ≡ Holds m strong → a.strong ≡ strong
    strong_same e = cc

less_is : (x y : ℕ) → nat_lt x y ≡ true → x < y
less_is x y e = grind (arith, nat_tests)

is_less : (x y : ℕ) → x < y → nat_lt x y ≡ true
is_less x y e = grind (arith, nat_tests)

module _ {S : Type 0} (P : Program S) (main : Start S) (s : State S) (ms : MainStarts main) (made : IsMade P main s) (r : Record) (so : IsRecord P s r) where
  -- numbers of creations

  task_same : {p : List ℕ} {m n j k : ℕ} {a b : Act S} (d : Does P s p m j a) (e : Does P s p n k b) → d.task ≡ e.task
  task_same {p = p} d e = at_same s p d.task e.task d.at_ e.at_

  -- the acts before one of two are acts before the other
  past_in : {p : List ℕ} {m n j k : ℕ} {a b : Act S} (d : Does P s p m j a) (e : Does P s p n k b) → m < n → IsSuffix (d.answer ∷ d.past) e.past
  past_in d e l =
      let f : IsSuffix (d.answer ∷ d.past) e.task.body.found = subst (λ (t : Task S). IsSuffix (d.answer ∷ d.past) t.body.found) (task_same d e) d.done_ in
      suffix_linear f (suffix_drop e.done_) (let i = d.number_is in let j = e.number_is in omega (arith, l, i, j))

  pub created_less : {p : List ℕ} {m n i k : ℕ} {o : Order S} {a : Act S} → Does P s p m i (Created o false) → Does P s p n k a → m < n → i < k
  created_less {o = o} d e l =
      let f = past_in d e l in
      let c = creation_counts P d.task.body.start d.answer d.past o d.act_is in
      let t : stage_created P d.task.body.start e.past ≡ stage_created P e.task.body.start e.past = ap (λ (t : Task S). stage_created P t.body.start e.past) (task_same d e) in
      let g = created_grows P d.task.body.start f in
      let x = d.created_is in
      let y = e.created_is in
      omega (arith, c, t, g, x, y)

  pub less_created : {p : List ℕ} {m n i k : ℕ} {o : Order S} {a : Act S} → Does P s p m i (Created o false) → Does P s p n k a → i < k → m < n
  less_created {m = m} {n = n} d e l = go (which m n)
    where
      which : (a b : ℕ) → (a < b) ⊎ (b ≤ a)
      which a b = grind arith

      go : (m < n) ⊎ (n ≤ m) → m < n
      go (inl h) = h
      go (inr h) =
          let f : IsSuffix (e.answer ∷ e.past) d.task.body.found = subst (λ (t : Task S). IsSuffix (e.answer ∷ e.past) t.body.found) (sym (task_same d e)) e.done_ in
          let k : IsSuffix e.past d.past = suffix_linear (suffix_drop f) (suffix_drop d.done_) (let i = d.number_is in let j = e.number_is in omega (arith, h, i, j)) in
          let g = created_grows P d.task.body.start k in
          let t : stage_created P d.task.body.start e.past ≡ stage_created P e.task.body.start e.past = ap (λ (t : Task S). stage_created P t.body.start e.past) (task_same d e) in
          let x = d.created_is in
          let y = e.created_is in
          absurd (omega (arith, t, g, x, y, l))

  -- a creation before an act, of the task with this number
  record CreationBefore (p : List ℕ) (n i : ℕ) : Type 0 where
    number : ℕ
    order : Order S
    task : Task S
    before : number < n
    does : Does P s p number i (Created order false)
    at_ : At s (i ∷ p) task

  next_creation : {p : List ℕ} {m n i k : ℕ} {o : Order S} {a : Act S} → Does P s p m i (Created o false) → Does P s p n k a → suc i < k → CreationBefore p n (suc i)
  next_creation {p = p} {n = n} {i = i} {o = o} d e l =
      let open_ = (creating P d.task.body.start d.past o d.act_is).open_ in
      let open_e = subst (λ (t : Task S). t.body.start.context.final ≡ false) (task_same d e) open_ in
      let z = (starts_well P main s ms made p e.task e.at_).1 in
      let c : CreationAt P e.task.body.start e.past (suc i) = creation_at P e.task.body.start e.past (suc i) open_e z (let y = e.created_is in omega (arith, l, y)) in
      let f = suffix_trans c.happened (suffix_drop e.done_) in
      let t = made.made p e.task c.past c.answer c.order e.at_ f c.act in
      record {
        number = length c.past;
        order = c.order;
        task = t.0;
        before = (let h = suffix_length c.happened in let y = e.number_is in omega (arith, h, y));
        does = record { task = e.task; at_ = e.at_; past = c.past; answer = c.answer; done_ = f; number_is = refl; created_is = c.number; act_is = c.act };
        at_ = subst (λ (x : ℕ). At s (x ∷ p) t.0) c.number t.1;
      }

  -- what is noted of tasks

  pub record MadeAt (p : List ℕ) (m : Made) : Type 0 where
    pub told : IsMadeSo P s m
    pub path_is : p ≡ told.number ∷ told.path

  pub made_forth : (p : List ℕ) (m : Made) → made_of r.made (written p) ≡ Some m → MadeAt p m
  made_forth p m e =
      let f = found_in (λ (x : Made). same_point x.point (written p)) r.made m e in
      let x = so.made_so m f.0 in
      record { told = x; path_is = written_same p (x.number ∷ x.path) (sym (same_is {p = m.point} {q = written p} f.1) ∙ x.point) }

  pub made_back : (k : ℕ) (p : List ℕ) (t : Task S) → At s (k ∷ p) t → (m : Made) × (made_of r.made (written (k ∷ p)) ≡ Some m)
  made_back k p t h =
      let x = so.made k p t h in
      in_found (λ (y : Made). same_point y.point (written (k ∷ p))) r.made x.item x.listed (ap (λ (y : List ℕ). same_point y (written (k ∷ p))) x.point ∙ same_self (written (k ∷ p)))

  -- the creation, and the start, of a task
  pub record Begun (k : ℕ) (p : List ℕ) (m : Made) : Type 0 where
    pub task : Task S
    pub at_ : At s (k ∷ p) task
    pub order : Order S
    pub does : Does P s p m.number k (Created order false)
    pub wait : m.wait ≡ task.body.start.order.wait
    pub rights : (c : ℕ) → IsRight (right_of task.body.start.context c) (access_in m.accesses c)

  pub begun : (k : ℕ) (p : List ℕ) (m : Made) → made_of r.made (written (k ∷ p)) ≡ Some m → Begun k p m
  begun k p m e =
      let x = made_forth (k ∷ p) m e in
      let a = heads k x.told.number p x.told.path x.path_is in
      let b = tails k x.told.number p x.told.path x.path_is in
      record {
        task = x.told.task;
        at_ = subst (λ (q : List ℕ). At s q x.told.task) (sym x.path_is) x.told.at_;
        order = x.told.order;
        does = subst (λ (q : List ℕ). Does P s q m.number k (Created x.told.order false)) (sym b) (subst (λ (j : ℕ). Does P s x.told.path m.number j (Created x.told.order false)) (sym a) x.told.does);
        wait = x.told.wait;
        rights = x.told.rights;
      }

  -- rights

  pub record RightAt (p : List ℕ) (c : ℕ) (a : Access) : Type 0 where
    pub number : ℕ
    pub path : List ℕ
    pub path_is : p ≡ number ∷ path
    pub task : Task S
    pub at_ : At s p task
    pub right : right_of task.body.start.context c ≡ Holds a.mode a.strong

  pub right_forth : (p : List ℕ) (c : ℕ) (a : Access) → access_of r.made (written p) c ≡ Some a → RightAt p c a
  right_forth p c a e = go (options (made_of r.made (written p)))
    where
      go : (made_of r.made (written p) ≡ None) ⊎ ((m : Made) × (made_of r.made (written p) ≡ Some m)) → RightAt p c a
      go (inl n) = let q : None ≡ Some a = sym (ap (λ (o : Option Made). elim o as (λ x. Option Access) [ None ↦ None | Some m ↦ access_in m.accesses c ]) n) ∙ e in absurd cc
      go (inr (m, f)) =
          let q : access_in m.accesses c ≡ Some a = sym (ap (λ (o : Option Made). elim o as (λ x. Option Access) [ None ↦ None | Some m ↦ access_in m.accesses c ]) f) ∙ e in
          let x = made_forth p m f in
          record {
            number = x.told.number;
            path = x.told.path;
            path_is = x.path_is;
            task = x.told.task;
            at_ = subst (λ (q : List ℕ). At s q x.told.task) (sym x.path_is) x.told.at_;
            right = held_of (right_of x.told.task.body.start.context c) a (subst (λ (o : Option Access). IsRight (right_of x.told.task.body.start.context c) o) q (x.told.rights c));
          }

  pub right_at : (k : ℕ) (p : List ℕ) (t : Task S) (c : ℕ) → At s (k ∷ p) t → IsRight (right_of t.body.start.context c) (access_of r.made (written (k ∷ p)) c)
  right_at k p t c h =
      let m = made_back k p t h in
      let b = begun k p m.0 m.1 in
      let q : access_of r.made (written (k ∷ p)) c ≡ access_in m.0.accesses c = ap (λ (o : Option Made). elim o as (λ x. Option Access) [ None ↦ None | Some m ↦ access_in m.accesses c ]) m.1 in
      subst (λ (o : Option Access). IsRight (right_of t.body.start.context c) o) (sym q)
      (subst (λ (u : Task S). IsRight (right_of u.body.start.context c) (access_in m.0.accesses c)) (at_same s (k ∷ p) b.task t b.at_ h) (b.rights c))

  pub record HoldsBy (p : List ℕ) (c : ℕ) (m : Mode) (strong : Bool) : Type 0 where
    pub access : Access
    pub found : access_of r.made (written p) c ≡ Some access
    pub mode : access.mode ≡ m
    pub strong_ : access.strong ≡ strong

  pub right_back : (k : ℕ) (p : List ℕ) (t : Task S) (c : ℕ) (m : Mode) (strong : Bool) → At s (k ∷ p) t → right_of t.body.start.context c ≡ Holds m strong → HoldsBy (k ∷ p) c m strong
  right_back k p t c m strong h e =
      let x = access_held (access_of r.made (written (k ∷ p)) c) m strong (subst (λ (z : Right). IsRight z (access_of r.made (written (k ∷ p)) c)) e (right_at k p t c h)) in
      record { access = x.0; found = x.1; mode = x.2; strong_ = x.3 }

  pub mode_of_right : {p : List ℕ} {c : ℕ} {a : Access} (x : RightAt p c a) → mode_in (find_task s.tasks p) c ≡ a.mode
  mode_of_right {p = p} {c = c} {a = a} x = mode_is s c p a.mode (record { task = x.task; at_ = x.at_; strong = a.strong; right = x.right })

  pub access_forth : (p : List ℕ) (c : ℕ) → has_access r.made (written p) c ≡ true → HasAccess s c p
  access_forth p c e = go (options (access_of r.made (written p) c))
    where
      go : (access_of r.made (written p) c ≡ None) ⊎ ((a : Access) × (access_of r.made (written p) c ≡ Some a)) → HasAccess s c p
      go (inl n) = let q : false ≡ true = sym (ap (λ (o : Option Access). elim o as (λ x. Bool) [ None ↦ false | Some a ↦ true ]) n) ∙ e in absurd cc
      go (inr (a, f)) = let x = right_forth p c a f in record { task = x.task; at_ = x.at_; mode = a.mode; strong = a.strong; right = x.right }

  -- main is not among the tasks that were created
  pub access_child : (p : List ℕ) (c : ℕ) → has_access r.made (written p) c ≡ true → (k : ℕ) × (q : List ℕ) × (p ≡ k ∷ q)
  access_child p c e = go (options (access_of r.made (written p) c))
    where
      go : (access_of r.made (written p) c ≡ None) ⊎ ((a : Access) × (access_of r.made (written p) c ≡ Some a)) → (k : ℕ) × (q : List ℕ) × (p ≡ k ∷ q)
      go (inl n) = let q : false ≡ true = sym (ap (λ (o : Option Access). elim o as (λ x. Bool) [ None ↦ false | Some a ↦ true ]) n) ∙ e in absurd cc
      go (inr (a, f)) = let x = right_forth p c a f in (x.number, x.path, x.path_is)

  pub access_back : (k : ℕ) (p : List ℕ) (c : ℕ) → HasAccess s c (k ∷ p) → has_access r.made (written (k ∷ p)) c ≡ true
  access_back k p c h = let x = right_back k p h.task c h.mode h.strong h.at_ h.right in ap (λ (o : Option Access). elim o as (λ x. Bool) [ None ↦ false | Some a ↦ true ]) x.found

  -- when tasks were created

  pub before_forth : {p : List ℕ} {n k : ℕ} {a : Act S} (i : ℕ) → Does P s p n k a → was_made_before r.made (written (i ∷ p)) n ≡ true → (i < k) × ((t : Task S) × At s (i ∷ p) t)
  before_forth {p = p} {n = n} {k = k} i d e = go (options (made_of r.made (written (i ∷ p))))
    where
      go : (made_of r.made (written (i ∷ p)) ≡ None) ⊎ ((m : Made) × (made_of r.made (written (i ∷ p)) ≡ Some m)) → (i < k) × ((t : Task S) × At s (i ∷ p) t)
      go (inl f) = let q : false ≡ true = sym (ap (λ (o : Option Made). elim o as (λ x. Bool) [ None ↦ false | Some m ↦ nat_lt m.number n ]) f) ∙ e in absurd cc
      go (inr (m, f)) =
          let q : nat_lt m.number n ≡ true = sym (ap (λ (o : Option Made). elim o as (λ x. Bool) [ None ↦ false | Some m ↦ nat_lt m.number n ]) f) ∙ e in
          let b = begun i p m f in
          (created_less b.does d (less_is m.number n q), (b.task, b.at_))

  pub before_back : {p : List ℕ} {n k : ℕ} {a : Act S} (i : ℕ) (t : Task S) → Does P s p n k a → At s (i ∷ p) t → i < k → was_made_before r.made (written (i ∷ p)) n ≡ true
  before_back {p = p} {n = n} i t d h l =
      let m = made_back i p t h in
      let b = begun i p m.0 m.1 in
      ap (λ (o : Option Made). elim o as (λ x. Bool) [ None ↦ false | Some m ↦ nat_lt m.number n ]) m.1 ∙ is_less m.0.number n (less_created b.does d l)

  -- the newest task

  between_is : (p : List ℕ) (first n : ℕ) (x : Made) → is_made_between (written p) first n x ≡ true → (is_child (written p) x.point ≡ true) × (first < x.number) × (x.number < n)
  between_is p first n x h =
      let g = and_parts (is_child (written p) x.point) (nat_lt first x.number && nat_lt x.number n) h in
      let k = and_parts (nat_lt first x.number) (nat_lt x.number n) g.1 in
      (g.0, less_is first x.number k.0, less_is x.number n k.1)

  pub newest_forth : {p : List ℕ} {n k : ℕ} {a : Act S} (i : ℕ) → Does P s p n k a → i < k → is_newest r.made (written p) (written (i ∷ p)) n ≡ true → k ≡ suc i
  newest_forth {p = p} {n = n} {k = k} i d l e = go (which k (suc i))
    where
      which : (a b : ℕ) → (a ≤ b) ⊎ (b < a)
      which a b = grind arith

      g : (m : Made) × (made_of r.made (written (i ∷ p)) ≡ Some m) × (not (list_any (λ x. is_made_between (written p) m.number n x) r.made) ≡ true)
      g = given (made_of r.made (written (i ∷ p))) (λ m. not (list_any (λ x. is_made_between (written p) m.number n x) r.made)) e

      go : (k ≤ suc i) ⊎ (suc i < k) → k ≡ suc i
      go (inl h) = omega (arith, h, l)
      go (inr h) =
          let b = begun i p g.0 g.1 in
          let c = next_creation b.does d h in
          let m = made_back (suc i) p c.task c.at_ in
          let v = begun (suc i) p m.0 m.1 in
          let f = found_in (λ (y : Made). same_point y.point (written (suc i ∷ p))) r.made m.0 m.1 in
          let q : is_child (written p) m.0.point ≡ true = ap (λ (y : List ℕ). is_child (written p) y) (same_is {p = m.0.point} {q = written (suc i ∷ p)} f.1) ∙ child_is (suc i) p in
          absurd (not_true (list_any (λ x. is_made_between (written p) g.0.number n x) r.made) g.2 (in_any (λ x. is_made_between (written p) g.0.number n x) r.made m.0 f.0
          (and_both q (and_both (is_less g.0.number m.0.number (less_created b.does v.does (omega arith))) (is_less m.0.number n (less_created v.does d h))))))

  pub newest_back : {p : List ℕ} {n i : ℕ} {a : Act S} (t : Task S) → At s (i ∷ p) t → Does P s p n (suc i) a → is_newest r.made (written p) (written (i ∷ p)) n ≡ true
  newest_back {p = p} {n = n} {i = i} t h d =
      let m = made_back i p t h in
      give (made_of r.made (written (i ∷ p))) (λ m. not (list_any (λ x. is_made_between (written p) m.number n x) r.made)) m.0 m.1
      (true_not (list_any (λ x. is_made_between (written p) m.0.number n x) r.made) (none m.0 (begun i p m.0 m.1)))
    where
      none : (m : Made) → Begun i p m → list_any (λ x. is_made_between (written p) m.number n x) r.made ≡ true → ⊥
      none m b e =
          let x = any_in (λ x. is_made_between (written p) m.number n x) r.made e in
          let f = between_is p m.number n x.0 x.2 in
          let v = so.made_so x.0 x.1 in
          let q : p ≡ v.path = is_child_of v.number p v.path (sym (ap (λ (y : List ℕ). is_child (written p) y) v.point) ∙ f.0) in
          let w : Does P s p x.0.number v.number (Created v.order false) = subst (λ (y : List ℕ). Does P s y x.0.number v.number (Created v.order false)) (sym q) v.does in
          let j = created_less b.does w f.1 in
          let k = created_less w d f.2 in
          omega (arith, j, k)
