-- Keys and places put the acts of a state into one order.
use Rattle.std.proofs.Common.{◌≡◌, ◌≢◌, ℕ, ◌<◌, ◌≤◌, ◌⊎◌, inl, inr, refl, sym, subst, ap, ◌∙◌, List, [], ◌∷◌, length, reverse, arith, false}
use Rattle.oss_model.specs.Order.{IsSuffix, whole, longer, IsIn, here, there, IsBefore, IsEarlierKey}
use Rattle.oss_model.specs.Bodies.{Program, Start, stage_key, stage_created}
use Rattle.oss_model.specs.Machine.{Task, State, At}
use Rattle.oss_model.specs.History.{IsMade}
use Rattle.oss_model.specs.Agreement.{Compatible}
use Rattle.oss_model.specs.Moves.{created_now, key_now, IsClosed, IsLeast}
use Rattle.oss_model.specs.Memory.{Event, IsEarlierEvent, Happened, IsSorted, IsValue}
use Rattle.oss_model.proofs.Places.{place, IsEarlierPlace, IsPlaced, PlacedValue, IsLeastPlace}
use Rattle.oss_model.proofs.OrderLemmas.{suffix_trans, suffix_drop, suffix_linear, before_trans, before_not, Compared, compare, Lie, lie, before_number, before_child, before_up, before_across}
use Rattle.oss_model.proofs.StageLemmas.{created_grows, creating}
use Rattle.oss_model.proofs.TreeLemmas.{at_same, task_above, path_found}
use Rattle.oss_model.proofs.SortLemmas.{Ordered, in_order_or_one, reverse_same}
use Rattle.oss_model.proofs.KeyLemmas.{KeyForm, key_form, key_grows, IsUpTo}

less_or_equal : (m n : ℕ) → m ≤ n → (m < n) ⊎ (m ≡ n)
less_or_equal m n h = grind arith

-- the key of a task is before all keys below it
before_below : (j : ℕ) (q : List ℕ) {r : List ℕ} (n : ℕ) → IsSuffix (j ∷ q) r → IsBefore (reverse (j ∷ q)) (reverse (n ∷ r))
before_below j q n whole = before_child n j q
before_below j q n (longer {y = y} {ys = ys} h) = before_trans (before_below j q y h) (before_child n y ys)

-- what a task does before it creates a child is before all that the child does
before_down : (c j : ℕ) (q : List ℕ) {r : List ℕ} (n : ℕ) → c ≤ j → IsSuffix (j ∷ q) r → IsBefore (reverse (c ∷ q)) (reverse (n ∷ r))
before_down c j q {r = r} n l h = go (less_or_equal c j l)
  where
    go : (c < j) ⊎ (c ≡ j) → IsBefore (reverse (c ∷ q)) (reverse (n ∷ r))
    go (inl m) = before_trans (before_number c j q m) (before_below j q n h)
    go (inr m) = subst (λ (z : ℕ). IsBefore (reverse (z ∷ q)) (reverse (n ∷ r))) (sym m) (before_below j q n h)

-- keys are before each other one way at most
pub key_not : {S : Type 0} (P : Program S) (e g : Event S) → IsEarlierEvent P e g → IsEarlierEvent P g e → ⊥
key_not P e g (inl h) (inl k) = before_not (before_trans h k) refl
key_not P e g (inl h) (inr k) = before_not h (ap (λ (z : List ℕ). reverse z) (sym k.0))
key_not P e g (inr h) (inl k) = before_not k (ap (λ (z : List ℕ). reverse z) (sym h.0))
key_not P e g (inr h) (inr k) = let a = h.1 in let b = k.1 in omega arith

key_self : {S : Type 0} (P : Program S) (e g : Event S) → e ≡ g → IsEarlierEvent P e g → ⊥
key_self {S = S} P e g q h = key_not P e g h (subst (λ (z : Event S). IsEarlierEvent P g z) (sym q) (subst (λ (z : Event S). IsEarlierEvent P z g) q h))

-- a state goes together with itself
pub itself : {S : Type 0} (s : State S) → Compatible s s
itself s p t u h k =
    let e = at_same s p t u h k in
    record { start = ap (λ (z : Task _). z.body.start) e; found = inl (subst (λ (z : Task _). IsSuffix t.body.found z.body.found) e whole) }

-- a task above another is not final
above_open : {S : Type 0} (P : Program S) (main : Start S) (s : State S) (j : ℕ) (q : List ℕ) {p : List ℕ} (t : Task S) → IsMade P main s → IsSuffix (j ∷ q) p → At s p t → (v : Task S) × At s q v × (v.body.start.context.final ≡ false)
above_open P main s j q t made h at_ =
    let w = task_above P main s (j ∷ q) t made h at_ in
    let b = made.child j q w.0 w.1 in
    (b.creator, b.at_, (creating P b.creator.body.start b.past b.order b.act).open_)

-- two states of one program whose tasks go together
module _ {S : Type 0} (P : Program S) (main : Start S) (x s : State S) (x_made : IsMade P main x) (s_made : IsMade P main s) (comp : Compatible x s) where
  open_in_x : (j : ℕ) (q : List ℕ) {p : List ℕ} (t u : Task S) → IsSuffix (j ∷ q) p → At s p t → At x q u → u.body.start.context.final ≡ false
  open_in_x j q t u h at_ hu =
      let v = above_open P main s j q t s_made h at_ in
      subst (λ (z : Start S). z.context.final ≡ false) (sym (comp q u v.0 hu v.1).start) v.2

  open_in_s : (j : ℕ) (q : List ℕ) {p : List ℕ} (t u : Task S) → IsSuffix (j ∷ q) p → At x p t → At s q u → u.body.start.context.final ≡ false
  open_in_s j q t u h at_ hu =
      let v = above_open P main x j q t x_made h at_ in
      subst (λ (z : Start S). z.context.final ≡ false) (comp q v.0 u v.1 hu).start v.2

  form_below : (y : State S) (q : List ℕ) (u : Task S) (past : List ℕ) → At y q u → (f : KeyForm P u.body.start past) → IsSuffix q f.path
  form_below y q u past h f = subst (λ (z : List ℕ). IsSuffix z f.path) (path_found y.tasks q u h) f.below

  form_own : (y : State S) (q : List ℕ) (u : Task S) (past : List ℕ) → At y q u → u.body.start.context.final ≡ false → (f : KeyForm P u.body.start past) → stage_key P u.body.start past ≡ stage_created P u.body.start past ∷ q
  form_own y q u past h o f = f.own o ∙ ap (λ (z : List ℕ). stage_created P u.body.start past ∷ z) (path_found y.tasks q u h)

  -- the keys of two tasks are in the order of their places
  pub apart : (q p : List ℕ) (u t : Task S) (past more : List ℕ) → At x q u → At s p t → q ≢ p → IsBefore (reverse (stage_created P u.body.start past ∷ q)) (reverse (stage_created P t.body.start more ∷ p)) → IsEarlierKey (stage_key P u.body.start past) (stage_key P t.body.start more)
  apart q p u t past more hu ht ne l = go (key_form P u.body.start past) (key_form P t.body.start more) (lie q p (stage_created P u.body.start past) (stage_created P t.body.start more) l)
    where
      both : {k m : List ℕ} → stage_key P u.body.start past ≡ k → stage_key P t.body.start more ≡ m → IsEarlierKey k m → IsEarlierKey (stage_key P u.body.start past) (stage_key P t.body.start more)
      both {k = k} a b h =
          subst (λ (z : List ℕ). IsEarlierKey z (stage_key P t.body.start more)) (sym a) (subst (λ (z : List ℕ). IsEarlierKey k z) (sym b) h)

      go : KeyForm P u.body.start past → KeyForm P t.body.start more → Lie q (stage_created P u.body.start past) p (stage_created P t.body.start more) → IsEarlierKey (stage_key P u.body.start past) (stage_key P t.body.start more)
      go f g (Lie.one e m) = absurd (ne e)
      go f g (Lie.down j m h) =
          both (form_own x q u past hu (open_in_x j q t u h ht hu) f) g.key (before_down (stage_created P u.body.start past) j q g.number m (suffix_trans h (form_below s p t more ht g)))
      go f g (Lie.up i m h) =
          both f.key (form_own s p t more ht (open_in_s i p u t h hu ht) g) (before_up i (stage_created P t.body.start more) f.number p (suffix_trans h (form_below x q u past hu f)) m)
      go f g (Lie.across a i j m h k) =
          both f.key g.key (before_across a i j f.number g.number m (suffix_trans h (form_below x q u past hu f)) (suffix_trans k (form_below s p t more ht g)))

module _ {S : Type 0} (P : Program S) (main : Start S) (s : State S) (made : IsMade P main s) where
  -- the keys of two tasks of one state
  pub apart_in : (q p : List ℕ) (u t : Task S) (past more : List ℕ) → At s q u → At s p t → q ≢ p → IsBefore (reverse (stage_created P u.body.start past ∷ q)) (reverse (stage_created P t.body.start more ∷ p)) → IsEarlierKey (stage_key P u.body.start past) (stage_key P t.body.start more)
  apart_in q p u t past more hu ht ne l = apart P main s s made made (itself s) q p u t past more hu ht ne l

  -- a stage that a body of the state has reached
  pub record StageIn (e : Event S) : Type 0 where
    pub task : Task S
    pub at_ : At s e.start.path task
    pub start : task.body.start ≡ e.start
    pub stage : IsSuffix e.past task.body.found

  pub stage_in : (e : Event S) → Happened s e → StageIn e
  stage_in e h = record { task = h.task; at_ = h.at_; start = h.start; stage = suffix_drop h.found }

  -- stages of one body
  in_body : (b : Start S) (past more : List ℕ) (v w : ℕ) → IsSuffix past more → length past < length more → IsEarlierEvent P (record { start = b; past = past; answer = v }) (record { start = b; past = more; answer = w })
  in_body b past more v w h l = go (key_grows P b h)
    where
      go : IsUpTo (stage_key P b past) (stage_key P b more) → IsEarlierEvent P (record { start = b; past = past; answer = v }) (record { start = b; past = more; answer = w })
      go (inl k) = inl k
      go (inr k) = inr (k, l)

  one_body : (e g : Event S) → StageIn e → StageIn g → e.start.path ≡ g.start.path → IsEarlierPlace P e g → IsEarlierEvent P e g
  one_body e g a b path l =
      let at2 : At s g.start.path a.task = subst (λ (z : List ℕ). At s z a.task) path a.at_ in
      let t : a.task ≡ b.task = at_same s g.start.path a.task b.task at2 b.at_ in
      let start : e.start ≡ g.start = sym a.start ∙ (ap (λ (z : Task S). z.body.start) t ∙ b.start) in
      let stage : IsSuffix e.past b.task.body.found = subst (λ (z : Task S). IsSuffix e.past z.body.found) t a.stage in
      go start stage (le_or (length g.past) (length e.past))
    where
      le_or : (m n : ℕ) → (m ≤ n) ⊎ (n < m)
      le_or m n = grind arith

      shorter : e.start ≡ g.start → IsSuffix e.past b.task.body.found → length g.past ≤ length e.past → IsEarlierPlace P e g → ⊥
      shorter q stage m (inr k) = let n = k.1 in omega arith
      shorter q stage m (inl k) =
          let c : stage_created P g.start g.past ≤ stage_created P g.start e.past = created_grows P g.start (suffix_linear b.stage stage m) in
          let d : stage_created P g.start g.past ≤ stage_created P e.start e.past = subst (λ (z : Start S). stage_created P g.start g.past ≤ stage_created P z e.past) (sym q) c in
          back (less_or_equal (stage_created P g.start g.past) (stage_created P e.start e.past) d)
        where
          k2 : IsBefore (reverse (stage_created P e.start e.past ∷ g.start.path)) (reverse (place P g))
          k2 = subst (λ (z : List ℕ). IsBefore (reverse (stage_created P e.start e.past ∷ z)) (reverse (place P g))) path k

          back : (stage_created P g.start g.past < stage_created P e.start e.past) ⊎ (stage_created P g.start g.past ≡ stage_created P e.start e.past) → ⊥
          back (inl x) = before_not (before_trans k2 (before_number (stage_created P g.start g.past) (stage_created P e.start e.past) g.start.path x)) refl
          back (inr x) = before_not k2 (ap (λ (z : ℕ). reverse (z ∷ g.start.path)) (sym x))

      go : e.start ≡ g.start → IsSuffix e.past b.task.body.found → (length g.past ≤ length e.past) ⊎ (length e.past < length g.past) → IsEarlierEvent P e g
      go q stage (inl m) = absurd (shorter q stage m l)
      go q stage (inr m) =
          subst (λ (z : Start S). IsEarlierEvent P (record { start = z; past = e.past; answer = e.answer }) g) (sym q) (in_body g.start e.past g.past e.answer g.answer (suffix_linear stage b.stage (omega arith)) m)

  -- what is before by place is before by key
  pub place_key : (e g : Event S) → StageIn e → StageIn g → IsEarlierPlace P e g → IsEarlierEvent P e g
  place_key e g a b (inr k) = let path : e.start.path ≡ g.start.path = cc (k.0) in one_body e g a b path (inr k)
  place_key e g a b (inl k) = go (lie e.start.path g.start.path (stage_created P e.start e.past) (stage_created P g.start g.past) k)
    where
      other : e.start.path ≢ g.start.path → IsEarlierEvent P e g
      other ne =
          let k2 = subst (λ (z : Start S). IsBefore (reverse (stage_created P z e.past ∷ e.start.path)) (reverse (place P g))) (sym a.start) k in
          let k3 = subst (λ (z : Start S). IsBefore (reverse (stage_created P a.task.body.start e.past ∷ e.start.path)) (reverse (stage_created P z g.past ∷ g.start.path))) (sym b.start) k2 in
          let r = apart_in e.start.path g.start.path a.task b.task e.past g.past a.at_ b.at_ ne k3 in
          let r2 = subst (λ (z : Start S). IsEarlierKey (stage_key P z e.past) (stage_key P b.task.body.start g.past)) a.start r in
          inl (subst (λ (z : Start S). IsEarlierKey (stage_key P e.start e.past) (stage_key P z g.past)) b.start r2)

      same_or : (x y : List ℕ) → (x ≡ y) ⊎ (x ≢ y)
      same_or x y = by_compare (compare x y)
        where
          by_compare : Compared x y → (x ≡ y) ⊎ (x ≢ y)
          by_compare (Compared.before h) = inr (λ z. before_not h z)
          by_compare (Compared.equal h) = inl h
          by_compare (Compared.after h) = inr (λ z. before_not h (sym z))

      split : (e.start.path ≡ g.start.path) ⊎ (e.start.path ≢ g.start.path) → IsEarlierEvent P e g
      split (inl path) = one_body e g a b path (inl k)
      split (inr ne) = other ne

      go : Lie e.start.path (stage_created P e.start e.past) g.start.path (stage_created P g.start g.past) → IsEarlierEvent P e g
      go h = split (same_or e.start.path g.start.path)

  -- of done acts what is before by key is before by place
  pub key_place : (e g : Event S) → Happened s e → Happened s g → IsEarlierEvent P e g → IsEarlierPlace P e g
  key_place e g a b l = go (in_order_or_one P s e g a b)
    where
      go : Ordered P e g → IsEarlierPlace P e g
      go (Ordered.first h) = h
      go (Ordered.same h) = absurd (key_self P e g h l)
      go (Ordered.last h) = absurd (key_not P e g l (place_key g e (stage_in g b) (stage_in e a) h))

  -- lists of done acts are sorted by place where they are sorted by key
  pub keyed : (xs : List (Event S)) → ((e : Event S) → IsIn e xs → Happened s e) → IsPlaced P xs → IsSorted P xs
  keyed [] f h = tt
  keyed (x ∷ xs) f h = ((λ g i. place_key x g (stage_in x (f x here)) (stage_in g (f g (there i))) (h.0 g i)), keyed xs (λ e i. f e (there i)) h.1)

  pub placed : (xs : List (Event S)) → ((e : Event S) → IsIn e xs → Happened s e) → IsSorted P xs → IsPlaced P xs
  placed [] f h = tt
  placed (x ∷ xs) f h = ((λ g i. key_place x g (f x here) (f g (there i)) (h.0 g i)), placed xs (λ e i. f e (there i)) h.1)

  pub keyed_value : (first : List ℕ) (c : ℕ) → PlacedValue P s first c → IsValue P s first c
  keyed_value first c v = record { list = v.list; sorted = keyed v.list (λ e i. (v.only e i).happened) v.sorted; only = v.only; all = v.all; value = v.value }

  pub placed_value : (first : List ℕ) (c : ℕ) → IsValue P s first c → PlacedValue P s first c
  placed_value first c v = record { list = v.list; sorted = placed v.list (λ e i. (v.only e i).happened) v.sorted; only = v.only; all = v.all; value = v.value }

  -- a task is the least by key where it is the least by place
  pub least_key : (p : List ℕ) (t : Task S) → At s p t → IsLeastPlace P s p t → IsLeast P s p t
  least_key p t ht least q u hu l = go (compare (reverse (created_now P u.body ∷ q)) (reverse (created_now P t.body ∷ p)))
    where
      one_task : q ≡ p → IsClosed P q u
      one_task e =
          let same : u ≡ t = at_same s p u t (subst (λ (z : List ℕ). At s z u) e hu) ht in
          absurd (before_not l (ap (λ (z : Task S). reverse (key_now P z.body)) same))

      go : Compared (reverse (created_now P u.body ∷ q)) (reverse (created_now P t.body ∷ p)) → IsClosed P q u
      go (Compared.before h) = least q u hu h
      go (Compared.equal h) = let k = reverse_same (created_now P u.body ∷ q) (created_now P t.body ∷ p) h in one_task (cc (k))
      go (Compared.after h) = absurd (before_not (before_trans l (apart_in p q t u t.body.found u.body.found ht hu ne h)) refl)
        where
          ne : p ≢ q
          ne e =
              let same : u ≡ t = at_same s p u t (subst (λ (z : List ℕ). At s z u) (sym e) hu) ht in
              before_not l (ap (λ (z : Task S). reverse (key_now P z.body)) same)
