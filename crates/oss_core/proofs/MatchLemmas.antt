-- The accesses of the state and the entries of the dependency system match.
use Rattle.std.proofs.Common.{◌≡◌, ℕ, ◌<◌, refl, sym, subst, ap, ◌∙◌, List, [], ◌∷◌, ◌⊎◌, inl, inr, Bool, true, false, arith, Option, Some, None, ◌↔◌}
use Rattle.std.specs.Prelude.{slice_get}
use Rattle.oss_syntax.specs.declared.access.Access.{Access}
use Rattle.oss_syntax.specs.declared.access.Mode.{Mode}
use Rattle.oss_model.specs.Order.{IsIn, here, there}
use Rattle.oss_model.specs.Rights.{Holds}
use Rattle.oss_syntax.specs.declared.access.Mode.TheVariants.{Read, Write}
use Rattle.oss_model.specs.Context.{right_of}
use Rattle.oss_model.specs.Bodies.{Body}
use Rattle.oss_model.specs.Machine.{Task, State, At, find, HasAccess, HasGiven, IsTop, is_top, IsChild, is_child, IsEarlier, is_earlier, accesses, mode_in, mode_of, IsReady}
use Rattle.oss_model.specs.Matching.{IsNear, above, below, before, Matches, HaveSameFlags}
use Rattle.oss_model.proofs.TreeLemmas.{at_same}
use Rattle.oss_model.proofs.MatchingLemmas.{same_flags}
use Rattle.oss_deps.specs.declared.opened.Open.{Open}
use Rattle.oss_deps.specs.Opens as opens
use Rattle.oss_deps.specs.Opens.{access_at, names, mode_at, Precedes, HasOpened, opened_forest, AreOpens}
use Rattle.oss_core.proofs.EntryLemmas.{precedes_in, precedes_in_last, mode_is}
use Rattle.oss_core.proofs.EntryLemmas.{named_at}
use Rattle.oss_core.specs.Standing.{IsNumbered, IsLinked, AreTasks, StandsFor}

some_is : {A : Type 0} {a b : A} → Some a ≡ Some b → a ≡ b
some_is e = cc

pub tail_is : {x y : ℕ} {xs ys : List ℕ} → x ∷ xs ≡ y ∷ ys → xs ≡ ys
tail_is e = cc

pub head_is : {x y : ℕ} {xs ys : List ℕ} → x ∷ xs ≡ y ∷ ys → x ≡ y
head_is e = cc

same_body : {B : Type 0} {o : Option B} {a b : B} → o ≡ Some a → o ≡ Some b → a ≡ b
same_body h k = some_is (sym h ∙ k)

pub named_has : (o : Open) (c : ℕ) → names c o ≡ true → (a : Access) × (access_at o.accesses c ≡ Some a)
named_has o c h = go (access_at o.accesses c) refl
  where
    go : (x : Option Access) → access_at o.accesses c ≡ x → (a : Access) × (access_at o.accesses c ≡ Some a)
    go (Some a) e = (a, e)
    go None e = let k : true ≡ false = sym h ∙ ap opens.is_some_access e in absurd cc

-- two entries of a list stand in one order or are one
in_order_of : {A : Type 0} {x y : A} (xs : List A) → IsIn x xs → IsIn y xs → Precedes x y xs ⊎ ((x ≡ y) ⊎ Precedes y x xs)
in_order_of [] i j = elim i [ ]
in_order_of (z ∷ xs) here here = inr (inl refl)
in_order_of (z ∷ xs) here (there j) = inl (opens.first j)
in_order_of (z ∷ xs) (there i) here = inr (inr (opens.first i))
in_order_of {A = A} {x = x} {y = y} (z ∷ xs) (there i) (there j) = go (in_order_of xs i j)
  where
    go : {w : A} → Precedes x y xs ⊎ ((x ≡ y) ⊎ Precedes y x xs) → Precedes x y (w ∷ xs) ⊎ ((x ≡ y) ⊎ Precedes y x (w ∷ xs))
    go (inl h) = inl (opens.later h)
    go (inr (inl e)) = inr (inl e)
    go (inr (inr h)) = inr (inr (opens.later h))

module _ {S B : Type 0} (body : B → Body S) (bodies : List B) (list : List Open) (given : ℕ → ℕ → Bool) (cells : List ℕ) (s : State S)
    (tasks : AreTasks body bodies list) (stands : StandsFor body bodies given cells s) (c : ℕ) where
  -- the task at the path has the number
  abbrev pub Has : List ℕ → ℕ → Type 0
  Has p v = IsNumbered body bodies v p

  pub task_at : (p : List ℕ) (v : ℕ) → Has p v → (t : Task S) × At s p t × ((k : ℕ) → (IsIn k t.given ↔ given v k ≡ true))
  task_at p v h =
      let r = stands.there v h.one h.is in
      (r.0, subst (λ (q : List ℕ). At s q r.0) h.path r.1, r.3)

  body_at : (p : List ℕ) (v : ℕ) (h : Has p v) (t : Task S) → At s p t → t.body ≡ body h.one
  body_at p v h t a =
      let r = stands.there v h.one h.is in
      ap (λ (x : Task S). x.body) (at_same s p t r.0 a (subst (λ (q : List ℕ). At s q r.0) h.path r.1)) ∙ r.2

  pub entry_of : (k : ℕ) (p : List ℕ) (v : ℕ) → Has (k ∷ p) v → (o : Open) × IsIn o list × (o.task ≡ v)
  entry_of k p v h = go (tasks.opened v h.one h.is)
    where
      go : (v ≡ 0) ⊎ ((o : Open) × IsIn o list × (o.task ≡ v)) → (o : Open) × IsIn o list × (o.task ≡ v)
      go (inr r) = r
      go (inl z) =
          let m : tasks.main.one ≡ h.one = same_body (subst (λ (w : ℕ). slice_get bodies w ≡ Some tasks.main.one) (sym z) tasks.main.is) h.is in
          let e : [] ≡ k ∷ p = sym tasks.main.path ∙ ap (λ (b : B). (body b).start.path) m ∙ h.path in
          absurd cc

  -- what a link says of the task with a path
  linked_path : (p : List ℕ) (v : ℕ) (h : Has p v) (o : Open) (l : IsLinked body bodies o) → o.task ≡ v → l.task ≡ h.one
  linked_path p v h o l e = same_body l.task_is (subst (λ (w : ℕ). slice_get bodies w ≡ Some h.one) (sym e) h.is)

  -- an access of the state is one of an entry
  pub opened_of : (k : ℕ) (p : List ℕ) (v : ℕ) → Has (k ∷ p) v → HasAccess s c (k ∷ p) → HasOpened list c v
  opened_of k p v h a =
      let r = entry_of k p v h in
      let l = tasks.linked r.0 r.1 in
      let e : a.task.body ≡ body l.task = body_at (k ∷ p) v h a.task a.at_ ∙ ap body (sym (linked_path (k ∷ p) v h r.0 l r.2)) in
      let g = l.rights.given c a.mode a.strong (ap (λ (x : Body S). right_of x.start.context c) (sym e) ∙ a.right) in
      record { entry = r.0; listed = r.1; number = r.2; named = named_at r.0 c g.0 g.1 }

  pub access_of : (p : List ℕ) (v : ℕ) → Has p v → HasOpened list c v → HasAccess s c p
  access_of p v h o =
      let l = tasks.linked o.entry o.listed in
      let t = task_at p v h in
      let a = named_has o.entry c o.named in
      let e : t.0.body ≡ body l.task = body_at p v h t.0 t.1 ∙ ap body (sym (linked_path p v h o.entry l o.number)) in
      record { task = t.0; at_ = t.1; mode = a.0.mode; strong = a.0.strong; right = ap (λ (x : Body S). right_of x.start.context c) e ∙ l.rights.held c a.0 a.1 }

  -- the path of an opened task, from that of its creator
  pub path_of : (p : List ℕ) (v : ℕ) (h : Has p v) (o : Open) (l : IsLinked body bodies o) → o.task ≡ v → p ≡ l.child ∷ (body l.creator).start.path
  path_of p v h o l e = sym h.path ∙ ap (λ (b : B). (body b).start.path) (sym (linked_path p v h o l e)) ∙ l.path

  creator_of : (o : Open) (l : IsLinked body bodies o) → Has (body l.creator).start.path o.parent
  creator_of o l = record { one = l.creator; is = l.creator_is; path = refl }

  number_is : (p : List ℕ) (v w : ℕ) → Has p v → Has p w → v ≡ w
  number_is p v w h k = tasks.one_number v w h.one k.one h.is k.is (h.path ∙ sym k.path)

  top_forth : (p : List ℕ) (v : ℕ) → Has p v → IsTop s c p → opens.IsTop list c v
  top_forth p v h (is_top {k = k} a) =
      let o = opened_of k [] v h a in
      let l = tasks.linked o.entry o.listed in
      let e = path_of (k ∷ []) v h o.entry l o.number in
      record { opened = o; parent = tasks.one_number o.entry.parent 0 l.creator tasks.main.one l.creator_is tasks.main.is (sym (tail_is e) ∙ sym tasks.main.path) }

  top_back : (p : List ℕ) (v : ℕ) → Has p v → opens.IsTop list c v → IsTop s c p
  top_back p v h t =
      let l = tasks.linked t.opened.entry t.opened.listed in
      let m : l.creator ≡ tasks.main.one = same_body (subst (λ (w : ℕ). slice_get bodies w ≡ Some l.creator) t.parent l.creator_is) tasks.main.is in
      let e : p ≡ l.child ∷ [] = path_of p v h t.opened.entry l t.opened.number ∙ ap (λ (b : B). l.child ∷ (body b).start.path) m ∙ ap (λ (q : List ℕ). l.child ∷ q) tasks.main.path in
      let a = access_of p v h t.opened in
      subst (λ (q : List ℕ). IsTop s c q) (sym e) (is_top (subst (λ (q : List ℕ). HasAccess s c q) e a))

  child_forth : (p q : List ℕ) (v w : ℕ) → Has p v → Has q w → IsChild s c p q → opens.IsChild list c v w
  child_forth p q v w h k (is_child {k = j} {i = i} {p = r} a b) =
      let x = opened_of i r v h a in
      let y = opened_of j (i ∷ r) w k b in
      let l = tasks.linked y.entry y.listed in
      let e = path_of (j ∷ i ∷ r) w k y.entry l y.number in
      let g : Has (i ∷ r) y.entry.parent = record { one = l.creator; is = l.creator_is; path = sym (tail_is e) } in
      record { above = x; opened = y; parent = number_is (i ∷ r) y.entry.parent v g h }

  child_back : (p q : List ℕ) (v w : ℕ) → Has p v → Has q w → opens.IsChild list c v w → IsChild s c p q
  child_back p q v w h k t =
      let l = tasks.linked t.opened.entry t.opened.listed in
      let m = tasks.linked t.above.entry t.above.listed in
      let e = path_of p v h t.above.entry m t.above.number in
      let cr : l.creator ≡ h.one = same_body (subst (λ (z : ℕ). slice_get bodies z ≡ Some l.creator) t.parent l.creator_is) h.is in
      let f : q ≡ l.child ∷ p = path_of q w k t.opened.entry l t.opened.number ∙ ap (λ (z : B). l.child ∷ (body z).start.path) cr ∙ ap (λ (r : List ℕ). l.child ∷ r) h.path in
      let a = access_of p v h t.above in
      let b = access_of q w k t.opened in
      made p q m.child (body m.creator).start.path l.child e f a b
    where
      made : (p q : List ℕ) (i : ℕ) (r : List ℕ) (j : ℕ) → p ≡ i ∷ r → q ≡ j ∷ p → HasAccess s c p → HasAccess s c q → IsChild s c p q
      made p q i r j e f a b =
          let g : q ≡ j ∷ i ∷ r = f ∙ ap (λ (x : List ℕ). j ∷ x) e in
          subst (λ (x : List ℕ). IsChild s c x q) (sym e) (subst (λ (y : List ℕ). IsChild s c (i ∷ r) y) (sym g)
          (is_child (subst (λ (x : List ℕ). HasAccess s c x) e a) (subst (λ (y : List ℕ). HasAccess s c y) g b)))

  earlier_forth : (p q : List ℕ) (v w : ℕ) → Has p v → Has q w → IsEarlier s c p q → opens.IsEarlier list c v w
  earlier_forth p q v w h k (is_earlier {i = i} {k = j} {p = r} less a) = go (in_order_of list x.listed y.1)
    where
      x : HasOpened list c v
      x = opened_of i r v h a

      y : (o : Open) × IsIn o list × (o.task ≡ w)
      y = entry_of j r w k

      l : IsLinked body bodies x.entry
      l = tasks.linked x.entry x.listed

      m : IsLinked body bodies y.0
      m = tasks.linked y.0 y.1

      e : i ∷ r ≡ l.child ∷ (body l.creator).start.path
      e = path_of (i ∷ r) v h x.entry l x.number

      f : j ∷ r ≡ m.child ∷ (body m.creator).start.path
      f = path_of (j ∷ r) w k y.0 m y.2

      same_parent : x.entry.parent ≡ y.0.parent
      same_parent = tasks.one_number x.entry.parent y.0.parent l.creator m.creator l.creator_is m.creator_is (sym (tail_is e) ∙ tail_is f)

      go : Precedes x.entry y.0 list ⊎ ((x.entry ≡ y.0) ⊎ Precedes y.0 x.entry list) → opens.IsEarlier list c v w
      go (inl o) = record { before = x.entry; after = y.0; order = o; number = x.number; after_number = y.2; siblings = same_parent; named = x.named }
      go (inr (inl o)) =
          let n : v ≡ w = sym x.number ∙ ap (λ (z : Open). z.task) o ∙ y.2 in
          let t : h.one ≡ k.one = same_body (subst (λ (z : ℕ). slice_get bodies z ≡ Some h.one) n h.is) k.is in
          let u : i ∷ r ≡ j ∷ r = sym h.path ∙ ap (λ (b : B). (body b).start.path) t ∙ k.path in
          let z : i ≡ j = head_is u in
          absurd (omega (arith, less, z))
      go (inr (inr o)) =
          let n = tasks.in_order y.0 x.entry m l o (sym same_parent) in
          let z : i ≡ l.child = head_is e in
          let u : j ≡ m.child = head_is f in
          absurd (omega (arith, less, n, z, u))

  earlier_back : (p q : List ℕ) (v w : ℕ) → Has p v → Has q w → opens.IsEarlier list c v w → IsEarlier s c p q
  earlier_back p q v w h k o =
      let l = tasks.linked o.before (precedes_in o.order) in
      let m = tasks.linked o.after (precedes_in_last o.order) in
      let e = path_of p v h o.before l o.number in
      let f = path_of q w k o.after m o.after_number in
      let cr : m.creator ≡ l.creator = same_body m.creator_is (subst (λ (z : ℕ). slice_get bodies z ≡ Some l.creator) o.siblings l.creator_is) in
      let n = tasks.in_order o.before o.after l m o.order o.siblings in
      let a = access_of p v h (record { entry = o.before; listed = precedes_in o.order; number = o.number; named = o.named }) in
      made p q l.child m.child (body l.creator).start.path e (f ∙ ap (λ (b : B). m.child ∷ (body b).start.path) cr) n a
    where
      made : (p q : List ℕ) (i j : ℕ) (r : List ℕ) → p ≡ i ∷ r → q ≡ j ∷ r → i < j → HasAccess s c p → IsEarlier s c p q
      made p q i j r e f n a =
          subst (λ (x : List ℕ). IsEarlier s c x q) (sym e) (subst (λ (y : List ℕ). IsEarlier s c (i ∷ r) y) (sym f) (is_earlier n (subst (λ (x : List ℕ). HasAccess s c x) e a)))

  -- partners: the path and the number of a task with an access to the cell
  pub record Partners (p : List ℕ) (v : ℕ) : Type 0 where
    pub has : Has p v
    pub opened : HasOpened list c v

  mode_same : (p : List ℕ) (v : ℕ) → Partners p v → mode_in (find s.tasks p) c ≡ opens.mode_in list c v
  mode_same p v h =
      let o = h.opened in
      let a = access_of p v h.has o in
      let l = tasks.linked o.entry o.listed in
      let x = named_has o.entry c o.named in
      let e : a.task.body ≡ body l.task = body_at p v h.has a.task a.at_ ∙ ap body (sym (linked_path p v h.has o.entry l o.number)) in
      let r : right_of a.task.body.start.context c ≡ Holds x.0.mode x.0.strong = ap (λ (z : Body S). right_of z.start.context c) e ∙ l.rights.held c x.0 x.1 in
      ap (λ (z : Option (Task S)). mode_in z c) a.at_ ∙ ap mode_of r ∙ sym (ap (λ (z : ℕ). opens.mode_in list c z) (sym o.number) ∙ mode_is c tasks.opens_are.ordered o.entry o.listed ∙ ap opens.mode_of_access x.1)

  given_forth : (p : List ℕ) (v : ℕ) → Has p v → HasGiven s c p → given v c ≡ true
  given_forth p v h g =
      let t = task_at p v h in
      (t.2 c).0 (subst (λ (x : Task S). IsIn c x.given) (at_same s p g.task t.0 g.at_ t.1) g.given)

  given_back : (p : List ℕ) (v : ℕ) → Has p v → given v c ≡ true → HasGiven s c p
  given_back p v h g = let t = task_at p v h in record { task = t.0; at_ = t.1; given = (t.2 c).1 g }

  pub partner_of : (k : ℕ) (p : List ℕ) → HasAccess s c (k ∷ p) → (v : ℕ) × Partners (k ∷ p) v
  partner_of k p a = let r = stands.back (k ∷ p) a.task a.at_ in (r.0, record { has = r.1; opened = opened_of k p r.0 r.1 a })

  near_forth : (u x : List ℕ) → IsNear (accesses s c) u x → (v : ℕ) × Partners x v
  near_forth u x (above (is_child {i = i} {p = r} a b)) = partner_of i r a
  near_forth u x (below (is_child {k = j} {i = i} {p = r} a b)) = partner_of j (i ∷ r) b
  near_forth u x (before (is_earlier {i = i} {p = r} less a)) = partner_of i r a

  pub partner_path : (v : ℕ) → HasOpened list c v → (p : List ℕ) × Partners p v
  partner_path v o =
      let l = tasks.linked o.entry o.listed in
      ((body l.task).start.path, record { has = record { one = l.task; is = subst (λ (z : ℕ). slice_get bodies z ≡ Some l.task) o.number l.task_is; path = refl }; opened = o })

  near_back : (v y : ℕ) → IsNear (opened_forest list given c) v y → (p : List ℕ) × Partners p y
  near_back v y (above k) = partner_path y k.above
  near_back v y (below k) = partner_path y k.opened
  near_back v y (before k) = partner_path y (record { entry = k.before; listed = precedes_in k.order; number = k.number; named = k.named })

  pub matching : Matches (accesses s c) (opened_forest list given c) Partners
  matching = record {
    top = λ u v r. (top_forth u v r.has, top_back u v r.has);
    child = λ u x v y r q. (child_forth u x v y r.has q.has, child_back u x v y r.has q.has);
    earlier = λ u x v y r q. (earlier_forth u x v y r.has q.has, earlier_back u x v y r.has q.has);
    mode = λ u v r. mode_same u v r;
    given = λ u v r. (given_forth u v r.has, given_back u v r.has);
    forth = λ u x v r n. near_forth u x n;
    back = λ u v y r n. near_back v y n;
  }

  pub flags_same : (p : List ℕ) (v : ℕ) → Partners p v → HaveSameFlags (accesses s c) (opened_forest list given c) p v
  flags_same p v r = same_flags (accesses s c) (opened_forest list given c) Partners matching p v r

module _ {S B : Type 0} (body : B → Body S) (bodies : List B) (list : List Open) (given : ℕ → ℕ → Bool) (cells : List ℕ) (s : State S)
    (tasks : AreTasks body bodies list) (stands : StandsFor body bodies given cells s) where
  -- what the dependency system tells of a task is whether it is ready
  pub ready_of : (k : ℕ) (p : List ℕ) (v : ℕ) (h : IsNumbered body bodies v (k ∷ p)) → opens.IsMet list given v → IsReady s (k ∷ p) (body h.one).start.context
  ready_of k p v h m = (
    λ c r. let a = l.rights.given c Read true (right c Read r) in
        (flags_same body bodies list given cells s tasks stands c (k ∷ p) v (partners c a.0 a.1)).read.1 (m.reads c (record { entry = o.0; listed = o.1; number = o.2; access = a.0; at_ = a.1; mode_is = a.2; strong = a.3 })),
    λ c r. let a = l.rights.given c Write true (right c Write r) in
        (flags_same body bodies list given cells s tasks stands c (k ∷ p) v (partners c a.0 a.1)).write.1 (m.writes c (record { entry = o.0; listed = o.1; number = o.2; access = a.0; at_ = a.1; mode_is = a.2; strong = a.3 })),
  )
    where
      o : (o : Open) × IsIn o list × (o.task ≡ v)
      o = entry_of body bodies list given cells s tasks stands 0 k p v h

      l : IsLinked body bodies o.0
      l = tasks.linked o.0 o.1

      right : (c : ℕ) (m : Mode) → right_of (body h.one).start.context c ≡ Holds m true → right_of (body l.task).start.context c ≡ Holds m true
      right c m r = ap (λ (b : B). right_of (body b).start.context c) (linked_path body bodies list given cells s tasks stands c (k ∷ p) v h o.0 l o.2) ∙ r

      partners : (c : ℕ) (a : Access) → access_at o.0.accesses c ≡ Some a → Partners body bodies list given cells s tasks stands c (k ∷ p) v
      partners c a e = record { has = h; opened = record { entry = o.0; listed = o.1; number = o.2; named = named_at o.0 c a e } }

  pub met_of : (k : ℕ) (p : List ℕ) (v : ℕ) (h : IsNumbered body bodies v (k ∷ p)) → IsReady s (k ∷ p) (body h.one).start.context → opens.IsMet list given v
  met_of k p v h r =
      record {
        reads = λ c a. (flags_same body bodies list given cells s tasks stands c (k ∷ p) v (partners c Read a)).read.0 (r.0 c (right c Read a));
        writes = λ c a. (flags_same body bodies list given cells s tasks stands c (k ∷ p) v (partners c Write a)).write.0 (r.1 c (right c Write a));
      }
    where
      right : (c : ℕ) (m : Mode) (a : opens.Asks list v c m) → right_of (body h.one).start.context c ≡ Holds m true
      right c m a =
          let l = tasks.linked a.entry a.listed in
          ap (λ (b : B). right_of (body b).start.context c) (sym (linked_path body bodies list given cells s tasks stands c (k ∷ p) v h a.entry l a.number))
          ∙ l.rights.held c a.access a.at_ ∙ λ i. Holds (a.mode_is i) (a.strong i)

      partners : (c : ℕ) (m : Mode) (a : opens.Asks list v c m) → Partners body bodies list given cells s tasks stands c (k ∷ p) v
      partners c m a = record { has = h; opened = record { entry = a.entry; listed = a.listed; number = a.number; named = named_at a.entry c a.access a.at_ } }
