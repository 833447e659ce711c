-- Tasks of a core may be told anew, one after the other.
use Rattle.std.proofs.Common.{◌≡◌, ◌≤◌, ◌<◌, ◌+◌, ◌⊎◌, inl, inr, ℕ, zero, suc, refl, sym, subst, ap, ◌∙◌, arith, Bool, true, false, List, [], ◌∷◌, ◌++◌, length, length-append, Result, Ok, Err, Option, Some}
use Rattle.std.specs.Prelude.{IfOk, slice_get, slice_index_or}
use Rattle.std.proofs.lemmas.Option.{slice_get_within, slice_get-get_or}
use Rattle.oss_body.specs.Relation.{IsBody}
use Rattle.oss_code.specs.declared.code.CodeParts.{CodeParts}
use Rattle.oss_deps.specs.declared.opened.Open.{Open}
use Rattle.oss_deps.specs.Opens as opens
use Rattle.oss_deps.specs.Opens.{AreOpens, HasCover, HasOpened, IsKnown, IsNested, IsOpened, Precedes, access_at, mode_at, names}
use Rattle.oss_deps.specs.Seen.{CanOpen, HasHeldCover, Opens, Seen}
use Rattle.oss_kept_tasks.specs.declared.held.Held.{Held}
use Rattle.oss_machine.specs.Frames.{CodeScript}
use Rattle.oss_machine.specs.Machines.{asks}
use Rattle.oss_model.specs.Bodies.{Body, Start}
use Rattle.oss_model.specs.Context.{Context, right_of}
use Rattle.oss_model.specs.Moves.{created_now}
use Rattle.oss_model.specs.Order.{IsIn, here, there}
use Rattle.oss_model.specs.Rights.{covers, right_from}
use Rattle.oss_judge.specs.Joined as joined
use Rattle.oss_judge.specs.Joined.{held_right}
use Rattle.oss_syntax.specs.declared.access.Access.{Access}
use Rattle.oss_syntax.specs.declared.access.Mode.{Mode}
use Rattle.oss_model.specs.declared.task_no.TaskNo.{TaskNo}
use Rattle.oss_tree.specs.declared.task.Task.{Task as TreeTask}
use Rattle.oss_tree.specs.Tasks as tree
use Rattle.oss_tree.specs.Tasks.{IsTree, number}
use Rattle.oss_core.specs.Below.{MayOpen}
use Rattle.oss_core.specs.Kept.{Kept, own}
use Rattle.oss_core.specs.Moving.{AreSound}
use Rattle.oss_core.specs.Retelling.{AreAccesses, AreSome, Comes, IsEntry, IsTold}
use Rattle.oss_core.specs.Standing.{AreRightsOf, IsLinked}
use Rattle.oss_core.proofs.ChildFacts.{EntryOf, entry_of_child}
use Rattle.oss_core.proofs.EntryLemmas.{in_added, in_front, in_last, in_none, opens_added, precedes_in, precedes_in_last, rising_once, named_at}
use Rattle.oss_core.proofs.KeepLemmas.{some_is}
use Rattle.oss_core.proofs.MatchLemmas.{head_is, named_has}
use Rattle.oss_core.proofs.NeedLemmas.{are_rights, opens_rising}
use Rattle.oss_core.proofs.TreeFacts.{at_number, body_within, task_within}

number_is : {a b : ℕ} → number a ≡ number b → a ≡ b
number_is h = ap (λ (t : TaskNo). t.0) h

some_number : {a b : ℕ} → Some (number a) ≡ Some (number b) → a ≡ b
some_number h = number_is (some_is h)

-- the last of two lists that end alike
last_same : (xs ys : List ℕ) (a b : ℕ) → xs ++ a ∷ [] ≡ ys ++ b ∷ [] → a ≡ b
last_same [] [] a b h = cc
last_same [] (y ∷ ys) a b h = let z = ap length h in let l = length-append ys (b ∷ []) in absurd (omega (arith, z, l))
last_same (x ∷ xs) [] a b h = let z = ap length h in let l = length-append xs (a ∷ []) in absurd (omega (arith, z, l))
last_same (x ∷ xs) (y ∷ ys) a b h = last_same xs ys a b (cc)

-- what the body of a task tells are its accesses
pub accesses_are : {E : Type 0} (tasks : List Held) (t : ℕ) (held : Held) (r : Result (List Access) E) → slice_get tasks t ≡ Some held
    → IfOk r (λ accesses. (code : CodeParts) (start : Start CodeScript) (found : List ℕ) → IsBody code start found held.body → (c : ℕ) → right_from false accesses c ≡ held_right (right_of start.context c))
    → IfOk r (λ accesses. joined.IsRising accesses) → IfOk r (λ accesses. AreAccesses tasks t accesses)
accesses_are tasks t held (Ok accesses) is rights rising = record { held = held; is = is; rising = rising; rights = rights }
accesses_are tasks t held (Err e) is rights rising = tt

below_or : (m n : ℕ) → (n < m) ⊎ (m ≤ n)
below_or m n = grind arith

-- the last of a list precedes none
precedes_added : {x y : Open} (xs : List Open) (z : Open) → Precedes x y (xs ++ z ∷ []) → Precedes x y xs ⊎ (IsIn x xs × (y ≡ z))
precedes_added [] z (opens.first i) = elim i [ ]
precedes_added [] z (opens.later h) = elim h [ ]
precedes_added {x = x} {y = y} (w ∷ xs) z (opens.first i) = go (in_added xs z i)
  where
    go : IsIn y xs ⊎ (y ≡ z) → Precedes x y (x ∷ xs) ⊎ (IsIn x (x ∷ xs) × (y ≡ z))
    go (inl k) = inl (opens.first k)
    go (inr e) = inr (here, e)
precedes_added {x = x} {y = y} (w ∷ xs) z (opens.later h) = go (precedes_added xs z h)
  where
    go : Precedes x y xs ⊎ (IsIn x xs × (y ≡ z)) → Precedes x y (w ∷ xs) ⊎ (IsIn x (w ∷ xs) × (y ≡ z))
    go (inl k) = inl (opens.later k)
    go (inr e) = inr (there e.0, e.1)

module _ (tasks : List Held) (t : tree.Kept) (some : AreSome tasks t) where
  abbrev k : Kept
  k = record { tasks = tasks; tree = t; seen = some.seen; cells = some.cells }

  abbrev ts : List TreeTask
  ts = t.tasks

  tree_is : IsTree ts
  tree_is = some.core.known.tree_is

  -- a child has one creator
  one_creator : (u v i j c : ℕ) (one two : TreeTask) → slice_get ts u ≡ Some one → slice_get ts v ≡ Some two
      → slice_get one.children i ≡ Some (number c) → slice_get two.children j ≡ Some (number c) → u ≡ v
  one_creator u v i j c one two e f h g =
      let a = tree_is.children u one e i c h in
      let b = tree_is.children v two f j c g in
      some_number (sym a.parent ∙ ap (λ (x : TreeTask). x.parent) (some_is (sym a.at_ ∙ b.at_)) ∙ b.parent)

  -- and stands there once
  one_place : (u i j c : ℕ) (one : TreeTask) → slice_get ts u ≡ Some one → slice_get one.children i ≡ Some (number c) → slice_get one.children j ≡ Some (number c) → i ≡ j
  one_place u i j c one e h g =
      let a = tree_is.children u one e i c h in
      let b = tree_is.children u one e j c g in
      last_same one.point one.point i j (sym a.point ∙ ap (λ (x : TreeTask). x.point) (some_is (sym a.at_ ∙ b.at_)) ∙ b.point)

  -- an entry has one place
  place_same : (o : Open) (e f : IsEntry tasks ts o) → e.place ≡ f.place
  place_same o e f =
      let creator : f.creator ≡ e.creator = some_is (sym f.creator_is ∙ e.creator_is) in
      one_place o.parent e.place f.place o.task e.creator e.creator_is e.is (subst (λ (y : TreeTask). slice_get y.children f.place ≡ Some (number o.task)) creator f.is)

  -- the rights of the body of a task are told by its accesses
  pub rights_of : (c : ℕ) (accesses : List Access) → AreAccesses tasks c accesses → (b : Body CodeScript) → slice_get some.core.bodies c ≡ Some b → AreRightsOf accesses b.start.context
  rights_of c accesses h b is =
      let held = some.core.held.each c b h.held is h.is in
      are_rights accesses b.start.context (opens_rising accesses h.rising) (h.rights some.code b.start b.found held.body_is)

  -- two lists of accesses that give the rights of one context have one mode at each cell
  pub same_mode : (o q : Open) (x : Context) (c : ℕ) → AreRightsOf o.accesses x → AreRightsOf q.accesses x → names c o ≡ true → (names c q ≡ true) × (mode_at c o ≡ mode_at c q)
  same_mode o q x c r s n =
      let a = named_has o c n in
      let b = s.given c a.0.mode a.0.strong (r.held c a.0 a.1) in (
        named_at q c b.0 b.1,
        ap (λ (z : Option Access). opens.mode_of_access z) a.1 ∙ sym b.2 ∙ sym (ap (λ (z : Option Access). opens.mode_of_access z) b.1),
      )

  -- the entry of a child in the system that the core had
  module _ (o : Open) (e : IsEntry tasks ts o) where
    old : EntryOf some.core o.parent e.place o.task
    old = entry_of_child some.core o.parent e.creator e.place o.task e.creator_is e.is

    old_link : IsLinked own some.core.bodies old.entry
    old_link = some.core.sound.tasks.linked old.entry old.listed

    pub linked : IsLinked own some.core.bodies o
    linked = record {
      task = old_link.task;
      creator = old_link.creator;
      task_is = subst (λ (w : ℕ). slice_get some.core.bodies w ≡ Some old_link.task) old.task_is old_link.task_is;
      creator_is = subst (λ (w : ℕ). slice_get some.core.bodies w ≡ Some old_link.creator) old.parent old_link.creator_is;
      child = old_link.child;
      path = old_link.path;
      rights = rights_of o.task o.accesses e.accesses old_link.task (subst (λ (w : ℕ). slice_get some.core.bodies w ≡ Some old_link.task) old.task_is old_link.task_is);
    }

    pub linked_child : linked.child ≡ e.place
    unfolding linked old_link
    linked_child = old.child

  -- the point of a task is as long as it is nested deep, and one more
  nested : (top j n u : ℕ) (seen : Seen) (one : TreeTask) → IsTold tasks ts top j seen → u < n → slice_get ts u ≡ Some one → (u < top) ⊎ (u ≡ top)
      → (depth : ℕ) × IsNested seen.opens u depth × (length one.point ≡ suc depth)
  nested top j zero u seen one told l e w = absurd (omega (arith, l))
  nested top j (suc n) zero seen one told l e w =
      (0, opens.main, ap (λ (x : TreeTask). length x.point) (some_is (sym e ∙ tree_is.main_at)) ∙ ap length tree_is.main_point)
  nested top j (suc n) (suc u) seen one told l e w =
      let h = tree_is.created (suc u) one (omega arith) e in
      let child = tree_is.children h.number_is h.creator h.at_ h.place (suc u) h.is in
      let later = child.later in
      let o = told.all h.number_is h.place (suc u) h.creator h.at_ h.is (inl (below_top w later)) in
      let is = (told.each o.0 o.1).0 in
      let same = one_creator o.0.parent h.number_is is.place h.place (suc u) is.creator h.creator is.creator_is h.at_ (subst (λ (c : ℕ). slice_get is.creator.children is.place ≡ Some (number c)) o.2 is.is) h.is in
      let up = nested top j n h.number_is seen h.creator told (omega (arith, l, later)) h.at_ (inl (below_top w later)) in
      let point = ap (λ (x : TreeTask). length x.point) (some_is (sym e ∙ child.at_)) ∙ (ap length child.point ∙ length-append h.creator.point (h.place ∷ [])) in
      let long = up.2 in (
        suc up.0,
        subst (λ (c : ℕ). IsNested seen.opens c (suc up.0)) o.2 (opens.child o.0 up.0 o.1 (subst (λ (c : ℕ). IsNested seen.opens c up.0) (sym same) up.1)),
        omega (arith, point, long),
      )
    where
      below_top : {c : ℕ} → (suc u < top) ⊎ (suc u ≡ top) → c < suc u → c < top
      below_top (inl a) b = omega (arith, a, b)
      below_top (inr a) b = omega (arith, a, b)

  -- the next child may be told
  module _ (top j c : ℕ) (seen : Seen) (one : TreeTask) (told : IsTold tasks ts top j seen) (at_ : slice_get ts top ≡ Some one) (is : slice_get one.children j ≡ Some (number c))
      (accesses : List Access) (has : AreAccesses tasks c accesses) where
    abbrev next : Open
    next = record { task = c; parent = top; accesses = accesses }

    entry : IsEntry tasks ts next
    entry = record { creator = one; creator_is = at_; place = j; is = is; accesses = has }

    later : top < c
    later = (tree_is.children top one at_ j c is).later

    known : (n : ℕ) → n ≡ top → IsKnown seen.opens n
    known zero e = inl refl
    known (suc u) e =
        let w = task_within some.core top one at_ in
        let up : slice_get ts (suc u) ≡ Some one = ap (λ (i : ℕ). slice_get ts i) e ∙ at_ in
        let h = tree_is.created (suc u) one (omega arith) up in
        let before = (tree_is.children h.number_is h.creator h.at_ h.place (suc u) h.is).later in
        let o = told.all h.number_is h.place (suc u) h.creator h.at_ h.is (inl (omega (arith, e, before))) in
        inr (record { entry = o.0; listed = o.1; number = o.2 })

    fresh : IsOpened seen.opens c → ⊥
    fresh h =
        let e = told.each h.entry h.listed in
        let there = subst (λ (i : ℕ). slice_get e.0.creator.children e.0.place ≡ Some (number i)) h.number e.0.is in
        let u = one_creator h.entry.parent top e.0.place j c e.0.creator one e.0.creator_is at_ there is in
        let creator : e.0.creator ≡ one = some_is (sym e.0.creator_is ∙ (ap (λ (i : ℕ). slice_get ts i) u ∙ at_)) in
        let p = one_place top e.0.place j c one at_ (subst (λ (x : TreeTask). slice_get x.children e.0.place ≡ Some (number c)) creator there) is in
        first_of u p e.1
      where
        first_of : {u p : ℕ} → u ≡ top → p ≡ j → Comes top j u p → ⊥
        first_of u p (inl l) = omega (arith, u, l)
        first_of u p (inr l) = let m = l.1 in omega (arith, p, m)

    -- its accesses are covered by those of its creator
    covered : (cell : ℕ) → names cell next ≡ true → (top ≡ 0) ⊎ HasCover seen.opens cell next
    unfolding linked old_link entry
    covered cell n = go (old next entry) (known top refl)
      where
        above : (q : Open) → IsIn q seen.opens → q.task ≡ top → HasCover some.seen.opens cell (old next entry).entry → HasCover seen.opens cell next
        above q listed numbered cover =
            let l = linked next entry in
            let up = (told.each q listed).0 in
            let m = linked q up in
            let a = cover.above in
            let b = some.core.sound.tasks.linked a.entry a.listed in
            let creator_q : m.task ≡ l.creator = some_is (sym m.task_is ∙ (ap (λ (i : ℕ). slice_get some.core.bodies i) numbered ∙ l.creator_is)) in
            let creator_a : b.task ≡ l.creator = some_is (sym b.task_is ∙ (ap (λ (i : ℕ). slice_get some.core.bodies i) (a.number ∙ (old next entry).parent) ∙ l.creator_is)) in
            let rights_q = subst (λ (x : Body CodeScript). AreRightsOf q.accesses x.start.context) creator_q m.rights in
            let rights_a = subst (λ (x : Body CodeScript). AreRightsOf a.entry.accesses x.start.context) creator_a b.rights in
            let s = same_mode a.entry q l.creator.start.context cell rights_a rights_q a.named in
            let child = same_mode next (old next entry).entry l.task.start.context cell l.rights (old_link next entry).rights n in
            record {
              above = record { entry = q; listed = listed; number = numbered; named = s.0 };
              covered = ap (λ (x : Mode). covers x (mode_at cell next)) (sym s.1) ∙ (ap (λ (x : Mode). covers (mode_at cell a.entry) x) child.1 ∙ cover.covered);
            }

        go : (w : EntryOf some.core top j c) → IsKnown seen.opens top → (top ≡ 0) ⊎ HasCover seen.opens cell next
        go w (inl z) = inl z
        go w (inr h) =
            let l = linked next entry in
            let named = (same_mode next (old next entry).entry l.task.start.context cell l.rights (old_link next entry).rights n).0 in
            by_cover h (some.core.sound.tasks.opens_are.covered cell (old next entry).entry (old next entry).listed named)
          where
            by_cover : IsOpened seen.opens top → ((old next entry).entry.parent ≡ 0) ⊎ HasCover some.seen.opens cell (old next entry).entry → (top ≡ 0) ⊎ HasCover seen.opens cell next
            by_cover h (inl z) = inl (sym (old next entry).parent ∙ z)
            by_cover h (inr x) = inr (above h.entry h.listed h.number x)

    may : MayOpen seen.opens next
    may = record {
      not_main = λ (z : c ≡ 0). let l = later in absurd (omega (arith, z, l));
      fresh = fresh;
      parent = known top refl;
      covered = covered;
      once = rising_once accesses (opens_rising accesses has.rising);
    }

    pub may_tell : CanOpen seen next
    may_tell =
        let w = task_within some.core top one at_ in
        let d = nested top j (suc top) top seen one told (omega arith) at_ (inr refl) in
        let child = tree_is.children top one at_ j c is in
        let few = tree_is.shallow c child.task child.at_ in
        let long = ap length child.point ∙ length-append one.point (j ∷ []) in
        let deep = d.2 in
        record {
          not_main = may.not_main;
          fresh = fresh;
          parent = known top refl;
          shallow = (d.0, d.1, omega (arith, few, long, deep));
          rising = opens_rising accesses has.rising;
          covered = λ cell n. held cell (covered cell n);
        }
      where
        held : (cell : ℕ) → (top ≡ 0) ⊎ HasCover seen.opens cell next → (top ≡ 0) ⊎ HasHeldCover seen cell next
        held cell (inl z) = inl z
        held cell (inr x) = inr (record { cover = x; held = told.given top cell })

    -- and then it is told
    told_more : (new : Seen) → Opens next seen new → IsTold tasks ts top (suc j) new
    unfolding entry
    told_more new op = record {
      opens_are = subst (λ (os : List Open). AreOpens os) (sym op.opens) (opens_added seen.opens next told.opens_are may);
      each = λ o i. each o (in_added seen.opens next (subst (λ (os : List Open). IsIn o os) op.opens i));
      all = all;
      order = λ o q pr same e f. order o q (precedes_added seen.opens next (subst (λ (os : List Open). Precedes o q os) op.opens pr)) same e f;
      given = λ u x. op.given u x ∙ told.given u x;
    }
      where
        each : (o : Open) → IsIn o seen.opens ⊎ (o ≡ next) → (e : IsEntry tasks ts o) × Comes top (suc j) o.parent e.place
        each o (inl i) = let e = told.each o i in (e.0, wider e.1)
          where
            wider : {u p : ℕ} → Comes top j u p → Comes top (suc j) u p
            wider (inl l) = inl l
            wider (inr l) = let m = l.1 in inr (l.0, omega (arith, m))
        each o (inr same) = subst (λ (x : Open). (e : IsEntry tasks ts x) × Comes top (suc j) x.parent e.place) (sym same) (entry, inr (refl, omega arith))

        listed : (o : Open) → IsIn o seen.opens → IsIn o new.opens
        listed o i = subst (λ (os : List Open). IsIn o os) (sym op.opens) (in_front seen.opens (next ∷ []) i)

        all : (u place x : ℕ) (a : TreeTask) → slice_get ts u ≡ Some a → slice_get a.children place ≡ Some (number x) → Comes top (suc j) u place → (o : Open) × IsIn o new.opens × (o.task ≡ x)
        all u place x a e h (inl l) = let o = told.all u place x a e h (inl l) in (o.0, listed o.0 o.1, o.2)
        all u place x a e h (inr l) = go (below_or j place)
          where
            go : (place < j) ⊎ (j ≤ place) → (o : Open) × IsIn o new.opens × (o.task ≡ x)
            go (inl m) = let o = told.all u place x a e h (inr (l.0, m)) in (o.0, listed o.0 o.1, o.2)
            go (inr m) =
                let n = l.1 in
                let p : place ≡ j = omega (arith, m, n) in
                let b : a ≡ one = some_is (sym e ∙ (ap (λ (i : ℕ). slice_get ts i) l.0 ∙ at_)) in (
                  next,
                  subst (λ (os : List Open). IsIn next os) (sym op.opens) (in_last seen.opens next),
                  some_number (sym is ∙ (ap (λ (i : ℕ). slice_get one.children i) (sym p) ∙ (ap (λ (y : TreeTask). slice_get y.children place) (sym b) ∙ h))),
                )

        order : (o q : Open) → Precedes o q seen.opens ⊎ (IsIn o seen.opens × (q ≡ next)) → o.parent ≡ q.parent → (e : IsEntry tasks ts o) (f : IsEntry tasks ts q) → e.place < f.place
        order o q (inl pr) same e f = told.order o q pr same e f
        order o q (inr h) same e f =
            let x = told.each o h.0 in
            let parent : o.parent ≡ top = same ∙ ap (λ (y : Open). y.parent) h.1 in
            let place_f : f.place ≡ j = place_of_next h.1 f in
            let mine = place_same o e x.0 in
            before parent x.1 mine place_f
          where
            before : {u p a b : ℕ} → u ≡ top → Comes top j u p → a ≡ p → b ≡ j → a < b
            before z (inl l) y w = absurd (omega (arith, z, l))
            before z (inr l) y w = let m = l.1 in omega (arith, m, y, w)

            place_of_next : {q : Open} → q ≡ next → (f : IsEntry tasks ts q) → f.place ≡ j
            place_of_next {q = q} z f =
                let creator : f.creator ≡ one = some_is (sym f.creator_is ∙ (ap (λ (y : Open). slice_get ts y.parent) z ∙ at_)) in
                one_place top f.place j c one at_
                (subst (λ (y : TreeTask). slice_get y.children f.place ≡ Some (number c)) creator (f.is ∙ ap (λ (y : Open). Some (number y.task)) z)) is

    pub told_next : (new : Seen) → Opens next seen new → IsTold tasks ts top (j + 1) new
    told_next new op = subst (λ (n : ℕ). IsTold tasks ts top n new) (omega arith) (told_more new op)

  -- nothing is told at the start
  pub told_begin : (seen : Seen) → seen.opens ≡ [] → ((u c : ℕ) → seen.given u c ≡ false) → IsTold tasks ts 0 0 seen
  told_begin seen none given = record {
    opens_are = subst (λ (os : List Open). AreOpens os) (sym none) (record { ordered = opens.none; covered = λ c o i. elim i [ ]; rooted = λ o i. elim i [ ]; once = λ o i. elim i [ ] });
    each = λ o i. absurd (in_none (subst (λ (os : List Open). IsIn o os) none i));
    all = λ u place c one e h w. elim w [ inl l ↦ absurd (omega (arith, l)) | inr l ↦ (let m = l.1 in absurd (omega (arith, m))) ];
    order = λ o q pr same e f. absurd (in_none (subst (λ (os : List Open). IsIn o os) none (precedes_in pr)));
    given = given;
  }

  -- behind the last child of a task those of the next one are told
  told_past : (top j : ℕ) (seen : Seen) (one : TreeTask) → IsTold tasks ts top j seen → slice_get ts top ≡ Some one → length one.children ≤ j → IsTold tasks ts (suc top) 0 seen
  told_past top j seen one told at_ all_of = record {
    opens_are = told.opens_are;
    each = λ o i. let e = told.each o i in (e.0, wider e.1);
    all = λ u place c a e h w. told.all u place c a e h (back e h w);
    order = told.order;
    given = told.given;
  }
    where
      wider : {u p : ℕ} → Comes top j u p → Comes (suc top) 0 u p
      wider (inl l) = inl (omega (arith, l))
      wider (inr l) = let m = l.0 in inl (omega (arith, m))

      back : {u place c : ℕ} {a : TreeTask} → slice_get ts u ≡ Some a → slice_get a.children place ≡ Some (number c) → Comes (suc top) 0 u place → Comes top j u place
      back e h (inr l) = let m = l.1 in absurd (omega (arith, m))
      back {u = u} {place = place} {a = a} e h (inl l) = elim (below_or top u) [
        | inl m ↦ inl m
        | inr m ↦
            let z : u ≡ top = omega (arith, l, m) in
            let b : a ≡ one = some_is (sym e ∙ (ap (λ (i : ℕ). slice_get ts i) z ∙ at_)) in
            let few = slice_get_within a.children place (number _) h in
            let size = ap (λ (y : TreeTask). length y.children) b in
            inr (z, omega (arith, few, size, all_of))
      ]

  pub told_end : (top j : ℕ) (seen : Seen) (one : TreeTask) (children : List TaskNo) → one.children ≡ children → IsTold tasks ts top j seen → slice_get ts top ≡ Some one → length children ≤ j
      → IsTold tasks ts (top + 1) 0 seen
  told_end top j seen one children same told at_ all_of =
      let size = ap length same in
      subst (λ (n : ℕ). IsTold tasks ts n 0 seen) (omega arith) (told_past top j seen one told at_ (omega (arith, size, all_of)))

  -- a system that was told of all tasks has the entries of a core of the same state
  pub told_all : (seen : Seen) → IsTold tasks ts (length ts) 0 seen → (given : ℕ → ℕ → Bool) → ((u c : ℕ) → given u c ≡ some.seen.given u c)
      → AreSound (asks some.code) own (λ b. Unit {0}) some.core.bodies seen.opens given
  unfolding linked old_link
  told_all seen told given same = record {
    tasks = record {
      opens_are = told.opens_are;
      main = some.core.sound.tasks.main;
      linked = λ o i. linked o (told.each o i).0;
      opened = opened;
      one_number = some.core.sound.tasks.one_number;
      in_order = λ o q l m pr parents.
          let e = (told.each o (precedes_in pr)).0 in
          let f = (told.each q (precedes_in_last pr)).0 in
          let less = told.order o q pr parents e f in
          let a = child_is o e l in
          let b = child_is q f m in
          omega (arith, less, a, b);
    };
    of_code = some.core.sound.of_code;
    below = λ o i l.
        let e = (told.each o i).0 in
        let less = some.core.sound.below (old o e).entry (old o e).listed (old_link o e) in
        let a = child_is o e l in
        let b = linked_child o e in
        let creator : (old_link o e).creator ≡ l.creator = some_is (sym (linked o e).creator_is ∙ l.creator_is) in
        let made = ap (λ (x : Body CodeScript). created_now (asks some.code) x) creator in
        omega (arith, less, a, b, made);
    within = λ w x yes. some.core.sound.within w x (sym (same w x) ∙ yes);
  }
    where
      child_is : (o : Open) (e : IsEntry tasks ts o) (l : IsLinked own some.core.bodies o) → l.child ≡ e.place
      child_is o e l = head_is (sym l.path ∙ ap (λ (b : Body CodeScript). b.start.path) (some_is (sym l.task_is ∙ (linked o e).task_is)) ∙ (linked o e).path) ∙ linked_child o e

      opened : (v : ℕ) (b : Body CodeScript) → slice_get some.core.bodies v ≡ Some b → (v ≡ 0) ⊎ ((o : Open) × IsIn o seen.opens × (o.task ≡ v))
      opened zero b is = inl refl
      opened (suc v) b is =
          let x = at_number some.core (suc v) (body_within some.core (suc v) b is) in
          let h = tree_is.created (suc v) x.task (omega arith) x.task_at in
          inr (told.all h.number_is h.place (suc v) h.creator h.at_ h.is (inl (slice_get_within ts h.number_is h.creator h.at_)))

  -- the child at a place of a list of children, as a loop over them meets it
  pub child_at : (one : TreeTask) (children : List TaskNo) (i : ℕ) (d : TaskNo) → one.children ≡ children → i < length children → slice_get one.children i ≡ Some (number (slice_index_or children i d).0)
  child_at one children i d same l = ap (λ (xs : List TaskNo). slice_get xs i) same ∙ slice_get-get_or children i d l

  pub child_there : (top i : ℕ) (one : TreeTask) (children : List TaskNo) (d : TaskNo) → slice_get ts top ≡ Some one → one.children ≡ children → i < length children
      → (slice_index_or children i d).0 < length tasks
  child_there top i one children d at_ same l =
      let h = tree_is.children top one at_ i (slice_index_or children i d).0 (child_at one children i d same l) in
      task_within some.core (slice_index_or children i d).0 h.task h.at_
