-- A creation: the dependency system opens the new task, and the core stands for the state after the act.
use Rattle.std.proofs.Common.{◌≡◌, ◌≢◌, ℕ, ◌<◌, ◌+◌, refl, sym, subst, ap, ◌∙◌, List, [], ◌∷◌, ◌++◌, ◌⊎◌, inl, inr, Bool, true, false, arith, Option, Some, None, ◌↔◌}
use Rattle.std.specs.Prelude.{slice_get}
use Rattle.oss_model.specs.Order.{IsIn, here, there}
use Rattle.oss_model.specs.Bodies.{Order, Program, Start, Body, IsHalt}
use Rattle.oss_model.specs.Bodies.Act.{Created}
use Rattle.oss_model.specs.Machine.{Task, State, At, find}
use Rattle.oss_model.specs.Moves.{act_now, created_now, found_by, cells_after, after_answer, new_task, TaskStep, Stepped}
use Rattle.oss_model.proofs.TreeLemmas.{at_same, path_found}
use Rattle.oss_model.proofs.MoveLemmas.{which_path}
use Rattle.oss_model.proofs.RunLemmas.{Next, next}
use Rattle.oss_model.proofs.StageLemmas.{creation_counts}
use Rattle.oss_deps.specs.declared.opened.Open.{Open}
use Rattle.oss_deps.specs.Opens.{Precedes, first, later}
use Rattle.oss_core.specs.Below.{MayOpen}
use Rattle.oss_core.proofs.EntryLemmas.{opens_added, in_added, in_last, in_front}
use Rattle.oss_core.proofs.EntryLemmas.{precedes_in, precedes_in_last}
use Rattle.oss_core.specs.Moving.{Grown}
use Rattle.oss_core.specs.Standing.{AreRightsOf, IsNumbered, IsLinked, AreTasks, StandsFor}
use Rattle.oss_core.proofs.MatchLemmas.{head_is, tail_is}
use Rattle.oss_core.proofs.KeepLemmas.{some_is, which, HaveStarts, link_over, TaskOf, own_body, own_given, other_path}

precedes_added : {A : Type 0} {x y : A} (xs : List A) (z : A) → Precedes x y (xs ++ z ∷ []) → Precedes x y xs ⊎ (IsIn x xs × (y ≡ z))
precedes_added [] z (first i) = elim i [ ]
precedes_added [] z (later h) = elim h [ ]
precedes_added {A = A} {y = y} (w ∷ xs) z (first i) = go (in_added xs z i)
  where
    go : {w : A} → IsIn y xs ⊎ (y ≡ z) → Precedes w y (w ∷ xs) ⊎ (IsIn w (w ∷ xs) × (y ≡ z))
    go (inl j) = inl (first j)
    go (inr e) = inr (here, e)
precedes_added {A = A} {x = x} {y = y} (w ∷ xs) z (later h) = go (precedes_added xs z h)
  where
    go : {w : A} → Precedes x y xs ⊎ (IsIn x xs × (y ≡ z)) → Precedes x y (w ∷ xs) ⊎ (IsIn x (w ∷ xs) × (y ≡ z))
    go (inl k) = inl (later k)
    go (inr (i, e)) = inr (there i, e)

pub none_some : {A : Type 0} {o : Option A} {a : A} → o ≡ None → o ≡ Some a → ⊥
none_some e f = cc

module _ {S B : Type 0} (P : Program S) (body : B → Body S) (bodies more : List B) (list : List Open) (given : ℕ → ℕ → Bool) (cells : List ℕ) (s : State S)
    (tasks : AreTasks body bodies list) (stands : StandsFor body bodies given cells s) (v : ℕ) (p : List ℕ) (t : Task S) (own : TaskOf body bodies s v p t)
    (below : (o : Open) → IsIn o list → (l : IsLinked body bodies o) → l.child < created_now P (body l.creator))
    (b child : B) (m : ℕ) (grown : Grown bodies more v b m child) (order : Order S) (act_is : act_now P t.body ≡ Created order false)
    (next_is : body b ≡ (after_answer (found_by (act_now P t.body) s.cells) t).body) (child_is : body child ≡ (new_task P t.body order).body)
    (entry : Open) (task_is : entry.task ≡ m) (parent_is : entry.parent ≡ v) (rights : AreRightsOf entry.accesses (body child).start.context) (can : MayOpen list entry)
    (free : (k : ℕ) → given m k ≡ true → ⊥) where
  pub goes : IsHalt (act_now P t.body) → ⊥
  goes h = subst IsHalt act_is h

  start_same : (body b).start ≡ (body own.has.one).start
  start_same = ap (λ (x : Body S). x.start) next_is ∙ ap (λ (x : Body S). x.start) (own_body P body bodies more list given cells s tasks stands v p t own)

  path_same : (body b).start.path ≡ p
  path_same = ap (λ (x : Start S). x.path) start_same ∙ own.has.path

  not_new : (w : ℕ) (a : B) → slice_get bodies w ≡ Some a → w ≡ m → ⊥
  not_new w a h e = none_some grown.fresh (ap (λ (z : ℕ). slice_get bodies z) (sym e) ∙ h)

  forth : HaveStarts body bodies more
  forth w x h = go (which w v)
    where
      go : (w ≡ v) ⊎ (w ≡ v → ⊥) → (y : B) × (slice_get more w ≡ Some y) × ((body y).start ≡ (body x).start)
      go (inl k) = (b, ap (λ (z : ℕ). slice_get more z) k ∙ grown.now, start_same ∙ ap (λ (z : B). (body z).start) (some_is (sym own.has.is ∙ ap (λ (z : ℕ). slice_get bodies z) (sym k) ∙ h)))
      go (inr n) = (x, grown.others w n (not_new w x h) ∙ h, refl)

  back : (w : ℕ) (x : B) → slice_get more w ≡ Some x → (w ≡ m → ⊥) → (y : B) × (slice_get bodies w ≡ Some y) × ((body y).start ≡ (body x).start)
  back w x h ne = go (which w v)
    where
      go : (w ≡ v) ⊎ (w ≡ v → ⊥) → (y : B) × (slice_get bodies w ≡ Some y) × ((body y).start ≡ (body x).start)
      go (inl k) = (own.has.one, ap (λ (z : ℕ). slice_get bodies z) k ∙ own.has.is, sym start_same ∙ ap (λ (z : B). (body z).start) (some_is (sym grown.now ∙ ap (λ (z : ℕ). slice_get more z) (sym k) ∙ h)))
      go (inr n) = (x, sym (grown.others w n ne) ∙ h, refl)

  abbrev pub x : Next P (record { state = s; active = p; printed = [] }) t
  x = next P (record { state = s; active = p; printed = [] }) t own.at_ goes

  -- the path of the new task
  new_path : (body child).start.path ≡ created_now P t.body ∷ p
  new_path = ap (λ (z : Body S). z.start.path) child_is ∙ path_found x.stage.state.tasks (created_now P t.body ∷ p) (new_task P t.body order) (x.made order act_is)

  -- no task of the state has it
  path_fresh : (w : ℕ) (a : B) → slice_get bodies w ≡ Some a → (body a).start.path ≢ created_now P t.body ∷ p
  path_fresh w a h e = go (tasks.opened w a h)
    where
      go : (w ≡ 0) ⊎ ((o : Open) × IsIn o list × (o.task ≡ w)) → ⊥
      go (inl z) =
          let f : tasks.main.one ≡ a = some_is (sym tasks.main.is ∙ ap (λ (i : ℕ). slice_get bodies i) (sym z) ∙ h) in
          let g : [] ≡ created_now P t.body ∷ p = sym tasks.main.path ∙ ap (λ (i : B). (body i).start.path) f ∙ e in
          absurd cc
      go (inr (o, i, k)) =
          let l = tasks.linked o i in
          let f : l.task ≡ a = some_is (sym l.task_is ∙ ap (λ (j : ℕ). slice_get bodies j) k ∙ h) in
          let g : l.child ∷ (body l.creator).start.path ≡ created_now P t.body ∷ p = sym l.path ∙ ap (λ (j : B). (body j).start.path) f ∙ e in
          let u : o.parent ≡ v = tasks.one_number o.parent v l.creator own.has.one l.creator_is own.has.is (tail_is g ∙ sym own.has.path) in
          let c : l.creator ≡ own.has.one = some_is (sym l.creator_is ∙ ap (λ (j : ℕ). slice_get bodies j) u ∙ own.has.is) in
          let n = below o i l in
          let d : created_now P (body l.creator) ≡ created_now P t.body = ap (λ (j : B). created_now P (body j)) c ∙ ap (λ (z : Body S). created_now P z) (sym (own_body P body bodies more list given cells s tasks stands v p t own)) in
          let q = head_is g in
          omega (arith, n, d, q)

  -- the entry of the new task is linked
  new_link : IsLinked body more entry
  new_link = record {
    task = child;
    creator = b;
    task_is = ap (λ (z : ℕ). slice_get more z) task_is ∙ grown.new;
    creator_is = ap (λ (z : ℕ). slice_get more z) parent_is ∙ grown.now;
    child = created_now P t.body;
    path = new_path ∙ ap (λ (q : List ℕ). created_now P t.body ∷ q) (sym path_same);
    rights = rights;
  }

  -- links of the old entries have the old numbers as children
  child_same : (o : Open) (i : IsIn o list) (l : IsLinked body more o) → (l.child ≡ (tasks.linked o i).child) × ((body l.creator).start ≡ (body (tasks.linked o i).creator).start)
  child_same o i l =
      let k = tasks.linked o i in
      let tk = forth o.task k.task k.task_is in
      let cr = forth o.parent k.creator k.creator_is in
      let e : tk.0 ≡ l.task = some_is (sym tk.1 ∙ l.task_is) in
      let f : cr.0 ≡ l.creator = some_is (sym cr.1 ∙ l.creator_is) in
      let g : l.child ∷ (body l.creator).start.path ≡ k.child ∷ (body k.creator).start.path
      = sym l.path ∙ ap (λ (z : B). (body z).start.path) (sym e) ∙ ap (λ (z : Start S). z.path) tk.2 ∙ k.path in
      (head_is g, ap (λ (z : B). (body z).start) (sym f) ∙ cr.2)

  new_child : (l : IsLinked body more entry) → l.child ≡ created_now P t.body
  new_child l =
      let e : l.task ≡ child = some_is (sym l.task_is ∙ ap (λ (z : ℕ). slice_get more z) task_is ∙ grown.new) in
      head_is (sym l.path ∙ ap (λ (z : B). (body z).start.path) e ∙ new_path)

  linked_all : (o : Open) → IsIn o list ⊎ (o ≡ entry) → IsLinked body more o
  linked_all o (inl i) = link_over body bodies more forth o (tasks.linked o i)
  linked_all o (inr e) = subst (λ (q : Open). IsLinked body more q) (sym e) new_link

  opened_all : (w : ℕ) (a : B) → slice_get more w ≡ Some a → (w ≡ m) ⊎ (w ≡ m → ⊥) → (w ≡ 0) ⊎ ((o : Open) × IsIn o (list ++ entry ∷ []) × (o.task ≡ w))
  opened_all w a h (inl e) = inr (entry, in_last list entry, task_is ∙ sym e)
  opened_all w a h (inr ne) = let r = back w a h ne in go (tasks.opened w r.0 r.1)
    where
      go : (w ≡ 0) ⊎ ((o : Open) × IsIn o list × (o.task ≡ w)) → (w ≡ 0) ⊎ ((o : Open) × IsIn o (list ++ entry ∷ []) × (o.task ≡ w))
      go (inl z) = inl z
      go (inr (o, i, k)) = inr (o, in_front list (entry ∷ []) i, k)

  one_number_all : (w u : ℕ) (a d : B) → slice_get more w ≡ Some a → slice_get more u ≡ Some d → (body a).start.path ≡ (body d).start.path → (w ≡ m) ⊎ (w ≡ m → ⊥) → (u ≡ m) ⊎ (u ≡ m → ⊥) → w ≡ u
  one_number_all w u a d h k e (inl i) (inl j) = i ∙ sym j
  one_number_all w u a d h k e (inl i) (inr j) =
      let r = back u d k j in
      let f : a ≡ child = some_is (sym h ∙ ap (λ (z : ℕ). slice_get more z) i ∙ grown.new) in
      absurd (path_fresh u r.0 r.1 (ap (λ (z : Start S). z.path) r.2 ∙ sym e ∙ ap (λ (z : B). (body z).start.path) f ∙ new_path))
  one_number_all w u a d h k e (inr i) (inl j) =
      let r = back w a h i in
      let f : d ≡ child = some_is (sym k ∙ ap (λ (z : ℕ). slice_get more z) j ∙ grown.new) in
      absurd (path_fresh w r.0 r.1 (ap (λ (z : Start S). z.path) r.2 ∙ e ∙ ap (λ (z : B). (body z).start.path) f ∙ new_path))
  one_number_all w u a d h k e (inr i) (inr j) =
      let r = back w a h i in
      let q = back u d k j in
      tasks.one_number w u r.0 q.0 r.1 q.1 (ap (λ (z : Start S). z.path) r.2 ∙ e ∙ ap (λ (z : Start S). z.path) (sym q.2))

  in_order_all : (o q : Open) (l : IsLinked body more o) (k : IsLinked body more q) → o.parent ≡ q.parent → Precedes o q list ⊎ (IsIn o list × (q ≡ entry)) → l.child < k.child
  in_order_all o q l k e (inl h) =
      let i = precedes_in h in
      let j = precedes_in_last h in
      let n = tasks.in_order o q (tasks.linked o i) (tasks.linked q j) h e in
      let a = (child_same o i l).0 in
      let c = (child_same q j k).0 in
      omega (arith, n, a, c)
  in_order_all o q l k e (inr (i, f)) =
      let a = (child_same o i l).0 in
      let z = tasks.linked o i in
      let n = below o i z in
      let c : k.child ≡ created_now P t.body = head_is (sym k.path ∙ ap (λ (y : B). (body y).start.path) (some_is (sym k.task_is ∙ ap (λ (y : Open). slice_get more y.task) f ∙ ap (λ (y : ℕ). slice_get more y) task_is ∙ grown.new)) ∙ new_path) in
      let cr : z.creator ≡ own.has.one = some_is (sym z.creator_is ∙ ap (λ (y : ℕ). slice_get bodies y) (e ∙ ap (λ (y : Open). y.parent) f ∙ parent_is) ∙ own.has.is) in
      let d : created_now P (body z.creator) ≡ created_now P t.body = ap (λ (y : B). created_now P (body y)) cr ∙ ap (λ (y : Body S). created_now P y) (sym (own_body P body bodies more list given cells s tasks stands v p t own)) in
      omega (arith, n, a, c, d)

  pub tasks_grow : AreTasks body more (list ++ entry ∷ [])
  tasks_grow = record {
    opens_are = opens_added list entry tasks.opens_are can;
    main = let r = forth 0 tasks.main.one tasks.main.is in record { one = r.0; is = r.1; path = ap (λ (z : Start S). z.path) r.2 ∙ tasks.main.path };
    linked = λ o i. linked_all o (in_added list entry i);
    opened = λ w a h. opened_all w a h (which w m);
    one_number = λ w u a d h k e. one_number_all w u a d h k e (which w m) (which u m);
    in_order = λ o q l k h e. in_order_all o q l k e (precedes_added list entry h);
  }

  counts_more : created_now P (body b) ≡ created_now P t.body + 1
  counts_more = ap (λ (z : Body S). created_now P z) next_is ∙ creation_counts P t.body.start (found_by (act_now P t.body) s.cells) t.body.found order act_is

  pub below_all : (o : Open) (l : IsLinked body more o) → IsIn o list ⊎ (o ≡ entry) → l.child < created_now P (body l.creator)
  below_all o l (inl i) = go (which o.parent v)
    where
      z : IsLinked body bodies o
      z = tasks.linked o i

      go : (o.parent ≡ v) ⊎ (o.parent ≡ v → ⊥) → l.child < created_now P (body l.creator)
      go (inl e) =
          let cr : z.creator ≡ own.has.one = some_is (sym z.creator_is ∙ ap (λ (y : ℕ). slice_get bodies y) e ∙ own.has.is) in
          let d : created_now P (body z.creator) ≡ created_now P t.body = ap (λ (y : B). created_now P (body y)) cr ∙ ap (λ (y : Body S). created_now P y) (sym (own_body P body bodies more list given cells s tasks stands v p t own)) in
          let c : created_now P (body l.creator) ≡ created_now P (body b) = ap (λ (y : B). created_now P (body y)) (some_is (sym l.creator_is ∙ ap (λ (y : ℕ). slice_get more y) e ∙ grown.now)) in
          let a = (child_same o i l).0 in
          let n = below o i z in
          let k = counts_more in
          omega (arith, n, a, c, d, k)
      go (inr ne) =
          let c : l.creator ≡ z.creator = some_is (sym l.creator_is ∙ (grown.others o.parent ne (not_new o.parent z.creator z.creator_is) ∙ z.creator_is)) in
          let a = (child_same o i l).0 in
          let n = below o i z in
          let d : created_now P (body l.creator) ≡ created_now P (body z.creator) = ap (λ (y : B). created_now P (body y)) c in
          omega (arith, n, a, d)
  below_all o l (inr e) =
      let c : l.child ≡ created_now P t.body = head_is (sym l.path ∙ ap (λ (y : B). (body y).start.path) (some_is (sym l.task_is ∙ ap (λ (y : Open). slice_get more y.task) e ∙ ap (λ (y : ℕ). slice_get more y) task_is ∙ grown.new)) ∙ new_path) in
      let cr : created_now P (body l.creator) ≡ created_now P (body b) = ap (λ (y : B). created_now P (body y)) (some_is (sym l.creator_is ∙ ap (λ (y : Open). slice_get more y.parent) e ∙ ap (λ (y : ℕ). slice_get more y) parent_is ∙ grown.now)) in
      let k = counts_more in
      omega (arith, c, cr, k)

  -- the state after the creation
  abbrev pub now : State S
  now = record { cells = cells_after (act_now P t.body) s.cells; tasks = x.stage.state.tasks }

  pub steps : Stepped P s p t now
  steps =
      let same : x.runs.task ≡ t = at_same s p x.runs.task t x.runs.at_ own.at_ in
      let k = subst (λ (u : Task S). TaskStep P s p u (found_by (act_now P u.body) s.cells) x.stage.state) same x.runs.tasks in
      record { cells = refl; tasks = record { own = k.own; made = k.made; others = k.others } }

  stays : (q : List ℕ) → q ≢ p → q ≢ created_now P t.body ∷ p → find now.tasks q ≡ find s.tasks q
  stays q ne nf = steps.tasks.others q ne (λ o a. nf)

  there_all : (w : ℕ) (y : B) → slice_get more w ≡ Some y → (w ≡ v) ⊎ (w ≡ v → ⊥) → (w ≡ m) ⊎ (w ≡ m → ⊥) → (u : Task S) × At now (body y).start.path u × (u.body ≡ body y) × ((c : ℕ) → (IsIn c u.given ↔ given w c ≡ true))
  there_all w y h (inl q) r =
      let f : b ≡ y = some_is (sym grown.now ∙ ap (λ (i : ℕ). slice_get more i) (sym q) ∙ h) in (
        after_answer (found_by (act_now P t.body) s.cells) t,
        subst (λ (r : List ℕ). At now r (after_answer (found_by (act_now P t.body) s.cells) t)) (sym path_same ∙ ap (λ (i : B). (body i).start.path) f) steps.tasks.own,
        sym next_is ∙ ap body f,
        λ c. subst (λ (i : ℕ). IsIn c t.given ↔ given i c ≡ true) (sym q) (own_given P body bodies more list given cells s tasks stands v p t own c),
      )
  there_all w y h (inr n) (inl q) =
      let f : child ≡ y = some_is (sym grown.new ∙ ap (λ (i : ℕ). slice_get more i) (sym q) ∙ h) in (
        new_task P t.body order,
        subst (λ (r : List ℕ). At now r (new_task P t.body order)) (sym new_path ∙ ap (λ (i : B). (body i).start.path) f) (steps.tasks.made order act_is),
        sym child_is ∙ ap body f,
        λ c. (λ i. elim i [ ], λ g. absurd (free c (ap (λ (i : ℕ). given i c) (sym q) ∙ g))),
      )
  there_all w y h (inr n) (inr q) =
      let i = sym (grown.others w n q) ∙ h in
      let r = stands.there w y i in
      (r.0, stays (body y).start.path (other_path P body bodies more list given cells s tasks stands v p t own w y i n) (path_fresh w y i) ∙ r.1, r.2, r.3)

  back_all : (q : List ℕ) (u : Task S) → At now q u → (q ≡ p) ⊎ (q ≢ p) → (q ≡ created_now P t.body ∷ p) ⊎ (q ≢ created_now P t.body ∷ p) → (w : ℕ) × IsNumbered body more w q
  back_all q u h (inl e) r = (v, record { one = b; is = grown.now; path = path_same ∙ sym e })
  back_all q u h (inr n) (inl e) = (m, record { one = child; is = grown.new; path = new_path ∙ sym e })
  back_all q u h (inr n) (inr f) =
      let r = stands.back q u (sym (stays q n f) ∙ h) in
      let g = forth r.0 r.1.one r.1.is in
      (r.0, record { one = g.0; is = g.1; path = ap (λ (z : Start S). z.path) g.2 ∙ r.1.path })

  pub stands_grow : StandsFor body more given (cells_after (act_now P t.body) cells) now
  stands_grow = record {
    cells_are = ap (λ (cs : List ℕ). cells_after (act_now P t.body) cs) stands.cells_are;
    there = λ w y h. there_all w y h (which w v) (which w m);
    back = λ q u h. back_all q u h (which_path q p) (which_path q (created_now P t.body ∷ p));
  }
