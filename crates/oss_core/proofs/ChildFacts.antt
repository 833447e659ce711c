-- The children of a task in the tree are those that the entries of a dependency system name.
use Rattle.std.proofs.Common.{◌≡◌, ℕ, suc, ◌<◌, ◌+◌, ◌⊎◌, inl, inr, refl, sym, subst, ap, ◌∙◌, arith, List, [], ◌∷◌, ◌++◌, length, false, Some}
use Rattle.std.specs.Prelude.{slice_get}
use Rattle.std.proofs.lemmas.Option.{slice_get_within}
use Rattle.oss_model.specs.Order.{IsIn, written}
use Rattle.oss_model.specs.Bodies.{Body, Start}
use Rattle.oss_model.specs.Bodies.Act.{Awaited}
use Rattle.oss_model.specs.Machine.{State, Task, At}
use Rattle.oss_model.specs.Moves.{created_now}
use Rattle.oss_model.proofs.OrderLemmas.{reverse_cons}
use Rattle.oss_model.proofs.StageLemmas.{creating, creation_at}
use Rattle.oss_model.proofs.TreeLemmas.{at_same, starts_well}
use Rattle.oss_code.specs.declared.code.CodeParts.{CodeParts}
use Rattle.oss_machine.specs.Frames.{CodeScript}
use Rattle.oss_machine.specs.Machines.{asks}
use Rattle.oss_tree.specs.declared.task.Task.{Task as TreeTask}
use Rattle.oss_tree.specs.Tasks.{AreChildrenComplete, IsComplete, number}
use Rattle.oss_tree.proofs.TreeLemmas.{on_way, one_point}
use Rattle.oss_deps.specs.declared.opened.Open.{Open}
use Rattle.oss_enabled_moves.specs.Enabled.{IsNewestComplete}
use Rattle.oss_core.specs.Standing.{IsNumbered, IsLinked}
use Rattle.oss_core.specs.Telling.{ChildrenComplete, IsWaitTold}
use Rattle.oss_core.specs.Kept.{Kept, IsCore, own}
use Rattle.oss_core.proofs.KeepLemmas.{some_is}
use Rattle.oss_core.proofs.MatchLemmas.{entry_of, path_of, head_is, tail_is}
use Rattle.oss_core.proofs.TreeFacts.{at_place, at_number, body_within, task_within, core_made, path_of_point, point_of_path}

-- the point of a child is that of its creator, with the number of the child behind it
written_child : (j : ℕ) (p : List ℕ) → written (j ∷ p) ≡ written p ++ j ∷ []
written_child j p = ap (λ (z : List ℕ). 0 ∷ z) (reverse_cons j p)

module _ {code : CodeParts} {main : Start CodeScript} {first : List ℕ} {k : Kept} {s : State CodeScript} (core : IsCore code main first k s) where
  -- the links of one entry have one number as child
  pub link_child : (o : Open) (i : IsIn o k.seen.opens) (l : IsLinked own core.bodies o) → (core.sound.tasks.linked o i).child ≡ l.child
  link_child o i l =
      let m = core.sound.tasks.linked o i in
      head_is (sym m.path ∙ ap (λ (b : Body CodeScript). b.start.path) (some_is (sym m.task_is ∙ l.task_is)) ∙ l.path)

  -- a child in the tree at the place that its link tells
  pub child_of_link : (o : Open) (l : IsLinked own core.bodies o) (one : TreeTask) → slice_get k.tree.tasks o.parent ≡ Some one → slice_get one.children l.child ≡ Some (number o.task)
  child_of_link o l one e =
      let c = at_number core o.task (body_within core o.task l.task l.task_is) in
      let x = at_number core o.parent (body_within core o.parent l.creator l.creator_is) in
      let creator : x.body ≡ l.creator = some_is (sym x.body_at ∙ l.creator_is) in
      let above : one.point ≡ written l.creator.start.path = ap (λ (t : TreeTask). t.point) (some_is (sym e ∙ x.task_at)) ∙ x.is_known.point ∙ ap (λ (b : Body CodeScript). written b.start.path) creator in
      let point : c.task.point ≡ one.point ++ l.child ∷ []
      = c.is_known.point ∙ ap (λ (b : Body CodeScript). written b.start.path) (some_is (sym c.body_at ∙ l.task_is)) ∙ ap written l.path ∙ written_child l.child l.creator.start.path ∙ ap (λ (z : List ℕ). z ++ l.child ∷ []) (sym above) in
      let way = on_way core.known.tree_is (o.task + 1) o.task c.task o.parent one l.child [] (omega arith) c.task_at e point in
      let h = core.known.tree_is.children o.parent one e l.child way.0 way.1 in
      way.1 ∙ ap (λ (n : ℕ). Some (number n)) (one_point core.known.tree_is way.0 o.task h.task c.task h.at_ c.task_at (h.point ∙ sym point))

  -- the entry of a child in the tree
  pub record EntryOf (v j c : ℕ) : Type 0 where
    pub entry : Open
    pub listed : IsIn entry k.seen.opens
    pub task_is : entry.task ≡ c
    pub parent : entry.parent ≡ v
    pub child : (core.sound.tasks.linked entry listed).child ≡ j
    pub path : List ℕ
    pub creator_is : IsNumbered own core.bodies v path
    pub child_is : IsNumbered own core.bodies c (j ∷ path)

  -- each child in the tree has an entry
  pub entry_of_child : (v : ℕ) (one : TreeTask) (j c : ℕ) → slice_get k.tree.tasks v ≡ Some one → slice_get one.children j ≡ Some (number c) → EntryOf v j c
  entry_of_child v one j c e f =
      let h = core.known.tree_is.children v one e j c f in
      let x = at_number core v (task_within core v one e) in
      let p = x.body.start.path in
      let creator : IsNumbered own core.bodies v p = record { one = x.body; is = x.body_at; path = refl } in
      let above : one.point ≡ written p = ap (λ (t : TreeTask). t.point) (some_is (sym e ∙ x.task_at)) ∙ x.is_known.point in
      let has = path_of_point core c (j ∷ p) (record { task = h.task; at_ = h.at_; point = h.point ∙ ap (λ (z : List ℕ). z ++ j ∷ []) above ∙ sym (written_child j p) }) in
      let o = entry_of own core.bodies k.seen.opens k.seen.given k.cells s core.sound.tasks core.stands 0 j p c has in
      let l = core.sound.tasks.linked o.0 o.1 in
      let g = path_of own core.bodies k.seen.opens k.seen.given k.cells s core.sound.tasks core.stands 0 (j ∷ p) c has o.0 l o.2 in
      record {
        entry = o.0;
        listed = o.1;
        task_is = o.2;
        parent = core.sound.tasks.one_number o.0.parent v l.creator x.body l.creator_is x.body_at (sym (tail_is g));
        child = sym (head_is g);
        path = p;
        creator_is = creator;
        child_is = has;
      }

  -- all children in the tree are complete: so are those of the entries
  pub children_told : (v : ℕ) → AreChildrenComplete k.tree.tasks v → ChildrenComplete (asks code) own core.bodies k.seen.opens k.seen.given (IsComplete k.tree.tasks) v
  children_told v f o i e =
      let l = core.sound.tasks.linked o i in
      let x = at_number core o.parent (body_within core o.parent l.creator l.creator_is) in
      f x.task (ap (λ (w : ℕ). slice_get k.tree.tasks w) (sym e) ∙ x.task_at) l.child o.task (child_of_link o l x.task x.task_at)

  -- and the other way
  pub children_tell : (v : ℕ) → ChildrenComplete (asks code) own core.bodies k.seen.opens k.seen.given (IsComplete k.tree.tasks) v → AreChildrenComplete k.tree.tasks v
  children_tell v f one e j c g = let x = entry_of_child v one j c e g in subst (IsComplete k.tree.tasks) x.task_is (f x.entry x.listed x.parent)

  -- a task has no more children in the tree than its body has created
  pub children_few : (v : ℕ) (b : Body CodeScript) (one : TreeTask) → slice_get core.bodies v ≡ Some b → slice_get k.tree.tasks v ≡ Some one → (j : ℕ) → j < length one.children → j < created_now (asks code) b
  children_few v b one e f j l =
      let c = at_place one.children j l in
      let x = entry_of_child v one j c.0.0 f c.1 in
      let m = core.sound.tasks.linked x.entry x.listed in
      let n = core.sound.below x.entry x.listed m in
      let a : m.creator ≡ b = some_is (sym m.creator_is ∙ ap (λ (w : ℕ). slice_get core.bodies w) x.parent ∙ e) in
      let d = ap (λ (y : Body CodeScript). created_now (asks code) y) a in
      let g = x.child in
      omega (arith, n, d, g)

  -- a child of the state stands in the tree
  pub child_in_tree : (v : ℕ) (p : List ℕ) (one : TreeTask) (i : ℕ) (u : Task CodeScript) → IsNumbered own core.bodies v p → slice_get k.tree.tasks v ≡ Some one → At s (i ∷ p) u → i < length one.children
  child_in_tree v p one i u has f a =
      let h = point_of_path core v p has in
      let w = core.stands.back (i ∷ p) u a in
      let c = point_of_path core w.0 (i ∷ p) w.1 in
      let above : one.point ≡ written p = ap (λ (t : TreeTask). t.point) (some_is (sym f ∙ h.at_)) ∙ h.point in
      let point : c.task.point ≡ one.point ++ i ∷ [] = c.point ∙ written_child i p ∙ ap (λ (z : List ℕ). z ++ i ∷ []) (sym above) in
      let way = on_way core.known.tree_is (w.0 + 1) w.0 c.task v one i [] (omega arith) c.at_ f point in
      slice_get_within one.children i (number way.0) way.1

  -- a task of the state that has a child is not final
  pub creator_open : (p : List ℕ) (t u : Task CodeScript) (j : ℕ) → At s p t → At s (j ∷ p) u → t.body.start.context.final ≡ false
  creator_open p t u j a b =
      let by = (core_made core).child j p u b in
      ap (λ (y : Task CodeScript). y.body.start.context.final) (at_same s p t by.creator a by.at_) ∙ (creating (asks code) by.creator.body.start by.past by.order by.act).open_

  -- each task that one which is not final has created is in the state
  pub created_there : (p : List ℕ) (t : Task CodeScript) (i : ℕ) → At s p t → t.body.start.context.final ≡ false → i < created_now (asks code) t.body → (u : Task CodeScript) × At s (i ∷ p) u
  created_there p t i a open_ l =
      let zero_ = (starts_well (asks code) main s core.setting.starts (core_made core) p t a).1 in
      let n = creation_at (asks code) t.body.start t.body.found i open_ zero_ l in
      let m = (core_made core).made p t n.past n.answer n.order a n.happened n.act in
      (m.0, subst (λ (z : ℕ). At s (z ∷ p) m.0) n.number m.1)

  -- where a task has a child in the tree, it has each that its body has created
  pub children_all : (v : ℕ) (b : Body CodeScript) (one : TreeTask) → slice_get core.bodies v ≡ Some b → slice_get k.tree.tasks v ≡ Some one → (j c : ℕ) → slice_get one.children j ≡ Some (number c)
      → (i : ℕ) → i < created_now (asks code) b → i < length one.children
  children_all v b one e f j c g i l =
      let x = entry_of_child v one j c f g in
      let r = core.stands.there v b e in
      let same : x.path ≡ b.start.path = sym x.creator_is.path ∙ ap (λ (y : Body CodeScript). y.start.path) (some_is (sym x.creator_is.is ∙ e)) in
      let u = core.stands.there c x.child_is.one x.child_is.is in
      let below : At s (j ∷ b.start.path) u.0 = subst (λ (q : List ℕ). At s q u.0) (x.child_is.path ∙ ap (λ (q : List ℕ). j ∷ q) same) u.1 in
      let open_ = creator_open b.start.path r.0 u.0 j r.1 below in
      let m = created_there b.start.path r.0 i r.1 open_ (subst (λ (y : Body CodeScript). i < created_now (asks code) y) (sym r.2) l) in
      child_in_tree v b.start.path one i m.0 (record { one = b; is = e; path = refl }) f m.1

  -- the newest child in the tree is complete: so is that which an await waits for
  pub newest_told : (v : ℕ) (b : Body CodeScript) → slice_get core.bodies v ≡ Some b → IsNewestComplete k.tree.tasks v → IsWaitTold (asks code) own core.bodies k.seen.opens k.seen.given (IsComplete k.tree.tasks) v b Awaited
  newest_told v b e f o i parent l n =
      let x = at_number core v (body_within core v b e) in
      let here = child_of_link o l x.task (ap (λ (w : ℕ). slice_get k.tree.tasks w) parent ∙ x.task_at) in
      let within = slice_get_within x.task.children l.child (number o.task) here in
      f x.task x.task_at l.child o.task (newest x.task x.task_at l.child n within) here
    where
      newest : (one : TreeTask) → slice_get k.tree.tasks v ≡ Some one → (j : ℕ) → j + 1 ≡ created_now (asks code) b → j < length one.children → suc j ≡ length one.children
      newest one g j n l = go (cases (suc j) (length one.children))
        where
          cases : (a c : ℕ) → (a ≡ c) ⊎ (a < c) ⊎ (c < a)
          cases a c = grind arith

          go : (suc j ≡ length one.children) ⊎ (suc j < length one.children) ⊎ (length one.children < suc j) → suc j ≡ length one.children
          go (inl q) = q
          go (inr (inl q)) = let m = children_few v b one e g (suc j) q in absurd (omega (arith, m, n))
          go (inr (inr q)) = absurd (omega (arith, q, l))

  -- and the other way
  pub newest_tells : (v : ℕ) (b : Body CodeScript) → slice_get core.bodies v ≡ Some b → IsWaitTold (asks code) own core.bodies k.seen.opens k.seen.given (IsComplete k.tree.tasks) v b Awaited → IsNewestComplete k.tree.tasks v
  newest_tells v b e f one g j c n here =
      let x = entry_of_child v one j c g here in
      let less = children_few v b one e g j (omega (arith, n)) in
      subst (IsComplete k.tree.tasks) x.task_is (f x.entry x.listed x.parent (core.sound.tasks.linked x.entry x.listed) (ap (λ (z : ℕ). z + 1) x.child ∙ last less (cases (j + 1) (created_now (asks code) b))))
    where
      cases : (a c : ℕ) → (a ≡ c) ⊎ (a < c) ⊎ (c < a)
      cases a c = grind arith

      last : j < created_now (asks code) b → (j + 1 ≡ created_now (asks code) b) ⊎ (j + 1 < created_now (asks code) b) ⊎ (created_now (asks code) b < j + 1) → j + 1 ≡ created_now (asks code) b
      last l (inl q) = q
      last l (inr (inl q)) = let m = children_all v b one e g j c here (j + 1) q in absurd (omega (arith, m, n))
      last l (inr (inr q)) = absurd (omega (arith, q, l))
