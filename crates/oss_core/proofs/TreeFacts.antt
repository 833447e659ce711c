-- What stands under one number in a core: a body of the definitions, what is kept of it, and its task in the tree, which is a tree of the state.
use Rattle.std.proofs.Common.{◌≡◌, ℕ, ◌<◌, ◌≤◌, ◌⊎◌, inl, inr, sym, subst, ap, ◌∙◌, arith, List, [], ◌∷◌, length, Some, None, ◌↔◌, get_or}
use Rattle.std.specs.Prelude.{slice_get}
use Rattle.std.proofs.lemmas.Option.{slice_get_within, slice_get_cases}
use Rattle.oss_model.specs.Order.{written}
use Rattle.oss_model.specs.Bodies.{Body, Start}
use Rattle.oss_model.specs.Machine as machine
use Rattle.oss_model.specs.Machine.{State, Task, At, Owes}
use Rattle.oss_model.specs.History.{IsMade, IsStarted}
use Rattle.oss_model.specs.Moves.{is_ended, opening}
use Rattle.oss_model.specs.Sequence.{Sequential}
use Rattle.oss_model.specs.Agreement.{Agrees}
use Rattle.oss_model.proofs.AgreementTheorem.{reached_agrees}
use Rattle.oss_model.proofs.SortLemmas.{reverse_same}
use Rattle.oss_code.specs.declared.code.CodeParts.{CodeParts}
use Rattle.oss_machine.specs.Frames.{CodeScript}
use Rattle.oss_machine.specs.Machines.{asks}
use Rattle.oss_tree.specs.declared.task.Task.{Task as TreeTask}
use Rattle.oss_tree.specs.Tasks.{HasPoint, IsComplete}
use Rattle.oss_tree.specs.Runs.{IsTaskOf, KeepsTasks}
use Rattle.oss_tree.proofs.RunLemmas.{complete_law}
use Rattle.oss_tree.proofs.TreeLemmas.{one_point}
use Rattle.oss_kept_tasks.specs.declared.held.Held.{Held}
use Rattle.oss_core.specs.Standing.{IsNumbered}
use Rattle.oss_core.specs.Kept.{Kept, IsCore, IsHeld, IsKnown, own}
use Rattle.oss_core.proofs.KeepLemmas.{some_is}

-- there is an element at each place of a list
pub at_place : {A : Type 0} (xs : List A) (v : ℕ) → v < length xs → (x : A) × (slice_get xs v ≡ Some x)
at_place {A = A} xs v l = go (slice_get_cases xs v).1
  where
    go : ((y : A) × (v < length xs) × (slice_get xs v ≡ Some y) × (get_or xs v y ≡ y)) ⊎ ((length xs ≤ v) × (slice_get xs v ≡ None)) → (x : A) × (slice_get xs v ≡ Some x)
    go (inl (y, m, e, g)) = (y, e)
    go (inr (m, e)) = absurd (omega (arith, l, m))

-- paths that are written alike are one
pub one_path : (p q : List ℕ) → written p ≡ written q → p ≡ q
one_path p q e = reverse_same p q (tail e)
  where
    tail : {xs ys : List ℕ} → 0 ∷ xs ≡ 0 ∷ ys → xs ≡ ys
    tail f = cc

module _ {code : CodeParts} {main : Start CodeScript} {first : List ℕ} {k : Kept} {s : State CodeScript} (core : IsCore code main first k s) where
  -- the state agrees with the beginning of the sequential run
  pub core_agrees : Agrees (asks code) main first (record { state = opening main first; active = []; printed = [] }) s
  core_agrees = reached_agrees (asks code) main first (record { state = opening main first; active = []; printed = [] }) core.setting Sequential.opens s core.reached

  -- its tasks are those that done creations made
  pub core_made : IsMade (asks code) main s
  core_made = core_agrees.made

  -- and they were started as they should
  pub core_started : IsStarted (asks code) s
  core_started = core_agrees.started

  -- what stands under one number
  pub record AtNumber (v : ℕ) : Type 0 where
    pub body : Body CodeScript
    pub body_at : slice_get core.bodies v ≡ Some body
    pub held : Held
    pub held_at : slice_get k.tasks v ≡ Some held
    pub task : TreeTask
    pub task_at : slice_get k.tree.tasks v ≡ Some task
    pub is_held : IsHeld code (k.seen.given v) body held
    pub is_known : IsKnown (asks code) (k.seen.given v) body task

  -- as many tasks are in the tree as are kept
  pub sizes : length k.tree.tasks ≡ length k.tasks
  sizes = core.known.size ∙ sym core.held.size

  -- a body, what is kept of it and its task in the tree stand under the same numbers
  pub at_number : (v : ℕ) → v < length k.tasks → AtNumber v
  at_number v l =
      let b = at_place core.bodies v (subst (λ (n : ℕ). v < n) core.held.size l) in
      let h = at_place k.tasks v l in
      let t = at_place k.tree.tasks v (subst (λ (n : ℕ). v < n) (sym sizes) l) in
      record {
        body = b.0;
        body_at = b.1;
        held = h.0;
        held_at = h.1;
        task = t.0;
        task_at = t.1;
        is_held = core.held.each v b.0 h.0 b.1 h.1;
        is_known = core.known.each v b.0 t.0 b.1 t.1;
      }

  -- the number of something kept
  pub kept_within : (v : ℕ) (held : Held) → slice_get k.tasks v ≡ Some held → v < length k.tasks
  kept_within v held e = slice_get_within k.tasks v held e

  -- the number of a body
  pub body_within : (v : ℕ) (b : Body CodeScript) → slice_get core.bodies v ≡ Some b → v < length k.tasks
  body_within v b e = subst (λ (n : ℕ). v < n) (sym core.held.size) (slice_get_within core.bodies v b e)

  -- the number of a task in the tree
  pub task_within : (v : ℕ) (one : TreeTask) → slice_get k.tree.tasks v ≡ Some one → v < length k.tasks
  task_within v one e = subst (λ (n : ℕ). v < n) sizes (slice_get_within k.tree.tasks v one e)

  -- the path of a task in the tree is that of its body
  pub path_of_point : (v : ℕ) (p : List ℕ) → HasPoint k.tree.tasks v (written p) → IsNumbered own core.bodies v p
  path_of_point v p h =
      let x = at_number v (task_within v h.task h.at_) in
      record { one = x.body; is = x.body_at; path = one_path x.body.start.path p (sym x.is_known.point ∙ ap (λ (t : TreeTask). t.point) (some_is (sym x.task_at ∙ h.at_)) ∙ h.point) }

  -- and the other way
  pub point_of_path : (v : ℕ) (p : List ℕ) → IsNumbered own core.bodies v p → HasPoint k.tree.tasks v (written p)
  point_of_path v p h =
      let x = at_number v (body_within v h.one h.is) in
      record { task = x.task; at_ = x.task_at; point = x.is_known.point ∙ ap (λ (b : Body CodeScript). written b.start.path) (some_is (sym x.body_at ∙ h.is)) ∙ ap written h.path }

  -- a point is that of one task
  pub point_unique : (v w : ℕ) (p : List ℕ) → HasPoint k.tree.tasks v p → HasPoint k.tree.tasks w p → v ≡ w
  point_unique v w p h g = one_point core.known.tree_is v w h.task g.task h.at_ g.at_ (h.point ∙ sym g.point)

  -- a task of the tree is one of the state
  pub task_of : (v : ℕ) (x : AtNumber v) → (task : Task CodeScript) × IsTaskOf (asks code) s x.task x.body.start.path task
  task_of v x =
      let r = core.stands.there v x.body x.body_at in
      let e : x.body ≡ r.0.body = sym r.2 in (
        r.0,
        record {
          at_ = r.1;
          point = x.is_known.point;
          ended = (λ h. ap (λ (b : Body CodeScript). is_ended (asks code) b) (sym e) ∙ (sym x.is_known.ended ∙ h), λ h. x.is_known.ended ∙ (ap (λ (b : Body CodeScript). is_ended (asks code) b) e ∙ h));
          gave_all = (
            λ h c o. (r.3 c).1 (x.is_known.gave_all.0 h c (subst (λ (b : Body CodeScript). Owes x.body.start.path b.start.context c) (sym e) o)),
            λ h. x.is_known.gave_all.1 (λ c o. (r.3 c).0 (h c (subst (λ (b : Body CodeScript). Owes x.body.start.path b.start.context c) e o))),
          );
        },
      )

  -- the tree keeps the tasks of the state
  pub keeps_tasks : KeepsTasks (asks code) s k.tree.tasks
  keeps_tasks = record {
    tree = core.known.tree_is;
    there = λ t one e. there t one e;
    back = λ path task a. let r = core.stands.back path task a in (r.0, point_of_path r.0 path r.1);
  }
    where
      there : (t : ℕ) (one : TreeTask) → slice_get k.tree.tasks t ≡ Some one → (path : List ℕ) × (task : Task CodeScript) × IsTaskOf (asks code) s one path task
      there t one e =
          let x = at_number t (task_within t one e) in
          let r = task_of t x in
          (x.body.start.path, r.0, subst (λ (y : TreeTask). IsTaskOf (asks code) s y x.body.start.path r.0) (some_is (sym x.task_at ∙ e)) r.1)

  -- so a task of the tree is complete just where that of the state is
  pub complete_tells : (v : ℕ) (p : List ℕ) → IsNumbered own core.bodies v p → (IsComplete k.tree.tasks v ↔ machine.IsComplete (asks code) s p)
  complete_tells v p h =
      let x = at_number v (body_within v h.one h.is) in
      let r = task_of v x in
      let e : x.body.start.path ≡ p = ap (λ (b : Body CodeScript). b.start.path) (some_is (sym x.body_at ∙ h.is)) ∙ h.path in
      complete_law CodeScript (asks code) s k.tree.tasks v x.task p r.0 keeps_tasks x.task_at (subst (λ (q : List ℕ). IsTaskOf (asks code) s x.task q r.0) e r.1)
