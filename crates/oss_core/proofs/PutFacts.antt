-- What stays the same in a core while a whole part is put into it: the points of its tasks, and all that is kept alike.
use Rattle.std.proofs.Common.{◌≡◌, ℕ, ◌⊎◌, inl, inr, sym, subst, ap, ◌∙◌, refl, List, [], ◌∷◌, ◌++◌, length, length-set, Bool, true, false, Option, Some, None}
use Rattle.std.specs.Prelude.{◌&&◌, not, slice_get, slice_set}
use Rattle.oss_syntax.specs.declared.access.Access.{Access}
use Rattle.oss_model.specs.Bodies.{Start}
use Rattle.oss_model.specs.Machine.{State}
use Rattle.oss_ranges.specs.Cells.{value_at}
use Rattle.oss_code.specs.declared.code.CodeParts.{CodeParts}
use Rattle.oss_machine.specs.Frames.{CodeScript}
use Rattle.oss_machine.specs.Machines.{asks}
use Rattle.oss_body.specs.declared.body.Body.{Body}
use Rattle.oss_body.specs.Relation.{IsBody, is_over}
use Rattle.oss_tree.specs.declared.output.Print.{Print}
use Rattle.oss_tree.specs.declared.task.Task.{Task as TreeTask}
use Rattle.oss_tree.specs.Tasks as tree
use Rattle.oss_tree.specs.Tasks.{HasPoint, changed, changed_to, created_by, ended_task, given_task, grown, new_task, with_child}
use Rattle.oss_tree.proofs.ListLemmas.{get_front, get_set_other, get_set_same}
use Rattle.oss_deps.specs.Seen.{Seen}
use Rattle.oss_kept_tasks.specs.declared.held.Held.{Held}
use Rattle.oss_core.specs.declared.creating.Newborn.{Newborn}
use Rattle.oss_core.specs.Changes.{noted, noted_new}
use Rattle.oss_core.specs.Kept.{AreHeld, AreKnown, IsCore, Kept, own}
use Rattle.oss_core.specs.Moving.{AreSound}
use Rattle.oss_core.specs.Putting.{AreAdded, AreNewborns, HasBody, IsPut, OpensAll, held_of, with_newborns}
use Rattle.oss_core.specs.Standing.{StandsFor}
use Rattle.oss_core.proofs.KeepLemmas.{some_is, which}

pub some_or_none : {A : Type 0} (o : Option A) → (o ≡ None) ⊎ ((x : A) × (o ≡ Some x))
some_or_none None = inl refl
some_or_none (Some x) = inr (x, refl)

-- a task has its point where another, or the task itself, changes but for its point
pub point_changed : (change : TreeTask → TreeTask) → ((one : TreeTask) → (change one).point ≡ one.point) → (tasks : List TreeTask) (m v : ℕ) (q : List ℕ) → HasPoint tasks v q → HasPoint (changed tasks m change) v q
point_changed change keeps tasks m v q h = go (which v m) (some_or_none (slice_get tasks m))
  where
    at_task : (one : TreeTask) → slice_get tasks m ≡ Some one → (v ≡ m) ⊎ (v ≡ m → ⊥) → HasPoint (slice_set tasks m (change one)) v q
    at_task one e (inl same) =
        let is : one ≡ h.task = some_is (sym e ∙ ap (λ (i : ℕ). slice_get tasks i) (sym same) ∙ h.at_) in
        record {
          task = change one;
          at_ = ap (λ (i : ℕ). slice_get (slice_set tasks m (change one)) i) same ∙ get_set_same tasks m one (change one) e;
          point = keeps one ∙ ap (λ (t : TreeTask). t.point) is ∙ h.point;
        }
    at_task one e (inr other) = record { task = h.task; at_ = get_set_other tasks m v (change one) other ∙ h.at_; point = h.point }

    go : (v ≡ m) ⊎ (v ≡ m → ⊥) → (slice_get tasks m ≡ None) ⊎ ((one : TreeTask) × (slice_get tasks m ≡ Some one)) → HasPoint (changed tasks m change) v q
    go w (inl e) = subst (λ (ts : List TreeTask). HasPoint ts v q) (sym (ap (λ o. changed_to tasks m change o) e)) h
    go w (inr (one, e)) = subst (λ (ts : List TreeTask). HasPoint ts v q) (sym (ap (λ o. changed_to tasks m change o) e)) (at_task one e w)

-- so where an end is noted, or where a task has no cells
pub point_noted : (tasks : List TreeTask) (m v : ℕ) (q : List ℕ) (over : Bool) → HasPoint tasks v q → HasPoint (noted m over tasks) v q
point_noted tasks m v q false h = h
point_noted tasks m v q true h = point_changed ended_task (λ one. refl) tasks m v q h

pub point_new : (tasks : List TreeTask) (m v : ℕ) (q : List ℕ) (accesses : List Access) → HasPoint tasks v q → HasPoint (noted_new accesses m tasks) v q
point_new tasks m v q [] h = point_changed given_task (λ one. refl) tasks m v q h
point_new tasks m v q (a ∷ rest) h = h

-- and where some task has created one more
pub point_grown : (tasks : List TreeTask) (m v : ℕ) (q : List ℕ) (wait : Bool) → HasPoint tasks v q → HasPoint (grown tasks m wait) v q
point_grown tasks m v q wait h = go (some_or_none (slice_get tasks m))
  where
    go : (slice_get tasks m ≡ None) ⊎ ((one : TreeTask) × (slice_get tasks m ≡ Some one)) → HasPoint (grown tasks m wait) v q
    go (inl e) = subst (λ (ts : List TreeTask). HasPoint ts v q) (sym (ap (λ o. created_by tasks m wait o) e)) h
    go (inr (one, e)) =
        let change : TreeTask → TreeTask = λ x. with_child x (length tasks) in
        let g : HasPoint (slice_set tasks m (with_child one (length tasks))) v q = subst (λ (ts : List TreeTask). HasPoint ts v q) (ap (λ o. changed_to tasks m change o) e) (point_changed change (λ x. refl) tasks m v q h) in
        subst (λ (ts : List TreeTask). HasPoint ts v q) (sym (ap (λ o. created_by tasks m wait o) e))
        (record { task = g.task; at_ = get_front (slice_set tasks m (with_child one (length tasks))) (new_task one m wait) v g.task g.at_; point = g.point })

-- the tree behind the rest of a part, from one act on: the end is noted once
pub tree_on : (v : ℕ) (over before next : Bool) (xs : List Newborn) (tasks : List TreeTask) → before ≡ false → (next ≡ true → (xs ≡ []) × (over ≡ true))
    → noted v (over && not before) (with_newborns v xs tasks) ≡ noted v (over && not next) (with_newborns v xs (noted v next tasks))
tree_on v over true next xs tasks e f = absurd (cc (e))
tree_on v over false false xs tasks e f = refl
tree_on v over false true xs tasks e f = go over xs (f refl)
  where
    go : (o : Bool) (ys : List Newborn) → (ys ≡ []) × (o ≡ true) → noted v (o && true) (with_newborns v ys tasks) ≡ noted v (o && false) (with_newborns v ys (noted v true tasks))
    go true [] h = refl
    go false ys h = let z = h.1 in absurd (cc (z))
    go true (y ∷ ys) h = let z = h.0 in absurd (cc (z))

-- What is kept of each task of the second list is that of the first: the body, and what it owes.
abbrev pub AreAlike : List Held → List Held → Type 0
AreAlike old new = (w : ℕ) (h : Held) → slice_get new w ≡ Some h → (g : Held) × (slice_get old w ≡ Some g) × (h.body ≡ g.body) × (h.owed.pieces ≡ g.owed.pieces)

-- a core keeps the same where a body and what it owes are kept otherwise, but alike
pub core_like : {code : CodeParts} {main : Start CodeScript} {first : List ℕ} {s : State CodeScript} (old new : Kept) → IsCore code main first old s → length new.tasks ≡ length old.tasks → AreAlike old.tasks new.tasks → new.tree ≡ old.tree → new.seen ≡ old.seen
    → new.cells ≡ old.cells → IsCore code main first new s
core_like {code = code} {s = s} old new core size alike tree_is seen_same cells_is = record {
  setting = core.setting;
  depth = core.depth;
  reached = core.reached;
  bodies = core.bodies;
  sound = subst (λ (x : Seen). AreSound (asks code) own (λ b. Unit {0}) core.bodies x.opens x.given) (sym seen_same) core.sound;
  stands = subst (λ (x : Seen). StandsFor own core.bodies x.given new.cells s) (sym seen_same) (subst (λ (cs : List ℕ). StandsFor own core.bodies old.seen.given cs s) (sym cells_is) core.stands);
  held = subst (λ (x : Seen). AreHeld code x.given core.bodies new.tasks) (sym seen_same) (record {
    size = size ∙ core.held.size;
    each = λ w b h e f.
        let g = alike w h f in
        let k = core.held.each w b g.0 e g.1 in
        record { body_is = subst (λ (x : Body). IsBody code b.start b.found x) (sym g.2) k.body_is; owed_is = λ c. ap (λ ps. value_at ps c) g.3 ∙ k.owed_is c };
  });
  known = subst (λ (x : Seen). AreKnown (asks code) x.given core.bodies new.tree.tasks) (sym seen_same) (subst (λ (x : tree.Kept). AreKnown (asks code) old.seen.given core.bodies x.tasks) (sym tree_is) core.known);
  done = core.done;
  are_prints = core.are_prints;
  prints_are = ap (λ (x : tree.Kept). x.prints) tree_is ∙ core.prints_are;
}

-- no bodies, no new tasks
pub none_new : (xs : List Newborn) (bs : List Body) → bs ≡ [] → AreNewborns xs bs → xs ≡ []
none_new [] bs e h = refl
none_new (x ∷ xs) [] e h = absurd h
none_new (x ∷ xs) (b ∷ bs) e h = absurd (cc (e))

pub with_not : (a b : Bool) → b ≡ false → (a && not b) ≡ a
with_not true false e = refl
with_not false false e = refl
with_not a true e = absurd (cc (e))

-- a part is put in by its pieces: the body in its place, the new tasks, the end, and the prints
pub all_put : (v : ℕ) (xs : List Newborn) (body : Body) (prints : List Print) (over : Bool) (old new mid : Kept) → HasBody v body old.tasks mid.tasks → mid.tree ≡ old.tree → mid.seen ≡ old.seen → over ≡ is_over body → (added : Kept) → AreAdded v xs mid added → new.tasks ≡ added.tasks
    → new.tree.tasks ≡ noted v over added.tree.tasks → new.tree.prints ≡ added.tree.prints ++ prints → new.seen ≡ added.seen → IsPut v xs body prints old new
all_put v xs body prints over old new mid put tree_is seen_is over_is added are tasks_are noted_is prints_are seen_new = record {
  before = put.before;
  was = put.was;
  after = put.after;
  body_is = put.body_is;
  owed = put.owed;
  tasks = tasks_are ∙ are.tasks ∙ ap (λ (ts : List Held). ts ++ held_of xs) put.tasks;
  tree = noted_is ∙ ap (λ (o : Bool). noted v o added.tree.tasks) over_is ∙ ap (λ (ts : List TreeTask). noted v (is_over body) ts) (are.tree ∙ ap (λ (x : tree.Kept). with_newborns v xs x.tasks) tree_is);
  prints_are = prints_are ∙ ap (λ (ps : List Print). ps ++ prints) (are.prints ∙ ap (λ (x : tree.Kept). x.prints) tree_is);
  seen = subst (λ (x : Seen). OpensAll v (length old.tasks) xs x new.seen) seen_is
      (subst (λ (x : Seen). OpensAll v (length old.tasks) xs mid.seen x) (sym seen_new) (subst (λ (n : ℕ). OpensAll v n xs mid.seen added.seen) (ap length put.tasks ∙ length-set old.tasks v put.after) are.seen));
}
