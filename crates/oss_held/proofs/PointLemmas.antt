-- The points of the tasks of a tree in point order are those of the state.
use Rattle.std.proofs.Common.{◌≡◌, ℕ, ◌+◌, ◌<◌, ◌≤◌, ◌⊎◌, inl, inr, refl, sym, subst, ◌∙◌, List, [], ◌∷◌, ◌++◌, length, take, get_or, Result, Ok, Err}
use Rattle.std.specs.Prelude.{IfOk}
use Rattle.std.proofs.lemmas.List.{take_all, take_more}
use Rattle.oss_code.specs.declared.code.CodeParts.{CodeParts}
use Rattle.oss_machine.specs.Frames.{CodeScript}
use Rattle.oss_model.specs.Bodies.{Start}
use Rattle.oss_model.specs.Machine.{State, Task, At}
use Rattle.oss_model.specs.Order.{IsBefore, IsIn, here, there, written}
use Rattle.oss_model.specs.declared.task_no.TaskNo.{TaskNo}
use Rattle.oss_tree.specs.declared.task.Task.{Task as TreeTask}
use Rattle.oss_tree.specs.Tasks.{HasPoint, number}
use Rattle.oss_core.specs.Kept.{IsCore, Kept, own}
use Rattle.oss_core.specs.Ordering.{AreInOrder}
use Rattle.oss_core.specs.PointOrder.{AreInPointOrder}
use Rattle.oss_core.specs.Standing.{IsNumbered}
use Rattle.oss_core.proofs.PlacedLemmas.{same_point}
use Rattle.oss_core.proofs.SteppersLemmas.{in_cases, in_either, in_front, in_rest}
use Rattle.oss_core.proofs.TreeFacts.{at_number, body_within, point_of_path, sizes}
use Rattle.oss_held.specs.Points.{ArePoints, ArePointsOf, AreRising, none, next, numbers_to}
use Rattle.oss_held.specs.States.{Contents, IsHeldState}
use Rattle.oss_held.proofs.NumberLemmas.{numbers_all, numbers_below}

-- one point more

pub points_begin : (tasks : List TreeTask) (list : List TaskNo) (points : List (List ℕ)) → points ≡ [] → ArePointsOf tasks (take 0 list) points
points_begin tasks list points e = subst (ArePointsOf tasks []) (sym e) none

pub points_next : (tasks : List TreeTask) (list : List TaskNo) (points new : List (List ℕ)) (i : ℕ) (d : TaskNo) (p q : List ℕ) → i < length list → new ≡ points ++ q ∷ [] → q ≡ p
    → HasPoint tasks (get_or list i d).0 p → ArePointsOf tasks (take i list) points → ArePointsOf tasks (take (i + 1) list) new
points_next tasks list points new i d p q l e f h are =
    subst (ArePointsOf tasks (take (i + 1) list)) (sym e)
    (subst (λ (vs : List TaskNo). ArePointsOf tasks vs (points ++ q ∷ [])) (sym (take_more list i d l)) (next (get_or list i d) q are (subst (HasPoint tasks (get_or list i d).0) (sym f) h)))

pub points_done : (tasks : List TreeTask) (list : List TaskNo) (points : List (List ℕ)) (i : ℕ) → length list ≤ i → ArePointsOf tasks (take i list) points → ArePointsOf tasks list points
points_done tasks list points i l are = subst (λ (vs : List TaskNo). ArePointsOf tasks vs points) (take_all i list l) are

-- each point is that of a task of the list, and each task has its point

record HasTask (tasks : List TreeTask) (vs : List TaskNo) (q : List ℕ) : Type 0 where
  task : TaskNo
  listed : IsIn task vs
  point : HasPoint tasks task.0 q

record IsPointed (tasks : List TreeTask) (ps : List (List ℕ)) (v : TaskNo) : Type 0 where
  point : List ℕ
  listed : IsIn point ps
  has : HasPoint tasks v.0 point

task_of_point : {tasks : List TreeTask} {vs : List TaskNo} {ps : List (List ℕ)} (q : List ℕ) → ArePointsOf tasks vs ps → IsIn q ps → HasTask tasks vs q
task_of_point q none i = elim i [ ]
task_of_point {tasks = tasks} q (next {vs = vs} {ps = ps} v p are h) i = go (in_either ps (p ∷ []) i) (λ j. task_of_point q are j)
  where
    last : (q ≡ p) ⊎ IsIn q [] → HasTask tasks (vs ++ v ∷ []) q
    last (inl e) = record { task = v; listed = in_rest vs (v ∷ []) here; point = subst (HasPoint tasks v.0) (sym e) h }
    last (inr j) = elim j [ ]

    more : HasTask tasks vs q → HasTask tasks (vs ++ v ∷ []) q
    more x = record { task = x.task; listed = in_front vs (v ∷ []) x.listed; point = x.point }

    go : IsIn q ps ⊎ IsIn q (p ∷ []) → (IsIn q ps → HasTask tasks vs q) → HasTask tasks (vs ++ v ∷ []) q
    go (inl j) rest = more (rest j)
    go (inr j) rest = last (in_cases j)

point_of_task : {tasks : List TreeTask} {vs : List TaskNo} {ps : List (List ℕ)} (w : TaskNo) → ArePointsOf tasks vs ps → IsIn w vs → IsPointed tasks ps w
point_of_task w none i = elim i [ ]
point_of_task {tasks = tasks} w (next {vs = vs} {ps = ps} v p are h) i = go (in_either vs (v ∷ []) i) (λ j. point_of_task w are j)
  where
    last : (w ≡ v) ⊎ IsIn w [] → IsPointed tasks (ps ++ p ∷ []) w
    last (inl e) = record { point = p; listed = in_rest ps (p ∷ []) here; has = subst (λ (x : TaskNo). HasPoint tasks x.0 p) (sym e) h }
    last (inr j) = elim j [ ]

    more : IsPointed tasks ps w → IsPointed tasks (ps ++ p ∷ []) w
    more x = record { point = x.point; listed = in_front ps (p ∷ []) x.listed; has = x.has }

    go : IsIn w vs ⊎ IsIn w (v ∷ []) → (IsIn w vs → IsPointed tasks ps w) → IsPointed tasks (ps ++ p ∷ []) w
    go (inl j) rest = more (rest j)
    go (inr j) rest = last (in_cases j)

-- points of tasks in point order rise

rising_more : (ps : List (List ℕ)) (q : List ℕ) → AreRising ps → ((p : List ℕ) → IsIn p ps → IsBefore p q) → AreRising (ps ++ q ∷ [])
rising_more [] q r before = ((λ x i. elim i [ ]), tt)
rising_more (p ∷ ps) q r before = ((λ x i. first x (in_either ps (q ∷ []) i)), rising_more ps q r.1 (λ x i. before x (there i)))
  where
    last : (x : List ℕ) → (x ≡ q) ⊎ IsIn x [] → IsBefore p x
    last x (inl e) = subst (IsBefore p) (sym e) (before p here)
    last x (inr i) = elim i [ ]

    first : (x : List ℕ) → IsIn x ps ⊎ IsIn x (q ∷ []) → IsBefore p x
    first x (inl i) = r.0 x i
    first x (inr i) = last x (in_cases i)

front_ordered : (tasks : List TreeTask) (vs : List TaskNo) (v : TaskNo) → AreInPointOrder tasks (vs ++ v ∷ []) → AreInPointOrder tasks vs
front_ordered tasks [] v o = tt
front_ordered tasks (w ∷ vs) v o = ((λ x i p q. o.0 x (in_front vs (v ∷ []) i) p q), front_ordered tasks vs v o.1)

last_ordered : (tasks : List TreeTask) (vs : List TaskNo) (v w : TaskNo) (p q : List ℕ) → AreInPointOrder tasks (vs ++ v ∷ []) → IsIn w vs → HasPoint tasks w.0 p → HasPoint tasks v.0 q → IsBefore p q
last_ordered tasks [] v w p q o i = elim i [ ]
last_ordered tasks (x ∷ vs) v w p q o here = o.0 v (in_rest vs (v ∷ []) here) p q
last_ordered tasks (x ∷ vs) v w p q o (there i) = last_ordered tasks vs v w p q o.1 i

points_rise : {tasks : List TreeTask} {vs : List TaskNo} {ps : List (List ℕ)} → ArePointsOf tasks vs ps → AreInPointOrder tasks vs → AreRising ps
points_rise none o = tt
points_rise {tasks = tasks} (next {vs = vs} {ps = ps} v p are h) o =
    rising_more ps p (points_rise are (front_ordered tasks vs v o)) (λ q i. let x = task_of_point q are i in last_ordered tasks vs v x.task q p o x.listed x.point h)

-- the points of all tasks of a core, in point order, are those of the state

module _ {code : CodeParts} {main : Start CodeScript} {first : List ℕ} {k : Kept} {s : State CodeScript} (core : IsCore code main first k s) where
  pub points_are : (now : List TaskNo) (points : List (List ℕ)) → AreInOrder k.tree.tasks (numbers_to (length k.tree.tasks)) now → ArePointsOf k.tree.tasks now points → ArePoints s points
  points_are now points order are = record { rising = points_rise are order.ordered; exact = λ q. ((λ i. forth q (task_of_point q are i)), (λ h. back q h.0 h.1 h.2 h.3)) }
    where
      forth : (q : List ℕ) → HasTask k.tree.tasks now q → (p : List ℕ) × (t : Task CodeScript) × At s p t × (q ≡ written p)
      forth q x =
          let l : x.task.0 < length k.tree.tasks = numbers_below (length k.tree.tasks) x.task (order.only x.task x.listed) in
          let a = at_number core x.task.0 (subst (λ (n : ℕ). x.task.0 < n) (sizes core) l) in
          let has : IsNumbered own core.bodies x.task.0 a.body.start.path = record { one = a.body; is = a.body_at; path = refl } in
          let r = core.stands.there x.task.0 a.body a.body_at in
          (a.body.start.path, r.0, r.1, same_point k.tree.tasks x.task.0 q (written a.body.start.path) x.point (point_of_path core x.task.0 a.body.start.path has))

      back : (q p : List ℕ) (t : Task CodeScript) → At s p t → q ≡ written p → IsIn q points
      back q p t at e =
          let v = core.stands.back p t at in
          let l : v.0 < length k.tree.tasks = subst (λ (n : ℕ). v.0 < n) (sym (sizes core)) (body_within core v.0 v.1.one v.1.is) in
          let x = point_of_task (number v.0) are (order.all (number v.0) (numbers_all (length k.tree.tasks) v.0 l)) in
          subst (λ (z : List ℕ). IsIn z points) (same_point k.tree.tasks v.0 x.point (written p) x.has (point_of_path core v.0 p v.1) ∙ sym e) x.listed

-- the same, of what calls give
pub points_ok : {E : Type 0} (r : Result (List (List ℕ)) E) (h : Contents) (ts old : List TreeTask) (all ordered now : List TaskNo) → ts ≡ old → old ≡ h.tree.tasks → all ≡ numbers_to (length old) → now ≡ ordered
    → AreInOrder old all ordered → IfOk r (λ points. ArePointsOf ts now points) → IfOk r (λ points. (code : CodeParts) (fuel : ℕ) (s : State CodeScript) → IsHeldState code fuel h s → ArePoints s points)
points_ok (Ok points) h ts old all ordered now e g d f order are = λ code fuel s is.
    points_are is.core now points
    (subst (λ (xs : List TreeTask). AreInOrder xs (numbers_to (length xs)) now) g (subst (λ (vs : List TaskNo). AreInOrder old (numbers_to (length old)) vs) (sym f) (subst (λ (vs : List TaskNo). AreInOrder old vs ordered) d order)))
    (subst (λ (xs : List TreeTask). ArePointsOf xs now points) (e ∙ g) are)
points_ok (Err why) h ts old all ordered now e g d f order are = tt
