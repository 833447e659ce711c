-- The way down the tree to a point, and to the least open task.
use Rattle.std.proofs.Common.{◌≡◌, ℕ, zero, suc, ◌<◌, ◌≤◌, ◌+◌, refl, sym, ap, subst, ◌∙◌, List, [], ◌∷◌, ◌++◌, Some, None, length, take, drop, arith, append_assoc, get_or, add-one, drop-cons}
use Rattle.std.specs.Prelude.{slice_get}
use Rattle.std.proofs.lemmas.Option.{get_or_from_slice_get, slice_get_within}
use Rattle.std.proofs.lemmas.List.{take-append-drop, take_more}
use Rattle.oss_model.specs.Order.{IsBefore, less, same}
use Rattle.oss_tree.specs.declared.task.Task.{Task}
use Rattle.oss_model.specs.declared.task_no.TaskNo.{TaskNo}
use Rattle.oss_tree.specs.Tasks.{AreChildrenComplete, AreComplete, HasPoint, IsClosed, IsComplete, IsFirstUnfinished, IsLeastOpen, IsTree, complete, key_of, number}
use Rattle.oss_tree.proofs.ListLemmas.{none_some, some_is}
use Rattle.oss_tree.proofs.PointLemmas.{Lies, above, before, lies, own, under}
use Rattle.oss_tree.proofs.TreeLemmas.{below_complete, complete_closed, made, on_way, one_point, some_numbers}

-- each task whose key is before this point is closed
pub record AllClosedBefore (tasks : List Task) (p : List ℕ) : Type 0 where
  pub closed : (u : ℕ) (other : Task) → slice_get tasks u ≡ Some other → IsBefore (key_of other) p → IsClosed other

-- how far the way to the least open task has come: to one that is not complete, with each task closed that has a key before it
pub record Standing (tasks : List Task) (t : ℕ) : Type 0 where
  pub tree : IsTree tasks
  pub task : Task
  pub at_ : slice_get tasks t ≡ Some task
  pub left : IsComplete tasks t → ⊥
  pub closed : AllClosedBefore tasks task.point

drop_at : (xs : List ℕ) (i : ℕ) → i < length xs → drop i xs ≡ get_or xs i 0 ∷ drop (i + 1) xs
drop_at xs i l = rw (add-one, drop-cons xs i 0)

none_here : {xs : List ℕ} → IsBefore xs [] → ⊥
none_here g = elim g [ ]

none_first : {k j : ℕ} {xs : List ℕ} → IsBefore (k ∷ xs) (j ∷ []) → k ≡ j → ⊥
none_first (less l) e = absurd (omega (arith, l, e))
none_first (same h) e = none_here h

module _ {tasks : List Task} (tree : IsTree tasks) where
  -- main has its point, and none that begins otherwise is one of a task
  pub main_has : HasPoint tasks 0 (0 ∷ [])
  main_has = record { task = tree.main; at_ = tree.main_at; point = tree.main_point }

  -- each point begins with main's number
  begins : (n t : ℕ) (one : Task) → t < n → slice_get tasks t ≡ Some one → (r : List ℕ) × (one.point ≡ 0 ∷ r)
  begins zero t one l e = absurd (omega arith)
  begins (suc n) zero one l e = ([], ap (λ (z : Task). z.point) (some_is e tree.main_at) ∙ tree.main_point)
  begins (suc n) (suc t) one l e =
      let m = made tree (suc t) one (omega arith) e in
      let later = m.later in
      let b = begins n m.by m.creator (omega (arith, later)) m.at_ in
      (b.0 ++ m.place ∷ [], m.point ∙ ap (λ (q : List ℕ). q ++ m.place ∷ []) b.1)

  pub none_empty : (p : List ℕ) → length p ≡ 0 → (t : ℕ) → HasPoint tasks t p → ⊥
  none_empty p l t h = let some = some_numbers tree t h.task h.at_ in let long = ap length h.point in absurd (omega (arith, l, some, long))

  pub none_other : (t x : ℕ) (r : List ℕ) → HasPoint tasks t (x ∷ r) → x ≡ 0
  none_other t x r h = let b = begins (t + 1) t h.task (omega arith) h.at_ in let e = sym h.point ∙ b.1 in cc

  -- one step down
  pub step_down : (t : ℕ) (rest : List ℕ) (i : ℕ) → i < length rest → HasPoint tasks t (0 ∷ take i rest) → (one : Task) → one ≡ get_or tasks t one → (c : TaskNo) → Some c ≡ slice_get (get_or tasks t one).children (get_or rest i 0) → HasPoint tasks c.0 (0 ∷ take (i + 1) rest)
  step_down t rest i l here one e c f =
      let o : one ≡ here.task = e ∙ get_or_from_slice_get tasks t here.task one here.at_ in
      let is : slice_get here.task.children (get_or rest i 0) ≡ Some c = ap (λ (z : Task). slice_get z.children (get_or rest i 0)) (sym o ∙ e) ∙ sym f in
      let h = tree.children t here.task here.at_ (get_or rest i 0) c.0 is in
      record {
        task = h.task;
        at_ = h.at_;
        point = h.point ∙ ap (λ (z : List ℕ). z ++ get_or rest i 0 ∷ []) here.point ∙ ap (λ (z : List ℕ). 0 ∷ z) (sym (take_more rest i 0 l));
      }

  -- where there is no step, no task stands below
  pub no_step : (t : ℕ) (rest : List ℕ) (i : ℕ) → i < length rest → HasPoint tasks t (0 ∷ take i rest) → (one : Task) → one ≡ get_or tasks t one → None ≡ slice_get (get_or tasks t one).children (get_or rest i 0) → (u : ℕ) → HasPoint tasks u (0 ∷ rest) → ⊥
  no_step t rest i l here one e f u h =
      let o : one ≡ here.task = e ∙ get_or_from_slice_get tasks t here.task one here.at_ in
      let none : slice_get here.task.children (get_or rest i 0) ≡ None = ap (λ (z : Task). slice_get z.children (get_or rest i 0)) (sym o ∙ e) ∙ sym f in
      let cut : take i rest ++ get_or rest i 0 ∷ drop (i + 1) rest ≡ rest = ap (λ (z : List ℕ). take i rest ++ z) (sym (drop_at rest i l)) ∙ take-append-drop i rest in
      let way = on_way tree (u + 1) u h.task t here.task (get_or rest i 0) (drop (i + 1) rest) (omega arith) h.at_ here.at_
      (h.point ∙ ap (λ (z : List ℕ). 0 ∷ z) (sym cut) ∙ ap (λ (z : List ℕ). z ++ get_or rest i 0 ∷ drop (i + 1) rest) (sym here.point)) in
      none_some none way.1

  -- the least open task

  -- none has a key before main's point
  pub before_main : AllClosedBefore tasks (0 ∷ [])
  before_main = record { closed = λ u other e h. absurd (go u other e h) }
    where
      go : (u : ℕ) (other : Task) → slice_get tasks u ≡ Some other → IsBefore (key_of other) (0 ∷ []) → ⊥
      go u other e h =
          let b = begins (u + 1) u other (omega arith) e in
          none_first (subst (λ (q : List ℕ). IsBefore (q ++ length other.children ∷ []) (0 ∷ [])) b.1 h) refl

  -- where the first children of a task are complete, each key before that of the next is one of a closed task
  pub closed_up_to : (t : ℕ) (one : Task) (d : ℕ) → slice_get tasks t ≡ Some one → AllClosedBefore tasks one.point → d ≤ length one.children → ((k c : ℕ) → k < d → slice_get one.children k ≡ Some (number c) → IsComplete tasks c)
      → AllClosedBefore tasks (one.point ++ d ∷ [])
  closed_up_to t one d e closed within each = record { closed = λ u other f h. go u other f (lies other.point (length other.children) one.point d h) }
    where
      below_it : (u : ℕ) (other : Task) (k : ℕ) (r : List ℕ) → slice_get tasks u ≡ Some other → other.point ≡ one.point ++ k ∷ r → k < d → IsClosed other
      below_it u other k r f q l =
          let way = on_way tree (u + 1) u other t one k r (omega arith) f e q in
          let child = tree.children t one e k way.0 way.1 in
          let p : other.point ≡ child.task.point ++ r = q ∙ sym (append_assoc one.point (k ∷ []) r) ∙ ap (λ (z : List ℕ). z ++ r) (sym child.point) in
          complete_closed tree u other (below_complete tree (u + 1) u other way.0 child.task r (omega arith) f child.at_ p (each k way.0 l way.1)) f

      go : (u : ℕ) (other : Task) → slice_get tasks u ≡ Some other → Lies other.point (length other.children) one.point d → IsClosed other
      go u other f (before h) = closed.closed u other f h
      go u other f (own q l) =
          let o : other ≡ one = some_is f (ap (slice_get tasks) (one_point tree u t other one f e q) ∙ e) in
          let same_long = ap (λ (z : Task). length z.children) o in
          absurd (omega (arith, same_long, l, within))
      go u other f (under k r q l) = below_it u other k r f q l
      go u other f (above q) =
          let way = on_way tree (t + 1) t one u other (length other.children) [] (omega arith) e f (sym q) in
          let l = slice_get_within other.children (length other.children) (number way.0) way.1 in
          absurd (omega (arith, l))

  -- where main is complete, each task is
  pub all_complete : IsComplete tasks 0 → AreComplete tasks
  all_complete h t one e =
      let b = begins (t + 1) t one (omega arith) e in
      below_complete tree (t + 1) t one 0 tree.main b.0 (omega arith) e tree.main_at (b.1 ∙ ap (λ (q : List ℕ). q ++ b.0) (sym tree.main_point)) h

  pub at_main : (IsComplete tasks 0 → ⊥) → Standing tasks 0
  at_main left = record {
    tree = tree;
    task = tree.main;
    at_ = tree.main_at;
    left = left;
    closed = subst (AllClosedBefore tasks) (sym tree.main_point) before_main;
  }

module _ {tasks : List Task} {t : ℕ} (s : Standing tasks t) where
  -- a step down to the first child that is left
  pub step_on : (c : ℕ) → IsFirstUnfinished tasks t c → Standing tasks c × (t < c) × (c < length tasks)
  step_on c x =
      let o : x.creator ≡ s.task = some_is x.at_ s.at_ in
      let is : slice_get s.task.children x.place ≡ Some (number c) = ap (λ (z : Task). slice_get z.children x.place) (sym o) ∙ x.is in
      let h = s.tree.children t s.task s.at_ x.place c is in
      let within = slice_get_within s.task.children x.place (number c) is in
      let up = closed_up_to s.tree t s.task x.place s.at_ s.closed (omega (arith, within)) (λ k u l f. x.first k u l (ap (λ (z : Task). slice_get z.children k) o ∙ f)) in (
        record { tree = s.tree; task = h.task; at_ = h.at_; left = x.left; closed = subst (AllClosedBefore tasks) (sym h.point) up },
        h.later,
        slice_get_within tasks c h.task h.at_,
      )

  -- where no child is left, it is the least
  pub least_is : AreChildrenComplete tasks t → IsLeastOpen tasks t
  least_is all =
      let up = closed_up_to s.tree t s.task (length s.task.children) s.at_ s.closed (omega arith) (λ k c l f. all s.task s.at_ k c f) in
      record {
        task = s.task;
        at_ = s.at_;
        open_ = λ c. s.left (complete s.task s.at_ c (λ k u f. all s.task s.at_ k u f));
        least = λ u other f h. up.closed u other f h;
      }
