-- What is so of each tree: a point is that of one task, and what stands below a task stands below one of its children.
use Rattle.std.proofs.Common.{◌≡◌, ℕ, zero, suc, ◌<◌, ◌+◌, refl, sym, ap, subst, ◌∙◌, List, [], ◌∷◌, ◌++◌, Some, None, length, arith, length-append, get_or, ◌-◌}
use Rattle.std.specs.Prelude.{slice_get}
use Rattle.std.proofs.lemmas.Option.{get_or_from_slice_get, slice_get-get_or}
use Rattle.oss_tree.specs.declared.task.Task.{Task}
use Rattle.oss_model.specs.declared.task_no.TaskNo.{TaskNo}
use Rattle.oss_tree.specs.Tasks.{IsClosed, IsComplete, IsTree, complete, number}
use Rattle.oss_tree.proofs.ListLemmas.{get_last, longer_by, none_some, some_is}
use Rattle.oss_tree.proofs.PointLemmas.{EndsIn, here, below, ends_in, same_ends}

pub same_number : {a b : ℕ} → number a ≡ number b → a ≡ b
same_number e = ap (λ (n : TaskNo). n.0) e

-- a task that was created, with its creator
pub record Made (tasks : List Task) (c : ℕ) (one : Task) : Type 0 where
  pub by : ℕ
  pub creator : Task
  pub at_ : slice_get tasks by ≡ Some creator
  pub later : by < c
  pub place : ℕ
  pub is : slice_get creator.children place ≡ Some (number c)
  pub point : one.point ≡ creator.point ++ place ∷ []
  pub parent : one.parent ≡ Some (number by)

-- the last number of a point is the place among the children of the creator
pub place_is : {tasks : List Task} {c : ℕ} {one : Task} (m : Made tasks c one) (place : ℕ) → slice_get one.point (length one.point - 1) ≡ Some place → place ≡ m.place
place_is {one = one} m place e =
    let last : slice_get (m.creator.point ++ m.place ∷ []) (length m.creator.point) ≡ Some m.place = get_last m.creator.point m.place in
    let long : length one.point ≡ length m.creator.point + 1 = ap length m.point ∙ longer_by m.creator.point m.place in
    let at_ : length one.point - 1 ≡ length m.creator.point = omega (arith, long) in
    some_is e (ap (slice_get one.point) at_ ∙ ap (λ (p : List ℕ). slice_get p (length m.creator.point)) m.point ∙ last)

module _ {tasks : List Task} (tree : IsTree tasks) where
  pub made : (c : ℕ) (one : Task) → 0 < c → slice_get tasks c ≡ Some one → Made tasks c one
  made c one l e =
      let h = tree.created c one l e in
      let k = tree.children h.number_is h.creator h.at_ h.place c h.is in
      record {
        by = h.number_is;
        creator = h.creator;
        at_ = h.at_;
        later = k.later;
        place = h.place;
        is = h.is;
        point = ap (λ (t : Task). t.point) (some_is e k.at_) ∙ k.point;
        parent = h.parent;
      }

  -- what is told of a task whose creator was read
  pub record ReadParent (c : ℕ) (by : TaskNo) : Type 0 where
    pub task : Task
    pub at_ : slice_get tasks c ≡ Some task
    pub parent : task.parent ≡ Some by
    pub made_by : Made tasks c task
    pub is : made_by.by ≡ by.0

  pub read_parent : (c : ℕ) (d : Task) (by : TaskNo) → c < length tasks → (get_or tasks c d).parent ≡ Some by → ReadParent c by
  read_parent zero d by l e = absurd (none_some tree.main_parent (ap (λ (t : Task). t.parent) (sym (get_or_from_slice_get tasks zero tree.main d tree.main_at)) ∙ e))
  read_parent (suc c) d by l e =
      let is : slice_get tasks (suc c) ≡ Some (get_or tasks (suc c) d) = slice_get-get_or tasks (suc c) d l in
      let m = made (suc c) (get_or tasks (suc c) d) (omega arith) is in
      record {
        task = get_or tasks (suc c) d;
        at_ = is;
        parent = e;
        made_by = m;
        is = same_number (some_is m.parent e);
      }

  pub read_none : (c : ℕ) (d : Task) → (get_or tasks c d).parent ≡ None → (one : Task) → slice_get tasks c ≡ Some one → one.parent ≡ None
  read_none c d e one f = ap (λ (t : Task). t.parent) (sym (get_or_from_slice_get tasks c one d f)) ∙ e

  main_is : (one : Task) → slice_get tasks 0 ≡ Some one → one.point ≡ 0 ∷ []
  main_is one e = ap (λ (t : Task). t.point) (some_is e tree.main_at) ∙ tree.main_point

  -- each point has a number
  pub some_numbers : (t : ℕ) (one : Task) → slice_get tasks t ≡ Some one → 0 < length one.point
  some_numbers zero one e = let l = ap length (main_is one e) in omega (arith, l)
  some_numbers (suc t) one e = let m = made (suc t) one (omega arith) e in let l = ap length m.point ∙ length-append m.creator.point (m.place ∷ []) in omega (arith, l)

  not_main : (t : ℕ) (one : Task) (k : ℕ) (r : List ℕ) → slice_get tasks t ≡ Some one → one.point ++ k ∷ r ≡ 0 ∷ [] → ⊥
  not_main t one k r e f = let l = sym (length-append one.point (k ∷ r)) ∙ ap length f in omega (arith, l, some_numbers t one e)

  -- two tasks do not have one point
  pub one_task : (n t u : ℕ) (one other : Task) → t < n → slice_get tasks t ≡ Some one → slice_get tasks u ≡ Some other → one.point ≡ other.point → t ≡ u
  one_task zero t u one other l e f g = absurd (omega arith)
  one_task (suc n) zero zero one other l e f g = refl
  one_task (suc n) zero (suc u) one other l e f g = let b = made (suc u) other (omega arith) f in absurd (not_main b.by b.creator b.place [] b.at_ (sym b.point ∙ sym g ∙ main_is one e))
  one_task (suc n) (suc t) zero one other l e f g = let a = made (suc t) one (omega arith) e in absurd (not_main a.by a.creator a.place [] a.at_ (sym a.point ∙ g ∙ main_is other f))
  one_task (suc n) (suc t) (suc u) one other l e f g =
      let a = made (suc t) one (omega arith) e in
      let b = made (suc u) other (omega arith) f in
      let s = same_ends a.creator.point a.place b.creator.point b.place (sym a.point ∙ g ∙ b.point) in
      let lower : a.by < n = omega (arith, a.later) in
      let by = one_task n a.by b.by a.creator b.creator lower a.at_ b.at_ s.0 in
      let creator : a.creator ≡ b.creator = some_is a.at_ (ap (slice_get tasks) by ∙ b.at_) in
      same_number (some_is a.is (ap (λ (t : Task). slice_get t.children a.place) creator ∙ ap (slice_get b.creator.children) s.1 ∙ b.is))

  pub one_point : (t u : ℕ) (one other : Task) → slice_get tasks t ≡ Some one → slice_get tasks u ≡ Some other → one.point ≡ other.point → t ≡ u
  one_point t u one other e f g = one_task (t + 1) t u one other (omega arith) e f g

  child_there : (u : ℕ) (other : Task) (m : Made tasks u other) (t : ℕ) (one : Task) (k : ℕ) → slice_get tasks t ≡ Some one → EndsIn m.creator.point m.place one.point k
      → ((more : List ℕ) → m.creator.point ≡ one.point ++ k ∷ more → (c : ℕ) × (slice_get one.children k ≡ Some (number c))) → (c : ℕ) × (slice_get one.children k ≡ Some (number c))
  child_there u other m t one k f (here p q) go =
      let creator : m.creator ≡ one = some_is m.at_ (ap (slice_get tasks) (one_point m.by t m.creator one m.at_ f p) ∙ f) in
      (u, ap (slice_get one.children) (sym q) ∙ ap (λ (t : Task). slice_get t.children m.place) (sym creator) ∙ m.is)
  child_there u other m t one k f (below more p) go = go more p

  -- what stands below a task stands below a child of it
  pub on_way : (n u : ℕ) (other : Task) (t : ℕ) (one : Task) (k : ℕ) (r : List ℕ) → u < n → slice_get tasks u ≡ Some other → slice_get tasks t ≡ Some one → other.point ≡ one.point ++ k ∷ r → (c : ℕ) × (slice_get one.children k ≡ Some (number c))
  on_way zero u other t one k r l e f g = absurd (omega arith)
  on_way (suc n) zero other t one k r l e f g = absurd (not_main t one k r f (sym g ∙ main_is other e))
  on_way (suc n) (suc u) other t one k r l e f g =
      let m = made (suc u) other (omega arith) e in
      child_there (suc u) other m t one k f (ends_in m.creator.point m.place one.point k r (sym m.point ∙ g)) (λ more p. on_way n m.by m.creator t one k more (omega (arith, m.later)) m.at_ f p)

  -- each child of a complete task is
  pub child_complete : (t : ℕ) (one : Task) (k c : ℕ) → IsComplete tasks t → slice_get tasks t ≡ Some one → slice_get one.children k ≡ Some (number c) → IsComplete tasks c
  child_complete t one k c (complete other at_ closed each) e f = each k c (ap (λ (t : Task). slice_get t.children k) (some_is at_ e) ∙ f)

  pub complete_closed : (t : ℕ) (one : Task) → IsComplete tasks t → slice_get tasks t ≡ Some one → IsClosed one
  complete_closed t one (complete other at_ closed each) e = subst IsClosed (some_is at_ e) closed

  -- and so is all that stands below it
  pub below_complete : (n u : ℕ) (other : Task) (t : ℕ) (one : Task) (r : List ℕ) → u < n → slice_get tasks u ≡ Some other → slice_get tasks t ≡ Some one → other.point ≡ one.point ++ r → IsComplete tasks t → IsComplete tasks u
  below_complete zero u other t one r l e f g h = absurd (omega arith)
  below_complete (suc n) u other t one [] l e f g h = subst (IsComplete tasks) (one_point t u one other f e (sym (g ∙ all one.point))) h
    where
      all : (p : List ℕ) → p ++ [] ≡ p
      all [] = refl
      all (x ∷ p) = ap (λ (q : List ℕ). x ∷ q) (all p)
  below_complete (suc n) zero other t one (k ∷ r) l e f g h = absurd (not_main t one k r f (sym g ∙ main_is other e))
  below_complete (suc n) (suc u) other t one (k ∷ r) l e f g h =
      let m = made (suc u) other (omega arith) e in
      let go : EndsIn m.creator.point m.place one.point k → IsComplete tasks m.by = λ (x : EndsIn m.creator.point m.place one.point k). elim x [
        | here p q ↦ subst (IsComplete tasks) (one_point t m.by one m.creator f m.at_ (sym p)) h
        | below more p ↦ below_complete n m.by m.creator t one (k ∷ more) (omega (arith, m.later)) m.at_ f p h
      ] in
      child_complete m.by m.creator m.place (suc u) (go (ends_in m.creator.point m.place one.point k r (sym m.point ∙ g))) m.at_ m.is
