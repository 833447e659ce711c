-- A list of tasks each of which stands before the next one is in point order.
use Rattle.std.proofs.Common.{◌≡◌, ℕ, suc, ◌+◌, ◌<◌, ◌≤◌, ◌⊎◌, inl, inr, refl, subst, arith, List, [], ◌∷◌, length, get_or, Some}
use Rattle.std.specs.Prelude.{slice_get}
use Rattle.std.proofs.lemmas.Option.{slice_get-get_or}
use Rattle.oss_deps.proofs.Basics.{compared, same_at, value_within}
use Rattle.oss_model.specs.Order.{IsBefore, IsIn, here, there}
use Rattle.oss_model.specs.declared.task_no.TaskNo.{TaskNo}
use Rattle.oss_model.proofs.OrderLemmas.{before_trans}
use Rattle.oss_tree.specs.declared.task.Task.{Task}
use Rattle.oss_tree.specs.Tasks.{HasPoint}
use Rattle.oss_core.specs.PointOrder.{AreInPointOrder}
use Rattle.oss_core.specs.Ordering.{ArePointsBefore}

-- a task of the list has a point
has_point : (tasks : List Task) (v : TaskNo) → v.0 < length tasks → (p : List ℕ) × HasPoint tasks v.0 p
has_point tasks v l = let t = value_within tasks v.0 l in (t.0.point, record { task = t.0; at_ = t.1; point = refl })

-- Of the first so many tasks each stands before the next one.
abbrev pub DoRise : List Task → List TaskNo → ℕ → Type 0
DoRise tasks list n = (i : ℕ) (v w : TaskNo) → suc i < n → slice_get list i ≡ Some v → slice_get list (suc i) ≡ Some w → ArePointsBefore tasks v w

pub rise_begins : (tasks : List Task) (list : List TaskNo) → DoRise tasks list 1
rise_begins tasks list i v w l = absurd (omega (arith, l))

-- one more
pub rise_next : (tasks : List Task) (list : List TaskNo) (at before : ℕ) (d : TaskNo) → before + 1 ≡ at → at < length list → ArePointsBefore tasks (get_or list before d) (get_or list at d) → DoRise tasks list at → DoRise tasks list (at + 1)
rise_next tasks list at before d e l b rise i v w h first second = go (compared (suc i) at)
  where
    one : (k : ℕ) (x : TaskNo) → k < length list → slice_get list k ≡ Some x → get_or list k d ≡ x
    one k x m is = same_at (slice_get-get_or list k d m) is

    go : (suc i < at) ⊎ ((suc i ≡ at) ⊎ (at < suc i)) → ArePointsBefore tasks v w
    go (inl m) = rise i v w m first second
    go (inr (inr m)) = absurd (omega (arith, h, m))
    go (inr (inl m)) =
        let same : i ≡ before = omega (arith, e, m) in
        let left = one before v (omega (arith, e, l)) (subst (λ (k : ℕ). slice_get list k ≡ Some v) same first) in
        let right = one at w l (subst (λ (k : ℕ). slice_get list k ≡ Some w) m second) in
        subst (λ (x : TaskNo). ArePointsBefore tasks x w) left (subst (λ (y : TaskNo). ArePointsBefore tasks (get_or list before d) y) right b)

-- so all of them are in order
pub rise_all : (tasks : List Task) (list : List TaskNo) (n : ℕ) → ((v : TaskNo) → IsIn v list → v.0 < length tasks) → length list ≤ n → DoRise tasks list n → AreInPointOrder tasks list
rise_all tasks [] n there_are l rise = tt
rise_all tasks (v ∷ []) n there_are l rise = ((λ w i. elim i [ ]), tt)
rise_all tasks (v ∷ x ∷ rest) n there_are l rise =
    let behind : AreInPointOrder tasks (x ∷ rest) = rise_all tasks (x ∷ rest) (length (x ∷ rest)) (λ w i. there_are w (there i)) (omega arith) (λ i a b m e f. rise (suc i) a b (omega (arith, l, m)) e f) in
    let next : ArePointsBefore tasks v x = rise 0 v x (omega (arith, l)) refl refl in
    (go next behind, behind)
  where
    go : ArePointsBefore tasks v x → AreInPointOrder tasks (x ∷ rest) → (w : TaskNo) → IsIn w (x ∷ rest) → (p q : List ℕ) → HasPoint tasks v.0 p → HasPoint tasks w.0 q → IsBefore p q
    go next behind w here p q hp hq = next p q hp hq
    go next behind w (there i) p q hp hq = let m = has_point tasks x (there_are x (there here)) in before_trans (next p m.0 hp m.1) (behind.0 w i m.0 q m.1 hq)
