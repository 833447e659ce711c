-- Lists in which no task stands twice.
use Rattle.std.proofs.Common.{◌≡◌, ◌⊎◌, inl, inr, subst, List, [], ◌∷◌, ◌++◌}
use Rattle.oss_model.specs.Order.{IsIn, here, there}
use Rattle.oss_model.specs.declared.task_no.TaskNo.{TaskNo}
use Rattle.oss_tree.specs.declared.task.Task.{Task as TreeTask}
use Rattle.oss_core.specs.PointOrder.{AreInPointOrder}
use Rattle.oss_core.specs.Ordering.{AreOnce}
use Rattle.oss_core.proofs.SteppersLemmas.{in_cases, in_either, in_rest, in_with}

-- one more, behind the others
pub once_last : (xs : List TaskNo) (x : TaskNo) → AreOnce xs → (IsIn x xs → ⊥) → AreOnce (xs ++ x ∷ [])
once_last [] x o n = (λ i. elim i [ ], tt)
once_last (y ∷ xs) x o n = (λ i. other (in_either xs (x ∷ []) i), once_last xs x o.1 (λ i. n (there i)))
  where
    same : (y ≡ x) ⊎ IsIn y [] → ⊥
    same (inl e) = n (subst (λ (z : TaskNo). IsIn z (y ∷ xs)) e here)
    same (inr i) = elim i [ ]

    other : IsIn y xs ⊎ IsIn y (x ∷ []) → ⊥
    other (inl i) = o.0 i
    other (inr i) = same (in_cases i)

-- one is left out
pub once_without : (xs : List TaskNo) (x : TaskNo) (ys : List TaskNo) → AreOnce (xs ++ x ∷ ys) → AreOnce (xs ++ ys)
once_without [] x ys o = o.1
once_without (y ∷ xs) x ys o = (λ i. o.0 (in_with xs x ys i), once_without xs x ys o.1)

pub not_in : (xs : List TaskNo) (x : TaskNo) (ys : List TaskNo) → AreOnce (xs ++ x ∷ ys) → IsIn x (xs ++ ys) → ⊥
not_in [] x ys o i = o.0 i
not_in (y ∷ xs) x ys o here = o.0 (in_rest xs (y ∷ ys) here)
not_in (y ∷ xs) x ys o (there i) = not_in xs x ys o.1 i

pub order_without : (tasks : List TreeTask) (xs : List TaskNo) (x : TaskNo) (ys : List TaskNo) → AreInPointOrder tasks (xs ++ x ∷ ys) → AreInPointOrder tasks (xs ++ ys)
order_without tasks [] x ys o = o.1
order_without tasks (y ∷ xs) x ys o = (λ w i. o.0 w (in_with xs x ys i), order_without tasks xs x ys o.1)
