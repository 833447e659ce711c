-- The tasks that may step, sifted from a list in point order: one after the other stays or is left out.
use Rattle.std.proofs.Common.{◌≡◌, ℕ, ◌+◌, ◌<◌, ◌⊎◌, inl, inr, refl, sym, subst, ap, ◌∙◌, List, [], ◌∷◌, ◌++◌, append_assoc, length, drop, get_or, false, Some}
use Rattle.std.specs.Prelude.{slice_get}
use Rattle.std.proofs.lemmas.List.{append-nil, drop_more}
use Rattle.oss_model.specs.Order.{IsIn, here, there}
use Rattle.oss_model.specs.Bodies.{Start}
use Rattle.oss_model.specs.Machine.{State}
use Rattle.oss_model.specs.declared.task_no.TaskNo.{TaskNo}
use Rattle.oss_code.specs.declared.code.CodeParts.{CodeParts}
use Rattle.oss_machine.specs.Frames.{CodeScript}
use Rattle.oss_body.specs.Relation.{is_over}
use Rattle.oss_tree.specs.declared.task.Task.{Task as TreeTask}
use Rattle.oss_tree.specs.Tasks.{number}
use Rattle.oss_kept_tasks.specs.declared.held.Held.{Held}
use Rattle.oss_enabled_moves.specs.Enabled.{MayStep}
use Rattle.oss_core.specs.Awake.{HaveSteppers}
use Rattle.oss_core.specs.Kept.{IsCore, Kept}
use Rattle.oss_core.specs.PointOrder.{AreInPointOrder}
use Rattle.oss_core.specs.Steppers.{AreSteppers, IsAddedWhere}
use Rattle.oss_core.proofs.KeepLemmas.{some_is}
use Rattle.oss_core.proofs.TreeFacts.{at_number, kept_within}

-- members of a list that is put together of two

pub in_cases : {A : Type 0} {z x : A} {xs : List A} → IsIn z (x ∷ xs) → (z ≡ x) ⊎ IsIn z xs
in_cases here = inl refl
in_cases (there i) = inr i

pub in_front : {A : Type 0} {z : A} (xs ys : List A) → IsIn z xs → IsIn z (xs ++ ys)
in_front [] ys i = elim i [ ]
in_front (x ∷ xs) ys here = here
in_front (x ∷ xs) ys (there i) = there (in_front xs ys i)

pub in_rest : {A : Type 0} {z : A} (xs ys : List A) → IsIn z ys → IsIn z (xs ++ ys)
in_rest [] ys i = i
in_rest (x ∷ xs) ys i = there (in_rest xs ys i)

pub in_either : {A : Type 0} {z : A} (xs ys : List A) → IsIn z (xs ++ ys) → IsIn z xs ⊎ IsIn z ys
in_either [] ys i = inr i
in_either (x ∷ xs) ys here = inl here
in_either {A = A} {z = z} (x ∷ xs) ys (there i) = go (in_either xs ys i)
  where
    go : IsIn z xs ⊎ IsIn z ys → IsIn z (x ∷ xs) ⊎ IsIn z ys
    go (inl j) = inl (there j)
    go (inr j) = inr j

-- one is left out in the middle

pub in_without : {A : Type 0} {z : A} (xs : List A) (x : A) (ys : List A) → IsIn z (xs ++ x ∷ ys) → (z ≡ x) ⊎ IsIn z (xs ++ ys)
in_without {A = A} {z = z} xs x ys i = go (in_either xs (x ∷ ys) i)
  where
    last : (z ≡ x) ⊎ IsIn z ys → (z ≡ x) ⊎ IsIn z (xs ++ ys)
    last (inl e) = inl e
    last (inr j) = inr (in_rest xs ys j)

    go : IsIn z xs ⊎ IsIn z (x ∷ ys) → (z ≡ x) ⊎ IsIn z (xs ++ ys)
    go (inl j) = inr (in_front xs ys j)
    go (inr j) = last (in_cases j)

pub in_with : {A : Type 0} {z : A} (xs : List A) (x : A) (ys : List A) → IsIn z (xs ++ ys) → IsIn z (xs ++ x ∷ ys)
in_with {A = A} {z = z} xs x ys i = go (in_either xs ys i)
  where
    go : IsIn z xs ⊎ IsIn z ys → IsIn z (xs ++ x ∷ ys)
    go (inl j) = in_front xs (x ∷ ys) j
    go (inr j) = in_rest xs (x ∷ ys) (there j)

order_without : (tasks : List TreeTask) (xs : List TaskNo) (x : TaskNo) (ys : List TaskNo) → AreInPointOrder tasks (xs ++ x ∷ ys) → AreInPointOrder tasks (xs ++ ys)
order_without tasks [] x ys o = o.1
order_without tasks (y ∷ xs) x ys o = (λ w i. o.0 w (in_with xs x ys i), order_without tasks xs x ys o.1)

-- a task that may step has not ended
pub stepper_runs : {code : CodeParts} {main : Start CodeScript} {first : List ℕ} {k : Kept} {s : State CodeScript} (core : IsCore code main first k s) (v : ℕ) → MayStep k.tasks k.tree.tasks k.seen v → (one : TreeTask) → slice_get k.tree.tasks v ≡ Some one → one.ended ≡ false
stepper_runs core v may one e =
    let x = at_number core v (kept_within core v may.held may.is) in
    ap (λ (o : TreeTask). o.ended) (some_is (sym e ∙ x.task_at)) ∙ x.is_known.ended ∙ sym x.is_held.body_is.ended ∙ ap (λ (h : Held). is_over h.body) (some_is (sym x.held_at ∙ may.is)) ∙ may.goes.running

-- those that were found among the first of the list, before the rest of it
pub record AreSoFar (k : Kept) (found rest : List TaskNo) : Type 0 where
  pub ordered : AreInPointOrder k.tree.tasks (found ++ rest)
  pub may : (v : TaskNo) → IsIn v found → MayStep k.tasks k.tree.tasks k.seen v.0
  pub all : (v : ℕ) → MayStep k.tasks k.tree.tasks k.seen v → IsIn (number v) (found ++ rest)

pub so_far_begins : (k : Kept) (asked : List TaskNo) → HaveSteppers k asked → AreSoFar k [] asked
so_far_begins k asked are = record { ordered = are.ordered; may = λ v i. elim i [ ]; all = are.all }

pub so_far_more : (k : Kept) (found new : List TaskNo) (v : TaskNo) (rest : List TaskNo) → AreSoFar k found (v ∷ rest) → IsAddedWhere (MayStep k.tasks k.tree.tasks k.seen v.0) v found new → AreSoFar k new rest
so_far_more k found new v rest x (inl (may, e)) = subst (λ (xs : List TaskNo). AreSoFar k xs rest) (sym e) (record {
  ordered = subst (AreInPointOrder k.tree.tasks) (sym (append_assoc found (v ∷ []) rest)) x.ordered;
  may = λ w i. may_of w (in_either found (v ∷ []) i);
  all = λ w m. subst (IsIn (number w)) (sym (append_assoc found (v ∷ []) rest)) (x.all w m);
})
  where
    one_of : (w : TaskNo) → (w ≡ v) ⊎ IsIn w [] → MayStep k.tasks k.tree.tasks k.seen w.0
    one_of w (inl f) = subst (λ (t : TaskNo). MayStep k.tasks k.tree.tasks k.seen t.0) (sym f) may
    one_of w (inr i) = elim i [ ]

    may_of : (w : TaskNo) → IsIn w found ⊎ IsIn w (v ∷ []) → MayStep k.tasks k.tree.tasks k.seen w.0
    may_of w (inl i) = x.may w i
    may_of w (inr i) = one_of w (in_cases i)
so_far_more k found new v rest x (inr (may_not, e)) = subst (λ (xs : List TaskNo). AreSoFar k xs rest) (sym e) (record {
  ordered = order_without k.tree.tasks found v rest x.ordered;
  may = x.may;
  all = λ w m. left_in w m (in_without found v rest (x.all w m));
})
  where
    left_in : (w : ℕ) → MayStep k.tasks k.tree.tasks k.seen w → (number w ≡ v) ⊎ IsIn (number w) (found ++ rest) → IsIn (number w) (found ++ rest)
    left_in w m (inl f) = absurd (may_not (subst (λ (t : TaskNo). MayStep k.tasks k.tree.tasks k.seen t.0) f m))
    left_in w m (inr i) = i

pub so_far_done : (k : Kept) (found rest : List TaskNo) → rest ≡ [] → AreSoFar k found rest → AreSteppers k found
so_far_done k found rest e x =
    let all : found ++ rest ≡ found = ap (λ (xs : List TaskNo). found ++ xs) e ∙ append-nil found in
    record {
      ordered = subst (AreInPointOrder k.tree.tasks) all x.ordered;
      may = x.may;
      all = λ v m. subst (IsIn (number v)) all (x.all v m);
    }

-- the same at the place of a list to which a loop has come; what is kept meanwhile is the same
pub so_far_next : (k now : Kept) (left found new : List TaskNo) (i : ℕ) (d : TaskNo) → i < length left → now ≡ k → AreSoFar k found (drop i left) → IsAddedWhere (MayStep now.tasks now.tree.tasks now.seen (get_or left i d).0) (get_or left i d) found new
    → AreSoFar k new (drop (i + 1) left)
so_far_next k now left found new i d l same x added =
    so_far_more k found new (get_or left i d) (drop (i + 1) left) (subst (AreSoFar k found) (drop_more left i d l) x)
    (subst (λ (y : Kept). IsAddedWhere (MayStep y.tasks y.tree.tasks y.seen (get_or left i d).0) (get_or left i d) found new) same added)
