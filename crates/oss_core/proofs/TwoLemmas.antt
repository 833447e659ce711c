-- The list of main and its one child has all tasks.
use Rattle.std.proofs.Common.{◌≡◌, ℕ, zero, suc, ◌<◌, ◌⊎◌, inl, inr, sym, subst, ap, ◌∙◌, arith, List, [], ◌∷◌, ◌++◌, length}
use Rattle.std.specs.Prelude.{slice_get}
use Rattle.oss_model.specs.Order.{IsBefore, IsIn, here, there, same, shorter}
use Rattle.oss_model.specs.declared.task_no.TaskNo.{TaskNo}
use Rattle.oss_wave_laws.proofs.SumLemmas.{in_cases, in_none}
use Rattle.oss_tree.specs.declared.task.Task.{Task}
use Rattle.oss_tree.specs.Tasks.{HasPoint, IsTree, number}
use Rattle.oss_core.specs.Awake.{HaveGivers}
use Rattle.oss_core.specs.Kept.{Kept}
use Rattle.oss_core.proofs.KeepLemmas.{some_is}

-- main's point
main_is : (tasks : List Task) → IsTree tasks → (p : List ℕ) → HasPoint tasks 0 p → p ≡ 0 ∷ []
main_is tasks tree p h = sym h.point ∙ ap (λ (t : Task). t.point) (some_is (sym h.at_ ∙ tree.main_at)) ∙ tree.main_point

-- the point of the task behind it
child_is : (tasks : List Task) → IsTree tasks → (q : List ℕ) → HasPoint tasks 1 q → (k : ℕ) × (q ≡ 0 ∷ k ∷ [])
child_is tasks tree q h =
    let made = tree.created 1 h.task (omega arith) h.at_ in
    let child = tree.children made.number_is made.creator made.at_ made.place 1 made.is in
    let l = child.later in
    let first : made.number_is ≡ 0 = omega (arith, l) in
    let creator : made.creator ≡ tree.main = some_is (sym made.at_ ∙ ap (λ (n : ℕ). slice_get tasks n) first ∙ tree.main_at) in
    let point : made.creator.point ≡ 0 ∷ [] = ap (λ (t : Task). t.point) creator ∙ tree.main_point in
    (made.place, sym h.point ∙ ap (λ (t : Task). t.point) (some_is (sym h.at_ ∙ child.at_)) ∙ child.point ∙ ap (λ (p : List ℕ). p ++ made.place ∷ []) point)

pub two_asked : (k : Kept) → IsTree k.tree.tasks → length k.tree.tasks ≡ 2 → HaveGivers k (number 0 ∷ number 1 ∷ [])
two_asked k tree size = record {
  ordered = ((λ w h p q hp hq. order w (in_cases h) p q hp hq), ((λ w h. absurd (in_none h)), tt));
  there = λ v h. within v (in_cases h);
  all = λ v l. inl (all v l);
}
  where
    order : (w : TaskNo) → (w ≡ number 1) ⊎ IsIn w [] → (p q : List ℕ) → HasPoint k.tree.tasks 0 p → HasPoint k.tree.tasks w.0 q → IsBefore p q
    order w (inr h) p q hp hq = absurd (in_none h)
    order w (inl e) p q hp hq =
        let a = main_is k.tree.tasks tree p hp in
        let b = child_is k.tree.tasks tree q (subst (λ (t : TaskNo). HasPoint k.tree.tasks t.0 q) e hq) in
        let c : IsBefore (0 ∷ []) (0 ∷ b.0 ∷ []) = same shorter in
        subst (λ (x : List ℕ). IsBefore x q) (sym a) (subst (λ (y : List ℕ). IsBefore (0 ∷ []) y) (sym b.1) c)

    last : (v : TaskNo) → (v ≡ number 1) ⊎ IsIn v [] → v.0 < length k.tree.tasks
    last v (inl e) = let f : v.0 ≡ 1 = ap (λ (t : TaskNo). t.0) e in omega (arith, f, size)
    last v (inr h) = absurd (in_none h)

    within : (v : TaskNo) → (v ≡ number 0) ⊎ IsIn v (number 1 ∷ []) → v.0 < length k.tree.tasks
    within v (inl e) = let f : v.0 ≡ 0 = ap (λ (t : TaskNo). t.0) e in omega (arith, f, size)
    within v (inr h) = last v (in_cases h)

    all : (v : ℕ) → v < length k.tree.tasks → IsIn (number v) (number 0 ∷ number 1 ∷ [])
    all zero l = here
    all (suc zero) l = there here
    all (suc (suc v)) l = absurd (omega (arith, l, size))
