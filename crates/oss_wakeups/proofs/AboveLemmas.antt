-- Waking those that watch a task above one of a list, one of the list after the other.
use Rattle.std.proofs.Common.{◌≡◌, ℕ, ◌+◌, ◌<◌, ◌⊎◌, inl, inr, refl, sym, ap, ◌∙◌, subst, List, [], ◌∷◌, ◌++◌, length, take, get_or, true, false, Some}
use Rattle.std.specs.Prelude.{slice_get}
use Rattle.std.proofs.lemmas.List.{take_more}
use Rattle.oss_model.specs.Order.{IsIn, here, there}
use Rattle.oss_tree.specs.declared.task.Task.{Task as TreeTask}
use Rattle.oss_tree.proofs.ListLemmas.{some_is}
use Rattle.oss_core.specs.declared.passing.Passed.{Passed}
use Rattle.oss_core.specs.declared.turns.Turn.{Turn}
use Rattle.oss_core.proofs.WavingLemmas.{take_one}
use Rattle.oss_wakeups.specs.declared.watch.Watch.{Watch}
use Rattle.oss_wakeups.specs.Watches.{IsAboveEnded, IsAbovePassed}
use Rattle.oss_wakeups.specs.Watching.{HasWoken, IsAtOrAbove}
use Rattle.oss_wakeups.proofs.WakingLemmas.{woken_both, woken_fewer, woken_nobody}

-- members of a list with one more behind it
in_last : {A : Type 0} {x : A} (xs : List A) (y : A) → IsIn x (xs ++ y ∷ []) → IsIn x xs ⊎ (x ≡ y)
in_last [] y here = inr refl
in_last [] y (there i) = elim i [ ]
in_last (z ∷ xs) y here = inl here
in_last {A = A} {x = x} (z ∷ xs) y (there i) = go (in_last xs y i)
  where
    go : IsIn x xs ⊎ (x ≡ y) → IsIn x (z ∷ xs) ⊎ (x ≡ y)
    go (inl j) = inl (there j)
    go (inr e) = inr e

pub ended_none : (tasks : List TreeTask) (w : Watch) → HasWoken (IsAboveEnded tasks []) w w
ended_none tasks w = woken_nobody (IsAboveEnded tasks []) w (λ u m. elim m.listed [ ])

pub passed_none : (tasks : List TreeTask) (w : Watch) → HasWoken (IsAbovePassed tasks []) w w
passed_none tasks w = woken_nobody (IsAbovePassed tasks []) w (λ u m. elim m.listed [ ])

-- the turn of a task that has ended
pub ended_more : (tasks : List TreeTask) (turns : List Turn) (i : ℕ) (d : Turn) → i < length turns → (one : TreeTask) → slice_get tasks (get_or turns i d).task.0 ≡ Some one → one.ended ≡ true → (a b c : Watch) → HasWoken (IsAboveEnded tasks (take i turns)) a b
    → HasWoken (λ u. IsAtOrAbove tasks u (get_or turns i d).task.0) b c → HasWoken (IsAboveEnded tasks (take (i + 1) turns)) a c
ended_more tasks turns i d l one is ended a b c h k = subst (λ (ts : List Turn). HasWoken (IsAboveEnded tasks ts) a c) (sym (take_more turns i d l))
    (woken_both (IsAboveEnded tasks (take i turns)) (λ u. IsAtOrAbove tasks u (get_or turns i d).task.0) (IsAboveEnded tasks (take i turns ++ get_or turns i d ∷ [])) a b c (λ u n m x. either u n m x (in_last (take i turns) (get_or turns i d) x.listed)) h k)
  where
    either : (u : ℕ) → (IsAboveEnded tasks (take i turns) u → ⊥) → (IsAtOrAbove tasks u (get_or turns i d).task.0 → ⊥) → (x : IsAboveEnded tasks (take i turns ++ get_or turns i d ∷ []) u) → IsIn x.turn (take i turns) ⊎ (x.turn ≡ get_or turns i d) → ⊥
    either u n m x (inl j) = n (record { turn = x.turn; listed = j; one = x.one; at_ = x.at_; ended = x.ended; above = x.above })
    either u n m x (inr e) = m (subst (λ (t : Turn). IsAtOrAbove tasks u t.task.0) e x.above)

-- and of one that has not
pub ended_not : (tasks : List TreeTask) (turns : List Turn) (i : ℕ) (d : Turn) → i < length turns → (one : TreeTask) → slice_get tasks (get_or turns i d).task.0 ≡ Some one → one.ended ≡ false → (a b : Watch) → HasWoken (IsAboveEnded tasks (take i turns)) a b
    → HasWoken (IsAboveEnded tasks (take (i + 1) turns)) a b
ended_not tasks turns i d l one is running a b h = subst (λ (ts : List Turn). HasWoken (IsAboveEnded tasks ts) a b) (sym (take_more turns i d l))
    (woken_fewer (IsAboveEnded tasks (take i turns)) (IsAboveEnded tasks (take i turns ++ get_or turns i d ∷ [])) a b (λ u n x. either u n x (in_last (take i turns) (get_or turns i d) x.listed)) h)
  where
    never : true ≡ false → ⊥
    never e = cc

    either : (u : ℕ) → (IsAboveEnded tasks (take i turns) u → ⊥) → (x : IsAboveEnded tasks (take i turns ++ get_or turns i d ∷ []) u) → IsIn x.turn (take i turns) ⊎ (x.turn ≡ get_or turns i d) → ⊥
    either u n x (inl j) = n (record { turn = x.turn; listed = j; one = x.one; at_ = x.at_; ended = x.ended; above = x.above })
    either u n x (inr e) = never (sym x.ended ∙ (ap (λ (t : TreeTask). t.ended) (some_is x.at_ (subst (λ (t : Turn). slice_get tasks t.task.0 ≡ Some one) (sym e) is)) ∙ running))

-- what was passed of a task
pub passed_more : (tasks : List TreeTask) (passed : List Passed) (i : ℕ) (one : Passed) → slice_get passed i ≡ Some one → (a b c : Watch) → HasWoken (IsAbovePassed tasks (take i passed)) a b → HasWoken (λ u. IsAtOrAbove tasks u one.task.0) b c
    → HasWoken (IsAbovePassed tasks (take (i + 1) passed)) a c
passed_more tasks passed i one e a b c h k = subst (λ (ts : List Passed). HasWoken (IsAbovePassed tasks ts) a c) (sym (take_one passed i one e))
    (woken_both (IsAbovePassed tasks (take i passed)) (λ u. IsAtOrAbove tasks u one.task.0) (IsAbovePassed tasks (take i passed ++ one ∷ [])) a b c (λ u n m x. either u n m x (in_last (take i passed) one x.listed)) h k)
  where
    either : (u : ℕ) → (IsAbovePassed tasks (take i passed) u → ⊥) → (IsAtOrAbove tasks u one.task.0 → ⊥) → (x : IsAbovePassed tasks (take i passed ++ one ∷ []) u) → IsIn x.one (take i passed) ⊎ (x.one ≡ one) → ⊥
    either u n m x (inl j) = n (record { one = x.one; listed = j; above = x.above })
    either u n m x (inr f) = m (subst (λ (t : Passed). IsAtOrAbove tasks u t.task.0) f x.above)
