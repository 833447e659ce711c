-- All that are open will end, and of each that has ended something is told.
use Rattle.std.proofs.Common.{◌≡◌, ℕ, zero, suc, ◌<◌, refl, sym, subst, ap, List, [], ◌∷◌, ◌++◌, length, arith, Option, Some, None}
use Rattle.std.specs.Prelude.{slice_set}
use Rattle.std.proofs.lemmas.List.{length-append, set-append_left}
use Rattle.std.proofs.Math.Seq.{set-append_seam}
use Rattle.oss_lacks.specs.declared.lacks.TaskLacks.{TaskLacks}
use Rattle.oss_lacks.specs.Asking.{Asking}
use Rattle.oss_lacks.specs.Following.{AllEnded, AllWillEnd, AreTold, told_in}
use Rattle.oss_lacks.specs.Lacks.{AreTaskLacks, IsTaskLacks}
use Rattle.oss_lacks.specs.Nests.{Numbered}

-- One more that has ended.
more_ended : {A : Type 0} (xs : List (Option A)) (t : A) → AllEnded xs → AllEnded (xs ++ Some t ∷ [])
more_ended [] t h = tt
more_ended (Some x ∷ xs) t h = more_ended xs t h
more_ended (None ∷ xs) t h = absurd h

one_longer : {A : Type 0} (n : ℕ) (xs : List A) (x : A) → n < length xs → n < length (xs ++ x ∷ [])
one_longer n xs x l = let e = length-append xs (x ∷ []) in omega (arith, e)

ends_more : {A : Type 0} (n : ℕ) (above : List (Numbered A)) (ended : List (Option A)) (t : A) → AllWillEnd n above ended → AllWillEnd n above (ended ++ Some t ∷ [])
ends_more n [] ended t h = more_ended ended t h
ends_more n (c ∷ above) ended t h = (
  one_longer n ended (Some t) h.0,
  λ u. subst (λ xs. AllWillEnd c.number above xs) (sym (set-append_left ended (Some t ∷ []) n (Some u) h.0)) (ends_more c.number above (slice_set ended n (Some u)) t (h.1 u)),
)

-- A task is created, and acts.
pub ends_opened : {A : Type 0} (k : Numbered A) (above : List (Numbered A)) (ended : List (Option A)) → AllWillEnd k.number above ended → AllWillEnd (length ended) (k ∷ above) (ended ++ None ∷ [])
ends_opened k above ended h = (
  let e = length-append ended (None ∷ []) in omega (arith, e),
  λ t. subst (λ xs. AllWillEnd k.number above xs) (sym (set-append_seam ended None [] (Some t))) (ends_more k.number above ended t h),
)

-- What is told of each
pub told_more : (ts : List (Option Asking)) (ks : List (Option TaskLacks)) → AreTold ts ks → AreTold (ts ++ None ∷ []) (ks ++ None ∷ [])
told_more [] [] h = tt
told_more [] (x ∷ ks) h = absurd h
told_more (None ∷ ts) [] h = absurd h
told_more (Some t ∷ ts) [] h = absurd h
told_more (None ∷ ts) (None ∷ ks) h = told_more ts ks h
told_more (None ∷ ts) (Some x ∷ ks) h = absurd h
told_more (Some t ∷ ts) (None ∷ ks) h = absurd h
told_more (Some t ∷ ts) (Some x ∷ ks) h = (h.0, told_more ts ks h.1)

pub told_length : (ts : List (Option Asking)) (ks : List (Option TaskLacks)) → AreTold ts ks → length ts ≡ length ks
told_length [] [] h = refl
told_length [] (x ∷ ks) h = absurd h
told_length (None ∷ ts) [] h = absurd h
told_length (Some t ∷ ts) [] h = absurd h
told_length (None ∷ ts) (None ∷ ks) h = ap suc (told_length ts ks h)
told_length (None ∷ ts) (Some x ∷ ks) h = absurd h
told_length (Some t ∷ ts) (None ∷ ks) h = absurd h
told_length (Some t ∷ ts) (Some x ∷ ks) h = ap suc (told_length ts ks h.1)

pub told_set : (ts : List (Option Asking)) (ks : List (Option TaskLacks)) (i : ℕ) (t : Asking) (k : TaskLacks) → AreTold ts ks → IsTaskLacks t k → AreTold (slice_set ts i (Some t)) (slice_set ks i (Some k))
told_set [] [] i t k h m = tt
told_set [] (x ∷ ks) i t k h m = absurd h
told_set (None ∷ ts) [] i t k h m = absurd h
told_set (Some u ∷ ts) [] i t k h m = absurd h
told_set (None ∷ ts) (None ∷ ks) zero t k h m = (m, h)
told_set (None ∷ ts) (None ∷ ks) (suc i) t k h m = told_set ts ks i t k h m
told_set (None ∷ ts) (Some x ∷ ks) i t k h m = absurd h
told_set (Some u ∷ ts) (None ∷ ks) i t k h m = absurd h
told_set (Some u ∷ ts) (Some x ∷ ks) zero t k h m = (m, h.1)
told_set (Some u ∷ ts) (Some x ∷ ks) (suc i) t k h m = (h.0, told_set ts ks i t k h.1 m)

-- At the end of all it is told of each.
pub all_told : (ts : List (Option Asking)) (ks : List (Option TaskLacks)) → AllEnded ts → AreTold ts ks → AreTaskLacks ts (told_in ks)
all_told [] [] e h = tt
all_told [] (x ∷ ks) e h = absurd h
all_told (None ∷ ts) ks e h = absurd e
all_told (Some t ∷ ts) [] e h = absurd h
all_told (Some t ∷ ts) (None ∷ ks) e h = absurd h
all_told (Some t ∷ ts) (Some x ∷ ks) e h = (h.0, all_told ts ks e h.1)
