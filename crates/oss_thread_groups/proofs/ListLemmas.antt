-- What is so of a list that grows at its end.
use Rattle.std.proofs.Common.{◌≡◌, List, [], ◌∷◌, ◌++◌, refl, sym, ap, ◌∙◌, subst, append_assoc, arith, Result, Ok, Err}
use Rattle.std.specs.Prelude.{Vec, IfOk, ℕ, suc, ◌<◌, length, slice_index_or}
use Rattle.std.specs.List.{AllByRecursion}
use Rattle.std.proofs.lemmas.List.{append-nil}
use Rattle.std.specs.declared.alloc.AllocError.{AllocError}
use Rattle.std.specs.declared.alloc.Global.{Global}
use Rattle.oss_thread_groups.specs.Groups.{AreGiven, IsJoined}

-- one more of which it is so
pub all_more : {A : Type 0} (P : A → Type 0) (xs : List A) (x : A) → AllByRecursion P xs → P x → AllByRecursion P (xs ++ (x ∷ []))
all_more P [] x h k = (k, tt)
all_more P (y ∷ xs) x h k = (h.0, all_more P xs x h.1 k)

-- what was made of one list, and of another behind it
pub given_both : {J X : Type 0} (R : J → X → Type 0) (xs ys : List J) (us vs : List X) → AreGiven R xs us → AreGiven R ys vs → AreGiven R (xs ++ ys) (us ++ vs)
given_both R [] ys [] vs h k = k
given_both R [] ys (u ∷ us) vs h k = absurd h
given_both R (x ∷ xs) ys [] vs h k = absurd h
given_both R (x ∷ xs) ys (u ∷ us) vs h k = (h.0, given_both R xs ys us vs h.1 k)

-- one more job with its answer
pub given_more : {J X : Type 0} (R : J → X → Type 0) (xs : List J) (us vs : List X) (x : J) (u : X) → vs ≡ us ++ (u ∷ []) → AreGiven R xs us → R x u → AreGiven R (xs ++ (x ∷ [])) vs
given_more R xs us vs x u e h k = subst (λ (zs : List _). AreGiven R (xs ++ (x ∷ [])) zs) (sym e) (given_both R xs (x ∷ []) us (u ∷ []) h (k, tt))

-- what was made of each place
pub given_by_place : {J X : Type 0} (R : J → X → Type 0) (xs : List J) (us : List X) → length us ≡ length xs → ((i : ℕ) (d : X) (e : J) → i < length xs → R (slice_index_or xs i e) (slice_index_or us i d)) → AreGiven R xs us
given_by_place R [] [] e h = tt
given_by_place R [] (u ∷ us) e h = absurd (omega (arith, e))
given_by_place R (x ∷ xs) [] e h = absurd (omega (arith, e))
given_by_place R (x ∷ xs) (u ∷ us) e h = (h 0 u x (omega arith), given_by_place R xs us (omega (arith, e)) (λ i d k l. h (suc i) d k (omega arith)))

-- the answers of one more group
joined_at_end : {X : Type 0} (parts : List (Result (Vec X Global) AllocError)) (all : List X) (done : Vec X Global) → IsJoined parts all → IsJoined (parts ++ (Ok done ∷ [])) (all ++ done.items)
joined_at_end [] all done h = ([], rw h (sym (append-nil done.items)), refl)
joined_at_end (Ok first ∷ parts) all done h = (h.0 ++ done.items, ap (λ xs. xs ++ done.items) h.1 ∙ append_assoc first.items h.0 done.items, joined_at_end parts h.0 done h.2)
joined_at_end (Err error ∷ parts) all done h = absurd h

-- the same of a list that has grown by them
pub joined_more : {X : Type 0} (parts : List (Result (Vec X Global) AllocError)) (all new : List X) (part : Result (Vec X Global) AllocError) (done : Vec X Global) → part ≡ Ok done → new ≡ all ++ done.items → IsJoined parts all → IsJoined (parts ++ (part ∷ [])) new
joined_more parts all new part done e k h = subst (λ (p : Result (Vec _ Global) AllocError). IsJoined (parts ++ (p ∷ [])) new) (sym e) (subst (λ (zs : List _). IsJoined (parts ++ (Ok done ∷ [])) zs) (sym k) (joined_at_end parts all done h))

-- what follows of an answer
pub if_ok : {A E : Type 0} {F G : A → Type 0} (r : Result A E) → ((x : A) → F x → G x) → IfOk r F → IfOk r G
if_ok (Ok x) h p = h x p
if_ok (Err e) h p = tt
