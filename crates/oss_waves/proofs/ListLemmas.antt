-- What is so of lists, place by place, and of what follows of an answer.
use Rattle.std.proofs.Common.{◌≡◌, ℕ, zero, suc, ◌+◌, ◌<◌, refl, sym, ap, ◌∙◌, subst, arith, List, [], ◌∷◌, ◌++◌, length, take, get_or, append_assoc, Some}
use Rattle.std.specs.Prelude.{slice_get, map}
use Rattle.std.proofs.lemmas.Option.{slice_get-get_or}
use Rattle.oss_thread_groups.specs.Groups.{AreGiven}
use Rattle.oss_thread_groups.proofs.ListLemmas.{given_more}

-- what two lists map to
pub map_both : {A B : Type 0} (f : A → B) (xs ys : List A) → map f (xs ++ ys) ≡ map f xs ++ map f ys
map_both f [] ys = refl
map_both f (x ∷ xs) ys = ap (λ zs. f x ∷ zs) (map_both f xs ys)

-- one more of a list that is taken from the front
pub take_one : {A : Type 0} (xs : List A) (n : ℕ) (x : A) → slice_get xs n ≡ Some x → take (n + 1) xs ≡ take n xs ++ (x ∷ [])
take_one [] n x e = absurd cc
take_one (y ∷ xs) zero x e = let k : y ≡ x = cc in ap (λ z. z ∷ []) k
take_one (y ∷ xs) (suc n) x e =
    let s : suc n + 1 ≡ suc (n + 1) = omega arith in
    subst (λ (k : ℕ). take k (y ∷ xs) ≡ take (suc n) (y ∷ xs) ++ (x ∷ [])) (sym s) (ap (λ zs. y ∷ zs) (take_one xs n x e))

-- one more of what was made of the front of a list, behind what stood before
pub given_one : {A B : Type 0} (R : A → B → Type 0) (xs : List A) (n : ℕ) (x : A) (y : B) (before now after : List B) → slice_get xs n ≡ Some x → R x y → after ≡ now ++ (y ∷ [])
    → (added : List B) × (now ≡ before ++ added) × AreGiven R (take n xs) added → (added : List B) × (after ≡ before ++ added) × AreGiven R (take (n + 1) xs) added
given_one R xs n x y before now after e r a h =
    let k : AreGiven R (take n xs ++ (x ∷ [])) (h.0 ++ (y ∷ [])) = given_more R (take n xs) h.0 (h.0 ++ (y ∷ [])) x y refl h.2 r in
    (h.0 ++ (y ∷ []), a ∙ ap (λ zs. zs ++ (y ∷ [])) h.1 ∙ append_assoc before h.0 (y ∷ []), subst (λ (zs : List _). AreGiven R zs (h.0 ++ (y ∷ []))) (sym (take_one xs n x e)) k)

-- what stands at a place
pub slice_item : {A : Type 0} (xs : List A) (n : ℕ) (d : A) → n < length xs → slice_get xs n ≡ Some (get_or xs n d)
slice_item xs n d l = slice_get-get_or xs n d l

-- the same of one that was copied
pub item_at : {A : Type 0} (xs : List A) (n : ℕ) (x : A) → n < length xs → x ≡ get_or xs n x → slice_get xs n ≡ Some x
item_at xs n x l e = slice_get-get_or xs n x l ∙ ap (λ (y : _). Some y) (sym e)
