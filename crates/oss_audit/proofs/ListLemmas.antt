-- Items of lists, and lists that rise.
use Rattle.std.proofs.Common.{◌≡◌, ◌⊎◌, inl, inr, refl, List, [], ◌∷◌, ◌++◌}
use Rattle.oss_model.specs.Order.{IsIn, here, there}
use Rattle.oss_audit.specs.declared.unused.Unused.{Unused}
use Rattle.oss_audit.specs.Unused.{IsAhead, Rises}

pub in_left : {A : Type 0} {x : A} {xs : List A} (ys : List A) → IsIn x xs → IsIn x (xs ++ ys)
in_left ys here = here
in_left ys (there h) = there (in_left ys h)

pub in_right : {A : Type 0} {x : A} (xs : List A) {ys : List A} → IsIn x ys → IsIn x (xs ++ ys)
in_right [] h = h
in_right (y ∷ xs) h = there (in_right xs h)

pub in_either : {A : Type 0} {x : A} (xs : List A) {ys : List A} → IsIn x (xs ++ ys) → IsIn x xs ⊎ IsIn x ys
in_either [] h = inr h
in_either (y ∷ xs) here = inl here
in_either {x = x} (y ∷ xs) {ys = ys} (there h) = go (in_either xs h)
  where
    go : IsIn x xs ⊎ IsIn x ys → IsIn x (y ∷ xs) ⊎ IsIn x ys
    go (inl i) = inl (there i)
    go (inr i) = inr i

pub in_one : {A : Type 0} {x y : A} → IsIn x (y ∷ []) → x ≡ y
in_one here = refl
in_one (there h) = elim h [ ]

pub rises_both : (us vs : List Unused) → Rises us → Rises vs → ((u v : Unused) → IsIn u us → IsIn v vs → IsAhead u v) → Rises (us ++ vs)
rises_both [] vs h k ahead = k
rises_both (u ∷ us) vs (first, rest) k ahead = (λ v i. go v (in_either us i), rises_both us vs rest k (λ w v i j. ahead w v (there i) j))
  where
    go : (v : Unused) → IsIn v us ⊎ IsIn v vs → IsAhead u v
    go v (inl i) = first v i
    go v (inr i) = ahead u v here i
