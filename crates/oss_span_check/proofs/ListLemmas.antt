-- What is in a list, by tests.
use Rattle.std.proofs.Common.{◌≡◌, ◌⊎◌, inl, inr, refl, sym, subst, ap, ◌∙◌, Bool, true, false, List, [], ◌∷◌, Option, Some, None}
use Rattle.std.specs.Prelude.{cond, not, ◌||◌, ◌&&◌}
use Rattle.std.specs.List.{list_any, find}
use Rattle.oss_model.specs.Order.{IsIn, here, there}

pub bools : (b : Bool) → (b ≡ true) ⊎ (b ≡ false)
bools true = inl refl
bools false = inr refl

pub or_parts : (a b : Bool) → (a || b) ≡ true → (a ≡ true) ⊎ (b ≡ true)
or_parts true b h = inl refl
or_parts false b h = inr h

pub or_left : {a : Bool} (b : Bool) → a ≡ true → (a || b) ≡ true
or_left b e = ap (λ (x : Bool). x || b) e

pub or_right : (a : Bool) {b : Bool} → b ≡ true → (a || b) ≡ true
or_right true e = refl
or_right false e = e

pub and_both : {a b : Bool} → a ≡ true → b ≡ true → (a && b) ≡ true
and_both {a = a} {b = b} e f = ap (λ (x : Bool). x && b) e ∙ f

pub and_parts : (a b : Bool) → (a && b) ≡ true → (a ≡ true) × (b ≡ true)
and_parts true b h = (refl, h)
and_parts false b h = absurd cc

pub not_true : (b : Bool) → not b ≡ true → b ≡ true → ⊥
not_true true h e = cc
not_true false h e = cc

pub true_not : (b : Bool) → (b ≡ true → ⊥) → not b ≡ true
true_not true h = absurd (h refl)
true_not false h = refl

list_any_first : {X : Type 0} (f : X → Bool) (x : X) (xs : List X) → list_any f (x ∷ xs) ≡ (f x || list_any f xs)
list_any_first f x xs = refl

pub any_in : {X : Type 0} (f : X → Bool) (xs : List X) → list_any f xs ≡ true → (x : X) × IsIn x xs × (f x ≡ true)
any_in f [] h = absurd cc
any_in {X = X} f (x ∷ xs) h = go (or_parts (f x) (list_any f xs) (sym (list_any_first f x xs) ∙ h)) (λ e. any_in f xs e)
  where
    go : (f x ≡ true) ⊎ (list_any f xs ≡ true) → (list_any f xs ≡ true → (y : X) × IsIn y xs × (f y ≡ true)) → (y : X) × IsIn y (x ∷ xs) × (f y ≡ true)
    go (inl e) again = (x, here, e)
    go (inr e) again = let r = again e in (r.0, there r.1, r.2)

pub in_any : {X : Type 0} (f : X → Bool) (xs : List X) (x : X) → IsIn x xs → f x ≡ true → list_any f xs ≡ true
in_any f [] x i e = elim i [ ]
in_any f (y ∷ xs) x here e = list_any_first f y xs ∙ or_left (list_any f xs) e
in_any f (y ∷ xs) x (there i) e = list_any_first f y xs ∙ or_right (f y) (in_any f xs x i e)

pub found_in : {X : Type 0} (f : X → Bool) (xs : List X) (x : X) → find f xs ≡ Some x → IsIn x xs × (f x ≡ true)
found_in f [] x h = absurd cc
found_in {X = X} f (y ∷ xs) x h = go (bools (f y)) (λ e. found_in f xs x e)
  where
    some_is : Some y ≡ Some x → y ≡ x
    some_is e = cc

    go : (f y ≡ true) ⊎ (f y ≡ false) → (find f xs ≡ Some x → IsIn x xs × (f x ≡ true)) → IsIn x (y ∷ xs) × (f x ≡ true)
    go (inl e) again =
        let q = some_is (sym (ap (λ (b : Bool). cond b (Some y) (find f xs)) e) ∙ h) in
        (subst (λ (z : X). IsIn z (y ∷ xs)) q here, subst (λ (z : X). f z ≡ true) q e)
    go (inr e) again = let r = again (sym (ap (λ (b : Bool). cond b (Some y) (find f xs)) e) ∙ h) in (there r.0, r.1)

pub in_found : {X : Type 0} (f : X → Bool) (xs : List X) (x : X) → IsIn x xs → f x ≡ true → (y : X) × (find f xs ≡ Some y)
in_found f [] x i e = elim i [ ]
in_found f (y ∷ xs) x here e = (y, ap (λ (b : Bool). cond b (Some y) (find f xs)) e)
in_found {X = X} f (y ∷ xs) x (there i) e = go (bools (f y)) (in_found f xs x i e)
  where
    go : (f y ≡ true) ⊎ (f y ≡ false) → (z : X) × (find f xs ≡ Some z) → (z : X) × (find f (y ∷ xs) ≡ Some z)
    go (inl k) again = (y, ap (λ (b : Bool). cond b (Some y) (find f xs)) k)
    go (inr k) again = (again.0, ap (λ (b : Bool). cond b (Some y) (find f xs)) k ∙ again.1)

-- tests of what may be there
pub given : {A : Type 0} (o : Option A) (f : A → Bool) → elim o as (λ x. Bool) [ None ↦ false | Some a ↦ f a ] ≡ true → (a : A) × (o ≡ Some a) × (f a ≡ true)
given None f h = absurd cc
given (Some a) f h = (a, refl, h)

pub give : {A : Type 0} (o : Option A) (f : A → Bool) (a : A) → o ≡ Some a → f a ≡ true → elim o as (λ x. Bool) [ None ↦ false | Some a ↦ f a ] ≡ true
give {A = A} o f a e h = ap (λ (x : Option A). elim x as (λ x. Bool) [ None ↦ false | Some a ↦ f a ]) e ∙ h
