-- Lists that are turned round have the same members and the same ticks.
use Rattle.std.proofs.Common.{◌≡◌, ◌⊎◌, inl, inr, refl, sym, subst, ap, ◌∙◌, ℕ, ◌+◌, List, [], ◌∷◌, ◌++◌, arith}
use Rattle.std.specs.Prelude.{reverse}
use Rattle.std.proofs.lemmas.List.{reverse-append}
use Rattle.oss_model.specs.Order.{IsIn, here, there}
use Rattle.oss_chain_laws.specs.Chains.{capped, ticks_in}

module _ {E : Type 0} (weight : E → ℕ) where
  pub ticks_first : (e : E) (es : List E) → ticks_in weight (e ∷ es) ≡ capped (weight e + ticks_in weight es)
  unfolding ticks_in
  ticks_first e es = refl

  pub no_ticks_in : ticks_in weight [] ≡ 0
  unfolding ticks_in
  no_ticks_in = refl

  swap : (a b n : ℕ) → capped (a + capped (b + n)) ≡ capped (b + capped (a + n))
  swap a b n = grind arith

  ticks_last : (es : List E) (e : E) → ticks_in weight (es ++ e ∷ []) ≡ capped (weight e + ticks_in weight es)
  ticks_last [] e = ticks_first e []
  ticks_last (x ∷ es) e =
      ticks_first x (es ++ e ∷ []) ∙ (ap (λ (n : ℕ). capped (weight x + n)) (ticks_last es e) ∙ (swap (weight x) (weight e) (ticks_in weight es) ∙ ap (λ (n : ℕ). capped (weight e + n)) (sym (ticks_first x es))))

  pub ticks_reverse : (es : List E) → ticks_in weight (reverse es) ≡ ticks_in weight es
  ticks_reverse [] = refl
  ticks_reverse (e ∷ es) = ap (λ (xs : List E). ticks_in weight xs) (reverse-append (e ∷ []) es) ∙ (ticks_last (reverse es) e ∙ (ap (λ (n : ℕ). capped (weight e + n)) (ticks_reverse es) ∙ sym (ticks_first e es)))

pub twice : {A : Type 0} (xs : List A) → reverse (reverse xs) ≡ xs
twice [] = refl
twice {A = A} (x ∷ xs) = ap (λ (ys : List A). reverse ys) (reverse-append (x ∷ []) xs) ∙ (reverse-append (reverse xs) (x ∷ []) ∙ ap (λ (ys : List A). x ∷ ys) (twice xs))

in_front : {A : Type 0} {e x : A} {xs : List A} → IsIn e (x ∷ xs) → (e ≡ x) ⊎ IsIn e xs
in_front here = inl refl
in_front (there i) = inr i

in_last : {A : Type 0} {e : A} (xs : List A) (x : A) → IsIn e (xs ++ x ∷ []) → IsIn e xs ⊎ (e ≡ x)
in_last {e = e} [] x i = go (in_front i)
  where
    go : (e ≡ x) ⊎ IsIn e [] → IsIn e [] ⊎ (e ≡ x)
    go (inl q) = inr q
    go (inr h) = inl h
in_last (y ∷ ys) x here = inl here
in_last {e = e} (y ∷ ys) x (there i) = go (in_last ys x i)
  where
    go : IsIn e ys ⊎ (e ≡ x) → IsIn e (y ∷ ys) ⊎ (e ≡ x)
    go (inl h) = inl (there h)
    go (inr q) = inr q

pub in_reverse : {A : Type 0} {e : A} (xs : List A) → IsIn e (reverse xs) → IsIn e xs
in_reverse [] i = i
in_reverse {A = A} {e = e} (x ∷ xs) i = go (in_last (reverse xs) x (subst (λ (ys : List A). IsIn e ys) (reverse-append (x ∷ []) xs) i)) (λ h. in_reverse xs h)
  where
    go : IsIn e (reverse xs) ⊎ (e ≡ x) → (IsIn e (reverse xs) → IsIn e xs) → IsIn e (x ∷ xs)
    go (inl h) again = there (again h)
    go (inr q) again = subst (λ (y : A). IsIn y (x ∷ xs)) (sym q) here
