-- Small facts on tests, options and lists.
use Rattle.std.proofs.Common.{◌≡◌, ℕ, ◌<◌, zero, suc, refl, sym, ap, ◌∙◌, List, [], ◌∷◌, ◌⊎◌, inl, inr, Bool, true, false, Option, Some, None, arith, length}
use Rattle.std.specs.Prelude.{◌&&◌, ◌||◌, ◌↔◌, IsTrue, MatchOption, is_some, not, slice_get}

pub bools : (b : Bool) → (b ≡ true) ⊎ (b ≡ false)
bools true = inl refl
bools false = inr refl

pub both : (a b : Bool) → (a && b) ≡ true → (a ≡ true) × (b ≡ true)
both true b h = (refl, h)
both false b h = absurd cc

pub both_of : (a b : Bool) → a ≡ true → b ≡ true → (a && b) ≡ true
both_of a b h k = rw (h, k) refl

pub or_cases : (a b : Bool) → (a || b) ≡ true → (a ≡ true) ⊎ (b ≡ true)
or_cases true b h = inl refl
or_cases false b h = inr h

pub or_left : (a b : Bool) → a ≡ true → (a || b) ≡ true
or_left a b h = rw h refl

pub or_right : (a b : Bool) → b ≡ true → (a || b) ≡ true
or_right true b h = refl
or_right false b h = h

pub clash : {A : Type 0} (b : Bool) → b ≡ true → b ≡ false → A
clash b h k = let e : true ≡ false = sym h ∙ k in absurd cc

pub some_is : {A : Type 0} {a b : A} → Some a ≡ Some b → a ≡ b
some_is e = cc

pub some_none : {A : Type 0} {a : A} → Some a ≡ None → ⊥
some_none e = absurd cc

pub same_at : {A : Type 0} {o : Option A} {a b : A} → o ≡ Some a → o ≡ Some b → a ≡ b
same_at h k = some_is (sym h ∙ k)

pub options : {A : Type 0} (o : Option A) → (o ≡ None) ⊎ ((a : A) × (o ≡ Some a))
options None = inl refl
options (Some a) = inr (a, refl)

-- a list has a value at each of its places
pub value_within : {A : Type 0} (xs : List A) (k : ℕ) → k < length xs → (a : A) × (slice_get xs k ≡ Some a)
value_within [] k h = absurd (omega (arith, h))
value_within (x ∷ xs) zero h = (x, refl)
value_within (x ∷ xs) (suc k) h = value_within xs k (omega (arith, h))

-- three ways in which two numbers stand
pub compared : (a b : ℕ) → (a < b) ⊎ ((a ≡ b) ⊎ (b < a))
compared zero zero = inr (inl refl)
compared zero (suc b) = inl (omega arith)
compared (suc a) zero = inr (inr (omega arith))
compared (suc a) (suc b) = go (compared a b)
  where
    go : (a < b) ⊎ ((a ≡ b) ⊎ (b < a)) → (suc a < suc b) ⊎ ((suc a ≡ suc b) ⊎ (suc b < suc a))
    go (inl h) = inl (omega (arith, h))
    go (inr (inl e)) = inr (inl (ap suc e))
    go (inr (inr h)) = inr (inr (omega (arith, h)))

pub not_false : (b : Bool) → not b ≡ false → b ≡ true
not_false true h = refl
not_false false h = absurd cc

-- options of which one half is known
pub some_alone : {A : Type 0} (P R : Type 0) (Q S : A → Type 0) (o : Option A) → is_some o ≡ true → ((a : A) → o ≡ Some a → Q a → S a) → MatchOption o P Q → MatchOption o R S
some_alone P R Q S None h f m = absurd cc
some_alone P R Q S (Some a) h f m = f a refl m

pub some_told : {A : Type 0} (R : Type 0) (S : A → Type 0) (o : Option A) → is_some o ≡ true → ((a : A) → o ≡ Some a → S a) → MatchOption o R S
some_told R S None h f = absurd cc
some_told R S (Some a) h f = f a refl

pub none_alone : {A : Type 0} (P : Type 0) (Q : A → Type 0) (o : Option A) → is_some o ≡ false → MatchOption o P Q → P
none_alone P Q None h m = m
none_alone P Q (Some a) h m = absurd cc

pub none_is : {A : Type 0} (o : Option A) → is_some o ≡ false → o ≡ None
none_is None h = refl
none_is (Some a) h = absurd cc

pub none_tells : {A P : Type 0} {Q : A → Type 0} (o : Option A) → MatchOption o P Q → ((a : A) → Q a → P → ⊥) → (result : Bool) → is_some o ≡ not result → IsTrue result ↔ P
none_tells None m n true e = (λ t. m, λ p. refl)
none_tells None m n false e = absurd cc
none_tells (Some a) m n true e = absurd cc
none_tells (Some a) m n false e = (λ t. absurd cc, λ p. absurd (n a m p))
