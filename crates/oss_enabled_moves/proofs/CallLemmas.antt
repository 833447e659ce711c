-- Small facts for the calls of the code: places of lists, ranges of waits, and dependency systems that are seen alike.
use Rattle.std.proofs.Common.{◌≡◌, ℕ, ◌<◌, ◌≤◌, ◌⊎◌, inl, inr, refl, sym, subst, ◌∙◌, arith, Bool, true, false, List, [], ◌∷◌, Some, None, ◌↔◌, suc, zero}
use Rattle.std.specs.Prelude.{IsTrue, slice_get, ◌==◌, ◌||◌}
use Rattle.std.proofs.lemmas.Bool.Decides.{nat_tests}
use Rattle.oss_syntax.specs.declared.access.Range.{Range}
use Rattle.oss_syntax.specs.declared.access.Access.{Access}
use Rattle.oss_model.specs.Context.{in_clauses}
use Rattle.oss_model.specs.Order.{IsIn, here, there}
use Rattle.oss_model.specs.Rights.{in_access}
use Rattle.oss_meaning.specs.Clauses.{waited_for}
use Rattle.oss_meaning.specs.Sections.{declared_on}
use Rattle.oss_deps.specs.declared.opened.Open.{Open}
use Rattle.oss_deps.specs.Opens.{AreChildrenDone}
use Rattle.oss_deps.specs.Seen.{Seen, IsSame}
use Rattle.oss_deps.proofs.OpenLemmas.{in_bounds, bounds_in}

pub some_is : {A : Type 0} {a b : A} → Some a ≡ Some b → a ≡ b
some_is e = cc

pub which : (v w : ℕ) → (v ≡ w) ⊎ (v ≡ w → ⊥)
which v w = go (v == w) refl
  where
    go : (b : Bool) → (v == w) ≡ b → (v ≡ w) ⊎ (v ≡ w → ⊥)
    go true e = inl (grind (arith, nat_tests, e))
    go false e = inr (λ h. absurd (grind (arith, nat_tests, e, h)))

-- what stands at a place of a list is in it
pub in_list : {A : Type 0} (xs : List A) (n : ℕ) (y : A) → slice_get xs n ≡ Some y → IsIn y xs
in_list [] n y g = absurd cc
in_list (z ∷ xs) zero y g = let k : z ≡ y = some_is g in subst (λ t. IsIn t (z ∷ xs)) k here
in_list (z ∷ xs) (suc n) y g = there (in_list xs n y g)

-- a test at the one thing that stands at a place tells of the place
pub at_place : {A : Type 0} {F : A → Type 0} {R : Type 0} {b : Bool} (xs : List A) (v : ℕ) (x : A) → Some x ≡ slice_get xs v → (IsTrue b ↔ F x) → ((y : A) → slice_get xs v ≡ Some y → F y → R) → (R → (y : A) × (slice_get xs v ≡ Some y) × F y) → (IsTrue b ↔ R)
at_place {F = F} xs v x e t make take = (λ h. make x (sym e) (t.0 h), λ r. let k = take r in t.1 (subst F (some_is (sym k.1 ∙ sym e)) k.2))

-- nothing stands at the place
pub at_none : {A : Type 0} {F : A → Type 0} {R : Type 0} (xs : List A) (v : ℕ) → None ≡ slice_get xs v → (R → (y : A) × (slice_get xs v ≡ Some y) × F y) → (IsTrue false ↔ R)
at_none xs v e take = (λ h. absurd cc, λ r. let k = take r in let n = k.1 in absurd cc)

-- the systems have the same cells given up
pub given_is : (a b : Seen) → IsSame a b → b.given ≡ a.given
given_is a b same = λ i t c. same.given t c i

-- systems that are seen alike are seen as one
pub seen_is : (a b : Seen) → IsSame a b → b ≡ a
seen_is a b same = λ i. record { opens = same.opens i; given = λ t c. same.given t c i; cut = λ k. same.cuts k i; reserved = same.reserved i }

pub seen_trans : (a b c : Seen) → IsSame a b → IsSame b c → IsSame a c
seen_trans a b c x y = record { opens = y.opens ∙ x.opens; given = λ t k. y.given t k ∙ x.given t k; cuts = λ k. y.cuts k ∙ x.cuts k; reserved = y.reserved ∙ x.reserved }

pub seen_same : (a : Seen) → IsSame a a
seen_same a = record { opens = refl; given = λ t k. refl; cuts = λ k. refl; reserved = refl }

-- what is done of children stands for the one as for the other
pub done_same : (a b : Seen) → IsSame a b → (v c : ℕ) → AreChildrenDone b.opens b.given v c → AreChildrenDone a.opens a.given v c
done_same a b same v c h = subst (λ (os : List Open). AreChildrenDone os a.given v c) same.opens (subst (λ (g : ℕ → ℕ → Bool). AreChildrenDone b.opens g v c) (given_is a b same) h)

pub done_back : (a b : Seen) → IsSame a b → (v c : ℕ) → AreChildrenDone a.opens a.given v c → AreChildrenDone b.opens b.given v c
done_back a b same v c h = subst (λ (os : List Open). AreChildrenDone os b.given v c) (sym same.opens) (subst (λ (g : ℕ → ℕ → Bool). AreChildrenDone a.opens g v c) (sym (given_is a b same)) h)

-- what a wait declares of a range
abbrev waits_on : Range → Access
waits_on r = record { range = r; mode = waited_for.mode; strong = waited_for.strong; fresh = waited_for.fresh }

-- a cell of a wait is one of its ranges
pub record InRange (ranges : List Range) (c : ℕ) : Type 0 where
  pub place : ℕ
  pub range : Range
  pub is : slice_get ranges place ≡ Some range
  pub from : range.lo ≤ c
  pub to : c < range.hi

pub range_of : (ranges : List Range) (c : ℕ) → in_clauses (declared_on waited_for ranges) c ≡ true → InRange ranges c
range_of [] c h = absurd cc
range_of (r ∷ rest) c h = go (range_of rest c) (either (in_access (waits_on r) c) (in_clauses (declared_on waited_for rest) c) h)
  where
    either : (a b : Bool) → (a || b) ≡ true → (a ≡ true) ⊎ (b ≡ true)
    either true b k = inl refl
    either false b k = inr k

    go : (in_clauses (declared_on waited_for rest) c ≡ true → InRange rest c) → (in_access (waits_on r) c ≡ true) ⊎ (in_clauses (declared_on waited_for rest) c ≡ true) → InRange (r ∷ rest) c
    go f (inl k) = let w = in_bounds (waits_on r) c k in record { place = 0; range = r; is = refl; from = w.0; to = w.1 }
    go f (inr k) = let w = f k in record { place = suc w.place; range = w.range; is = w.is; from = w.from; to = w.to }

or_right : (a b : Bool) → b ≡ true → (a || b) ≡ true
or_right true b h = refl
or_right false b h = h

pub in_range_of : (ranges : List Range) (c i : ℕ) (r : Range) → slice_get ranges i ≡ Some r → r.lo ≤ c → c < r.hi → in_clauses (declared_on waited_for ranges) c ≡ true
in_range_of [] c i r e l h = absurd cc
in_range_of (q ∷ rest) c zero r e l h =
    let k : q ≡ r = some_is e in
    let w = bounds_in (waits_on q) c (subst (λ (x : Range). x.lo ≤ c) (sym k) l) (subst (λ (x : Range). c < x.hi) (sym k) h) in
    rw w refl
in_range_of (q ∷ rest) c (suc i) r e l h = or_right (in_access (waits_on q) c) (in_clauses (declared_on waited_for rest) c) (in_range_of rest c i r e l h)
