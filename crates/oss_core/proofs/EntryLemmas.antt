-- Entries of a dependency system: their places in the list, and lists that grow.
use Rattle.std.proofs.Common.{◌≡◌, ℕ, ◌<◌, ◌≤◌, refl, sym, subst, ap, ◌∙◌, List, [], ◌∷◌, ◌++◌, ◌⊎◌, inl, inr, Bool, true, false, arith, eq-eqb, eqb-true, Some}
use Rattle.std.specs.Prelude.{◌&&◌, ◌==◌, if◌then◌else◌, nat_le, nat_lt}
use Rattle.std.proofs.lemmas.Bool.Decides.{nat_tests}
use Rattle.oss_syntax.specs.declared.access.Access.{Access}
use Rattle.oss_model.specs.Order.{IsIn, here, there, IsSuffix, whole, longer}
use Rattle.oss_model.specs.Rights.{in_access}
use Rattle.oss_deps.specs.declared.opened.Open.{Open}
use Rattle.oss_deps.specs.Opens.{access_at, is_some_access, names, mode_at, mode_in, Precedes, first, later, HasOpened, HasCover, IsKnown, IsOnce, IsRising, AreOrdered, none, one, AreOpens}
use Rattle.oss_core.specs.Below.{MayOpen}

pub in_cases : {A : Type 0} {z w : A} {zs : List A} → IsIn z (w ∷ zs) → (z ≡ w) ⊎ IsIn z zs
in_cases here = inl refl
in_cases (there h) = inr h

pub in_none : {A : Type 0} {z : A} → IsIn z [] → ⊥
in_none h = elim h [ ]

pub bools : (b : Bool) → (b ≡ true) ⊎ (b ≡ false)
bools true = inl refl
bools false = inr refl

pub both : (a b : Bool) → (a && b) ≡ true → (a ≡ true) × (b ≡ true)
both true b h = (refl, h)
both false b h = absurd cc

pub both_of : (a b : Bool) → a ≡ true → b ≡ true → (a && b) ≡ true
both_of a b h k = rw (h, k) refl

pub in_suffix : {A : Type 0} {x : A} {xs ys : List A} → IsSuffix (x ∷ xs) ys → IsIn x ys
in_suffix whole = here
in_suffix (longer s) = there (in_suffix s)

pub suffix_rest : {A : Type 0} {x : A} {xs ys : List A} → IsSuffix (x ∷ xs) ys → IsSuffix xs ys
suffix_rest whole = longer whole
suffix_rest (longer s) = longer (suffix_rest s)

pub suffix_has : {A : Type 0} {x : A} {xs ys : List A} → IsSuffix xs ys → IsIn x xs → IsIn x ys
suffix_has whole i = i
suffix_has (longer s) i = there (suffix_has s i)

-- a child stands behind its creator
pub behind : (o : Open) (rest : List Open) {opens : List Open} → AreOrdered opens → IsSuffix (o ∷ rest) opens → (q : Open) → IsIn q opens → q.parent ≡ o.task → IsIn q rest
behind o rest none s q i e = elim i [ ]
behind o rest (one z d par ord) whole q here e = absurd (par o here (sym e))
behind o rest (one z d par ord) whole q (there i) e = i
behind o rest (one z d par ord) (longer s) q here e = absurd (par o (there (in_suffix s)) (sym e))
behind o rest (one z d par ord) (longer s) q (there i) e = behind o rest ord s q i e

-- each number is opened once
pub one_entry : {opens : List Open} → AreOrdered opens → (o q : Open) → IsIn o opens → IsIn q opens → o.task ≡ q.task → o ≡ q
one_entry none o q i j e = elim i [ ]
one_entry (one z d par ord) o q here here e = refl
one_entry (one z d par ord) o q here (there j) e = absurd (d q j (sym e))
one_entry (one z d par ord) o q (there i) here e = absurd (d o i e)
one_entry (one z d par ord) o q (there i) (there j) e = one_entry ord o q i j e

pub test_of : (c u : ℕ) (o : Open) → o.parent ≡ u → names c o ≡ true → ((o.parent == u) && names c o) ≡ true
test_of c u o e n = both_of (o.parent == u) (names c o) (eq-eqb o.parent u e) n

pub part_below : (t x y z : Bool) → (if t then (x && y) && z else z) ≡ true → t ≡ true → (x ≡ true) × (y ≡ true)
part_below true x y z h e = both x y (both (x && y) z h).0
part_below false x y z h e = absurd cc

pub part_rest : (t x y z : Bool) → (if t then (x && y) && z else z) ≡ true → z ≡ true
part_rest true x y z h = (both (x && y) z h).1
part_rest false x y z h = h

pub whole_below : (t x y z : Bool) → (t ≡ true → (x ≡ true) × (y ≡ true)) → z ≡ true → (if t then (x && y) && z else z) ≡ true
whole_below true x y z f h = both_of (x && y) z (both_of x y (f refl).0 (f refl).1) h
whole_below false x y z f h = h

pub precedes_in : {A : Type 0} {x y : A} {xs : List A} → Precedes x y xs → IsIn x xs
precedes_in (first i) = here
precedes_in (later h) = there (precedes_in h)

pub precedes_in_last : {A : Type 0} {x y : A} {xs : List A} → Precedes x y xs → IsIn y xs
precedes_in_last (first i) = there i
precedes_in_last (later h) = there (precedes_in_last h)

mode_past : (c : ℕ) (y o : Open) (rest : List Open) → (y.task ≡ o.task → ⊥) → mode_in rest c o.task ≡ mode_at c o → mode_in (y ∷ rest) c o.task ≡ mode_at c o
mode_past c y o rest n h = go (bools (y.task == o.task))
  where
    go : ((y.task == o.task) ≡ true) ⊎ ((y.task == o.task) ≡ false) → mode_in (y ∷ rest) c o.task ≡ mode_at c o
    go (inl t) = absurd (n (eqb-true y.task o.task t))
    go (inr t) = rw t h

pub mode_is : (c : ℕ) {opens : List Open} → AreOrdered opens → (o : Open) → IsIn o opens → mode_in opens c o.task ≡ mode_at c o
mode_is c none o i = elim i [ ]
mode_is c (one z d par ord) o here = rw (eq-eqb o.task o.task refl) refl
mode_is c (one {o = y} {rest = rest} z d par ord) o (there i) = mode_past c y o rest (λ e. d o i (sym e)) (mode_is c ord o i)

pub named_at : (o : Open) (c : ℕ) (a : Access) → access_at o.accesses c ≡ Some a → names c o ≡ true
named_at o c a e = ap is_some_access e

pub in_front : {A : Type 0} {x : A} (xs ys : List A) → IsIn x xs → IsIn x (xs ++ ys)
in_front [] ys i = elim i [ ]
in_front (x ∷ xs) ys here = here
in_front (z ∷ xs) ys (there i) = there (in_front xs ys i)

pub in_last : {A : Type 0} (xs : List A) (x : A) → IsIn x (xs ++ x ∷ [])
in_last [] x = here
in_last (z ∷ xs) x = there (in_last xs x)

only_one : {A : Type 0} {x y : A} → IsIn x (y ∷ []) → x ≡ y
only_one here = refl
only_one (there i) = elim i [ ]

first_of : {A : Type 0} {x z : A} {xs : List A} → IsIn x (z ∷ xs) → (x ≡ z) ⊎ IsIn x xs
first_of here = inl refl
first_of (there i) = inr i

pub in_added : {A : Type 0} {x : A} (xs : List A) (y : A) → IsIn x (xs ++ y ∷ []) → IsIn x xs ⊎ (x ≡ y)
in_added [] y i = inr (only_one i)
in_added {A = A} {x = x} (z ∷ xs) y here = inl here
in_added {A = A} {x = x} (z ∷ xs) y (there i) = go (in_added xs y i)
  where
    go : {w : A} → IsIn x xs ⊎ (x ≡ y) → IsIn x (w ∷ xs) ⊎ (x ≡ y)
    go (inl j) = inl (there j)
    go (inr e) = inr e

abbrev more_opened : (opens : List Open) (o : Open) (c v : ℕ) → HasOpened opens c v → HasOpened (opens ++ o ∷ []) c v
more_opened opens o c v h = record { entry = h.entry; listed = in_front opens (o ∷ []) h.listed; number = h.number; named = h.named }

more_cover : (opens : List Open) (o q : Open) (c : ℕ) → HasCover opens c q → HasCover (opens ++ o ∷ []) c q
more_cover opens o q c h = record { above = more_opened opens o c q.parent h.above; covered = h.covered }

more_known : (opens : List Open) (o : Open) (t : ℕ) → IsKnown opens t → IsKnown (opens ++ o ∷ []) t
more_known opens o t (inl z) = inl z
more_known opens o t (inr h) = inr (record { entry = h.entry; listed = in_front opens (o ∷ []) h.listed; number = h.number })

-- a list that goes on by an entry with a number of its own
ordered_added : (opens : List Open) (o : Open) → AreOrdered opens → (o.task ≡ 0 → ⊥) → ((q : Open) → IsIn q opens → q.task ≡ o.task → ⊥) → (o.task ≡ o.parent → ⊥)
    → ((q : Open) → IsIn q opens → o.task ≡ q.parent → ⊥) → AreOrdered (opens ++ o ∷ [])
ordered_added [] o none z fresh self par = one z (λ q i. elim i [ ]) (λ q i e. self (ap (λ (x : Open). x.task) (sym (only_one i)) ∙ e)) none
ordered_added (x ∷ rest) o (one a d p ord) z fresh self par =
    one a (λ q i e. apart q (in_added rest o i) e) (λ q i e. other q (first_of i) e)
    (ordered_added rest o ord z (λ q i. fresh q (there i)) self (λ q i. par q (there i)))
  where
    apart : (q : Open) → IsIn q rest ⊎ (q ≡ o) → q.task ≡ x.task → ⊥
    apart q (inl i) e = d q i e
    apart q (inr k) e = fresh x here (sym (ap (λ (y : Open). y.task) (sym k) ∙ e))

    last : (q : Open) → IsIn q rest ⊎ (q ≡ o) → q.task ≡ x.parent → ⊥
    last q (inl i) e = p q (there i) e
    last q (inr k) e = par x here (ap (λ (y : Open). y.task) (sym k) ∙ e)

    other : (q : Open) → (q ≡ x) ⊎ IsIn q (rest ++ o ∷ []) → q.task ≡ x.parent → ⊥
    other q (inl k) e = p x here (ap (λ (y : Open). y.task) (sym k) ∙ e)
    other q (inr i) e = last q (in_added rest o i) e

-- the cells of an access
pub bounds : (a : Access) (c : ℕ) → in_access a c ≡ true → (a.range.lo ≤ c) × (c < a.range.hi)
bounds a c h = let k = both (nat_le a.range.lo c) (nat_lt c a.range.hi) h in (grind (arith, nat_tests, k.0), grind (arith, nat_tests, k.1))

-- each access behind another one begins at or behind its end
pub rising_behind : (a : Access) (rest : List Access) → IsRising (a ∷ rest) → (b : Access) → IsIn b rest → a.range.hi ≤ b.range.lo
rising_behind a [] r b i = elim i [ ]
rising_behind a (x ∷ rest) r b here = r.0
rising_behind a (x ∷ rest) r b (there i) = let k = rising_behind x rest r.1 b i in let l = r.0 in let o = x.range.ordered in omega (arith, k, l, o)

-- the accesses behind the first rise too
pub rising_rest : (a : Access) (rest : List Access) → IsRising (a ∷ rest) → IsRising rest
rising_rest a [] r = tt
rising_rest a (x ∷ rest) r = r.1

-- accesses that rise name no cell twice
pub rising_once : (accesses : List Access) → IsRising accesses → IsOnce accesses
rising_once [] r a c i h = elim i [ ]
rising_once (x ∷ rest) r a c here h = rw h refl
rising_once (x ∷ rest) r a c (there i) h = past (bools (in_access x c)) (rising_once rest (rising_rest x rest r) a c i h)
  where
    past : (in_access x c ≡ true) ⊎ (in_access x c ≡ false) → access_at rest c ≡ Some a → access_at (x ∷ rest) c ≡ Some a
    past (inl t) e =
        let l = rising_behind x rest r a i in
        let m = bounds x c t in
        let k = bounds a c h in
        absurd (omega (arith, l, m.1, k.0))
    past (inr t) e = rw t e

pub opens_added : (opens : List Open) (o : Open) → AreOpens opens → MayOpen opens o → AreOpens (opens ++ o ∷ [])
opens_added opens o r can =
    record {
      ordered = ordered_added opens o r.ordered can.not_main (λ q i e. can.fresh (record { entry = q; listed = i; number = e })) (λ e. unknown o.parent can.parent e) (λ q i e. unknown q.parent (r.rooted q i) e);
      covered = λ c q i n. covered c q (in_added opens o i) n;
      rooted = λ q i. rooted q (in_added opens o i);
      once = λ q i. once q (in_added opens o i);
    }
  where
    unknown : (p : ℕ) → IsKnown opens p → o.task ≡ p → ⊥
    unknown p (inl z) e = can.not_main (e ∙ z)
    unknown p (inr h) e = can.fresh (record { entry = h.entry; listed = h.listed; number = h.number ∙ sym e })

    wider : (c : ℕ) (q : Open) → (q.parent ≡ 0) ⊎ HasCover opens c q → (q.parent ≡ 0) ⊎ HasCover (opens ++ o ∷ []) c q
    wider c q (inl z) = inl z
    wider c q (inr h) = inr (more_cover opens o q c h)

    covered : (c : ℕ) (q : Open) → IsIn q opens ⊎ (q ≡ o) → names c q ≡ true → (q.parent ≡ 0) ⊎ HasCover (opens ++ o ∷ []) c q
    covered c q (inl i) n = wider c q (r.covered c q i n)
    covered c q (inr k) n = subst (λ (x : Open). (x.parent ≡ 0) ⊎ HasCover (opens ++ o ∷ []) c x) (sym k) (wider c o (can.covered c (subst (λ (x : Open). names c x ≡ true) k n)))

    rooted : (q : Open) → IsIn q opens ⊎ (q ≡ o) → IsKnown (opens ++ o ∷ []) q.parent
    rooted q (inl i) = more_known opens o q.parent (r.rooted q i)
    rooted q (inr k) = subst (λ (x : Open). IsKnown (opens ++ o ∷ []) x.parent) (sym k) (more_known opens o o.parent can.parent)

    once : (q : Open) → IsIn q opens ⊎ (q ≡ o) → IsOnce q.accesses
    once q (inl i) = r.once q i
    once q (inr k) = subst (λ (x : Open). IsOnce x.accesses) (sym k) can.once
